-- Routes by position are those of the graph.
use Rattle.std.proofs.Common.{◌≡◌, ◌<◌, ◌+◌, ◌++◌, ℕ, List, [], ◌∷◌, refl, sym, ap, ap₂, ◌∙◌, subst, arith, Bool, true, false, cond, suc, ◌==◌, map, length, get_or}
use Rattle.std.proofs.lemmas.Bool.{false_from_ne_true}
use Rattle.std.proofs.lemmas.Grind.{get_or_default_zero}
use Rattle.std.proofs.lemmas.List.{get_or-map, ext_get_or}
use Rattle.std.proofs.lemmas.Option.{slice_get-get_or, slice_get-map}
use Rattle.std.specs.Prelude.{Option, None, Some, Contains, All, is_some, option_map, option_and_then, filter, slice_get}
use Rattle.std.specs.List.{find}
use Rattle.std.specs.Option.{option_flatten}
use Rattle.smp_bytes.proofs.Members.{contains_here, contains_later}
use Rattle.subnet_view.proofs.Apart.{contains_map as in_map}
use Rattle.subnet_view.proofs.Taken.{all_from}
use Rattle.port_graph.specs.declared.edge.Edge.{Edge}
use Rattle.port_graph.specs.Slopes.{ups_at, downs_at, down_distance, cost, same_number, port_down, port_up, next_port}
use Rattle.port_graph.specs.Heads.{edges_at as edges_by_index, heads}
use Rattle.port_graph.specs.NextPorts.{indexed, AreSlopes, AreNextPorts}
use Rattle.port_graph.proofs.Counts.{length_map}
use Rattle.port_graph.proofs.Lists.{contains_map, nothing_there}
use Rattle.port_graph.proofs.Indexing.{edges_below, all_indexed}
use Rattle.port_graph.proofs.Renaming.{next_port_renamed}
use Rattle.port_graph.proofs.Named.{AreNamed, renamed}
use Rattle.subnet_view.specs.SwitchEdges.{SwitchEdges}
use Rattle.subnet_view.specs.Graph.{guids_of, edges_at}
use Rattle.subnet_view.specs.GraphLaws.{IsGraph, IsSwitch}
use Rattle.subnet_view.specs.Components.{distance, in_one_component}
use Rattle.subnet_view.specs.SwitchGraph.{IsIndexOf}
use Rattle.subnet_view.proofs.EdgeLists.{has_end}
use Rattle.subnet_view.proofs.Components.{is_some_of, walk_of, walk_ends}
use Rattle.subnet_view.proofs.Walked.{map_same, IsMapped, mapped_more}
use Rattle.subnet_view.proofs.SwitchGraphs.{apart_by_index}
use Rattle.updown_routes.specs.Ranks.{rank_of, is_before, slope_of, slopes_of}
use Rattle.updown_routes.specs.Order.{IsOrder, ArePositions}
use Rattle.updown_routes.specs.Positions.{switch_at_position, by_position, AreAtPositions}
use Rattle.updown_routes.specs.Ports.{ports_to, ports_of, next_port_at, port_rows}
use Rattle.updown_routes.proofs.Before.{ups_filter, downs_filter, ups_are, downs_are, ups_have, downs_have}
use Rattle.updown_routes.proofs.LeastCosts.{no_cost_between}
use Rattle.updown_routes.proofs.Orders.{names_each_once}
use Rattle.updown_routes.proofs.PositionLists.{position_back}

-- a map of renamed elements
map_moved : {X Y Z : Type 0} (f : Y → Z) (g : X → Y) (h : X → Z) (xs : List X) → ((x : X) → Contains xs x → f (g x) ≡ h x) → map f (map g xs) ≡ map h xs
map_moved f g h [] e = refl
map_moved f g h (x ∷ xs) e =
    let first = e x (contains_here x xs) in
    let rest = map_moved f g h xs (λ y k. e y (contains_later x y xs k)) in
    λ i. first i ∷ rest i

module _ (graph : List SwitchEdges) (good : IsGraph graph) (order positions : List ℕ) (is : IsOrder (map (rank_of graph) (guids_of graph)) order)
    (are : ArePositions order positions) (ups downs : List (List Edge)) (by : AreAtPositions graph order ups downs) where
  abbrev guids : List ℕ
  guids = guids_of graph

  abbrev name : ℕ → ℕ
  name = switch_at_position graph order

  as_many : length order ≡ length guids
  as_many = is.all ∙ length_map (rank_of graph) guids

  -- positions differ as their switches do
  names_apart : (p q : ℕ) → p < length order → q < length order → name p ≡ name q → p ≡ q
  names_apart p q h k e =
      let once = names_each_once (map (rank_of graph) guids) order is in
      once.apart p q h k
      (apart_by_index guids good.rising (get_or order p 0) (get_or order q 0) (omega (arith, once.within p h, as_many))
      (omega (arith, once.within q k, as_many)) e)

  -- the edges of the switch at a position lead to those at the positions of its edges
  up_from : (p : ℕ) (e : Edge) → p < length order → Contains (edges_by_index ups p) e → Contains (ups_at (slopes_of graph) (name p)) (by_position graph order e)
  up_from p e h k =
      subst (λ (es : List Edge). Contains es (by_position graph order e)) (sym (by.each p h).up) (in_map (by_position graph order) (edges_by_index ups p) e k)

  down_from : (p : ℕ) (e : Edge) → p < length order → Contains (edges_by_index downs p) e
      → Contains (downs_at (slopes_of graph) (name p)) (by_position graph order e)
  down_from p e h k =
      subst (λ (es : List Edge). Contains es (by_position graph order e)) (sym (by.each p h).down)
      (in_map (by_position graph order) (edges_by_index downs p) e k)

  -- a wire up from one position is there as a wire down to it
  back_up : (a b : ℕ) → Contains (heads downs a) b → Contains (heads ups b) a
  back_up a b h =
      let x = contains_map (λ (e : Edge). e.to) (edges_by_index downs a) b h in
      let here : a < length order = omega (arith, edges_below downs a x.0 x.1, by.all_down) in
      let there : b < length order = omega (arith, x.2, (by.each a here).to_position x.0 x.1) in
      let d = downs_are graph graph (name a) (by_position graph order x.0) (down_from a x.0 here x.1) in
      let y = contains_map (λ (e : Edge). e.to) (edges_at graph (name x.0.to)) (name a)
      (good.both_ways (name a) (name x.0.to) (has_end (edges_at graph (name a)) (by_position graph order x.0) d.0)) in
      let u = ups_have graph graph (name x.0.to) y.0 y.1 (ap (λ g. is_before graph g (name x.0.to)) y.2 ∙ d.1) in
      let up : Contains (ups_at (slopes_of graph) (name b)) y.0 = subst (λ (p : ℕ). Contains (ups_at (slopes_of graph) (name p)) y.0) x.2 u in
      let z = contains_map (by_position graph order) (edges_by_index ups b) y.0 (subst (λ (es : List Edge). Contains es y.0) (by.each b there).up up) in
      let same : z.0.to ≡ a = names_apart z.0.to a (omega (arith, (by.each b there).to_lesser z.0 z.1)) here (ap (λ (e : Edge). e.to) z.2 ∙ y.2) in
      subst (λ (p : ℕ). Contains (heads ups b) p) same (has_end (edges_by_index ups b) z.0 z.1)

  -- and a wire down as a wire up
  back_down : (a b : ℕ) → Contains (heads ups a) b → Contains (heads downs b) a
  back_down a b h =
      let x = contains_map (λ (e : Edge). e.to) (edges_by_index ups a) b h in
      let here : a < length order = omega (arith, edges_below ups a x.0 x.1, by.all_up) in
      let there : b < length order = omega (arith, x.2, (by.each a here).to_lesser x.0 x.1) in
      let u = ups_are graph graph (name a) (by_position graph order x.0) (up_from a x.0 here x.1) in
      let y = contains_map (λ (e : Edge). e.to) (edges_at graph (name x.0.to)) (name a)
      (good.both_ways (name a) (name x.0.to) (has_end (edges_at graph (name a)) (by_position graph order x.0) u.0)) in
      let d = downs_have graph graph (name x.0.to) y.0 y.1 (ap (λ g. is_before graph (name x.0.to) g) y.2 ∙ u.1) in
      let down : Contains (downs_at (slopes_of graph) (name b)) y.0 = subst (λ (p : ℕ). Contains (downs_at (slopes_of graph) (name p)) y.0) x.2 d in
      let z = contains_map (by_position graph order) (edges_by_index downs b) y.0 (subst (λ (es : List Edge). Contains es y.0) (by.each b there).down down) in
      let same : z.0.to ≡ a = names_apart z.0.to a ((by.each b there).to_position z.0 z.1) here (ap (λ (e : Edge). e.to) z.2 ∙ y.2) in
      subst (λ (p : ℕ). Contains (heads downs b) p) same (has_end (edges_by_index downs b) z.0 z.1)

  -- the wires up and down by position are slopes
  pub are_slopes : AreSlopes ups downs
  are_slopes =
      record {
        all = by.all_down ∙ sym by.all_up;
        rise = λ a e h. (by.each a (omega (arith, edges_below ups a e h, by.all_up))).to_lesser e h;
        back_up = back_up;
        back_down = back_down;
      }

  are_named : AreNamed name (slopes_of graph) ups downs
  are_named =
      record {
        all = length_map (slope_of graph) graph ∙ sym (length_map (λ (c : SwitchEdges). c.guid) graph) ∙ sym as_many ∙ sym by.all_up;
        ups_are = λ a h. (by.each a (omega (arith, by.all_up))).up;
        downs_are = λ a h. (by.each a (omega (arith, by.all_up))).down;
        apart = λ a b h k e. names_apart a b (omega (arith, by.all_up)) (omega (arith, by.all_up)) e;
      }

  -- what is a position of a switch is one of the positions
  position_within : (p : ℕ) → Contains positions p → p < length ups
  position_within p h =
      let e : get_or positions h.0 0 ≡ p = sym (get_or_default_zero positions h.0 p h.1) ∙ h.2 in
      let b = position_back (map (rank_of graph) guids) order is positions are h.0 (omega (arith, h.1, are.all, is.all)) in
      omega (arith, e, b.1, by.all_up)

  -- each position is one of theirs
  pub positions_within : All (λ p. p < length ups) positions
  positions_within = all_from (λ p. p < length ups) positions position_within

  -- the switches at the positions are the switches by rising GUID
  switches_at_positions : guids ≡ map name positions
  switches_at_positions =
      ext_get_or 0 guids (map name positions) (sym as_many ∙ sym are.all ∙ sym (length_map name positions))
      (λ j h. let b = position_back (map (rank_of graph) guids) order is positions are j (omega (arith, length_map (rank_of graph) guids)) in
      sym (get_or-map name positions j 0 0 (omega (arith, are.all, as_many)) ∙ ap (λ k. get_or guids k 0) b.0))

  port_at_positions : (s t : ℕ) → Contains positions s → Contains positions t → next_port (slopes_of graph) (name s) (name t)
      ≡ next_port (indexed ups downs) s t
  port_at_positions s t h k =
      let all = all_indexed ups downs are_slopes in
      next_port_renamed name (slopes_of graph) (indexed ups downs) (renamed name (slopes_of graph) ups downs are_slopes are_named) s t
      (omega (arith, all, position_within s h)) (omega (arith, all, position_within t k))

  -- the next ports by position are those of the switches
  pub rows_are : port_rows ups downs positions ≡ ports_of graph
  rows_are =
      let rows : List ℕ → List (List (Option ℕ)) = λ gs. map (λ t. map (λ s. next_port (slopes_of graph) s t) gs) gs in
      let row : ℕ → List (Option ℕ) = λ t. map (λ s. next_port (slopes_of graph) s t) (map name positions) in
      sym (ap rows switches_at_positions ∙ map_moved row name (λ t. map (λ s. next_port (indexed ups downs) s t) positions) positions
      (λ t h. map_moved (λ s. next_port (slopes_of graph) s (name t)) name (λ s. next_port (indexed ups downs) s t) positions
      (λ s k. port_at_positions s t k h)))

-- target by target ------------------------------------------------------------------------

module _ (ups downs : List (List Edge)) (positions : List ℕ) (within : All (λ p. p < length ups) positions) where
  -- the next ports to a target
  abbrev pub row_to : ℕ → List (Option ℕ)
  row_to t = map (λ s. next_port (indexed ups downs) s t) positions

  row_found : (t : ℕ) (found : List (Option ℕ)) → AreNextPorts ups downs t found → map (λ p. get_or found p None) positions ≡ row_to t
  row_found t found are = map_same (λ p. get_or found p None) (λ s. next_port (indexed ups downs) s t) positions
      (λ p h. are.next p (subst (λ (q : ℕ). q < length ups) h.2 (within h.0 p h.1)))

  -- the ports to one more target
  pub one_more_target : (i : ℕ) (rows : List (List (Option ℕ))) (found : List (Option ℕ)) → i < length positions
      → AreNextPorts ups downs (get_or positions i 0) found
      → IsMapped row_to positions rows i → IsMapped row_to positions (rows ++ map (λ p. get_or found p None) positions ∷ []) (i + 1)
  one_more_target i rows found h are so_far =
      let t = get_or positions i 0 in
      subst (λ (row : List (Option ℕ)). IsMapped row_to positions (rows ++ row ∷ []) (i + 1)) (sym (row_found t found are))
      (mapped_more row_to positions rows i t h (sym (get_or_default_zero positions i t h)) so_far)

-- read by index ---------------------------------------------------------------------------

-- the port in a row of a table of next ports
pub port_in_rows : (graph : List SwitchEdges) (i j : ℕ) → next_port_at graph i j
    ≡ option_and_then (λ row. option_flatten (slice_get row i)) (slice_get (ports_of graph) j)
port_in_rows graph i j =
    sym (ap (option_and_then (λ (row : List (Option ℕ)). option_flatten (slice_get row i))) (slice_get-map (ports_to graph) (guids_of graph) j)
    ∙ each (slice_get (guids_of graph) j))
  where
    flat : (f : ℕ → Option ℕ) (o : Option ℕ) → option_flatten (option_map f o) ≡ option_and_then f o
    flat f None = refl
    flat f (Some s) = refl

    each : (o : Option ℕ) → option_and_then (λ (row : List (Option ℕ)). option_flatten (slice_get row i)) (option_map (ports_to graph) o)
        ≡ option_and_then (λ t. option_and_then (λ s. next_port (slopes_of graph) s t) (slice_get (guids_of graph) i)) o
    each None = refl
    each (Some t) =
        ap option_flatten (slice_get-map (λ s. next_port (slopes_of graph) s t) (guids_of graph) i)
        ∙ flat (λ s. next_port (slopes_of graph) s t) (slice_get (guids_of graph) i)

-- by the indices of two switches
pub port_by_index : (graph : List SwitchEdges) (s t i j : ℕ) → IsIndexOf (guids_of graph) s i → IsIndexOf (guids_of graph) t j → next_port_at graph i j
    ≡ next_port (slopes_of graph) s t
port_by_index graph s t i j (h, e) (k, f) =
    let guids : List ℕ = guids_of graph in
    let at_i = slice_get-get_or guids i 0 h in
    let at_j = slice_get-get_or guids j 0 k in
    ap₂ (λ (a b : Option ℕ). option_and_then (λ y. option_and_then (λ x. next_port (slopes_of graph) x y) a) b) at_i at_j
    ∙ ap₂ (next_port (slopes_of graph)) e f

-- outside of the graph --------------------------------------------------------------------

module _ (graph : List SwitchEdges) (good : IsGraph graph) where
  -- what is no switch has no edges
  no_edges : (s : ℕ) → (IsSwitch graph s → ⊥) → edges_at graph s ≡ []
  no_edges s none = nothing_there (edges_at graph s) (λ e h. none (good.leads_to_switch e.to s (good.both_ways s e.to (has_end (edges_at graph s) e h))))

  -- and no next port
  pub no_port_from : (s t : ℕ) → (IsSwitch graph s → ⊥) → next_port (slopes_of graph) s t ≡ None
  no_port_from s t none =
      let slopes = slopes_of graph in
      let no_ups : ups_at slopes s ≡ [] = ups_filter graph graph s ∙ ap (filter (λ e. is_before graph e.to s)) (no_edges s none) in
      let no_downs : downs_at slopes s ≡ [] = downs_filter graph graph s ∙ ap (filter (λ e. is_before graph s e.to)) (no_edges s none) in
      let up : port_up slopes s t ≡ None =
      ap (λ es. option_map (λ (e : Edge). e.port) (find (λ e. same_number (option_map suc (cost slopes e.to t)) (cost slopes s t)) es)) no_ups in
      let down : port_down slopes s t ≡ None =
      ap (λ es. option_map (λ (e : Edge). e.port) (find (λ e. same_number (option_map suc (down_distance slopes e.to t)) (down_distance slopes s t)) es))
      no_downs in
      ap₂ (λ (d u : Option ℕ). cond (s == t) None (cond (is_some (down_distance slopes s t)) d u)) down up
      ∙ no_choice (s == t) (is_some (down_distance slopes s t))
    where
      no_choice : (a b : Bool) → ◌≡◌ {A = Option ℕ} (cond a None (cond b None None)) None
      no_choice true b = refl
      no_choice false true = refl
      no_choice false false = refl

  -- nor is there a next port to it
  pub no_port_to : (s t : ℕ) → IsSwitch graph s → (IsSwitch graph t → ⊥) → next_port (slopes_of graph) s t ≡ None
  no_port_to s t h none = (no_cost_between graph good s t h (false_from_ne_true (in_one_component graph s t) (λ e.
      let d = is_some_of (distance graph s t) e in none (walk_ends graph good d.0 s t h (walk_of graph good s t d.0 d.1))))).1
