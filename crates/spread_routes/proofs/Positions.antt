-- Switches by their indices, as the code finds them.
use Rattle.std.proofs.Common.{◌≡◌, ◌<◌, ◌+◌, ◌++◌, ℕ, zero, suc, List, [], ◌∷◌, refl, sym, ap, ◌∙◌, subst, arith, true, false, cond, Bool, ◌==◌, length, map, take, get_or, All, append-nil}
use Rattle.std.proofs.lemmas.Bool.{lt-ltb, le-ltb, eqb-true}
use Rattle.std.proofs.lemmas.List.{ext_get_or, get_or-map, get_or_default, map-append, take_more}
use Rattle.std.specs.Prelude.{Contains, Option, None, Some, filter, nat_lt}
use Rattle.smp_bytes.proofs.Members.{contains_here, contains_later}
use Rattle.port_graph.specs.declared.edge.Edge.{Edge}
use Rattle.port_graph.specs.Heads.{edges_at}
use Rattle.port_graph.proofs.Counts.{length_map}
use Rattle.spread_labels.specs.Orders.{position_of, positioned_edge}
use Rattle.spread_labels.proofs.Earlier.{filter_more}
use Rattle.subnet_view.specs.SwitchEdges.{SwitchEdges}
use Rattle.subnet_view.specs.Graph.{guids_of}
use Rattle.subnet_view.specs.GraphLaws.{IsGraph}
use Rattle.subnet_view.specs.SwitchGraph.{AreEdgesAt, AreEdgesByIndex, IsIndexIn, LeadBelow, by_guid, switch_at}
use Rattle.spread_labels.proofs.Growing.{contains_at}
use Rattle.spread_labels.specs.declared.key_order.VertexKey.{VertexKey}
use Rattle.spread_labels.specs.VertexPositions.{ArePositions, StandOnce}
use Rattle.spread_routes.specs.declared.lid_digit.LidDigit.{LidDigit}
use Rattle.spread_routes.specs.AdapterChoices.{AdapterChoices}
use Rattle.spread_routes.specs.Rule.{by_index, by_positions, order_by_keys}
use Rattle.spread_routes.specs.Spread.{indices_of, lid_digit_at}
use Rattle.spread_routes.specs.Exits.{IsByPositions, no_lid_digit}
use Rattle.spread_routes.proofs.Indices.{index_of_switch, rows}
use Rattle.spread_routes.proofs.Names.{all_positioned, grows}

module _ (graph : List SwitchEdges) where
  pub indexed : length (by_index graph) ≡ length graph
  indexed = length_map (λ (c : SwitchEdges). map (positioned_edge (guids_of graph)) c.edges) graph

  pub named : length (guids_of graph) ≡ length graph
  named = length_map (λ (c : SwitchEdges). c.guid) graph

  module _ (good : IsGraph graph) where
    -- edges by GUIDs and back
    turned : (es : List Edge) → LeadBelow (length graph) es → map (positioned_edge (guids_of graph)) (map (by_guid (guids_of graph)) es) ≡ es
    turned [] lead = refl
    turned (e ∷ es) lead =
        let here = index_of_switch graph good e.to (omega (arith, lead e (contains_here e es), named)) in
        (λ i. record { port = e.port; to = here i } ∷ turned es (λ x h. lead x (contains_later e x es h)) i)

    -- the row of a switch
    row_by_index : (i : ℕ) (es : List Edge) → i < length graph → LeadBelow (length graph) es → AreEdgesAt graph i es → es ≡ edges_at (by_index graph) i
    row_by_index i es h lead are =
        let below : i < length (guids_of graph) = omega (arith, named) in
        sym (turned es lead) ∙ ap (map (positioned_edge (guids_of graph))) are
        ∙ sym (rows (positioned_edge (guids_of graph)) graph (switch_at graph i) (contains_at (guids_of graph) i below))
        ∙ ap (edges_at (by_index graph)) (index_of_switch graph good i below)

    -- edges to indices are these edges
    pub edges_are : (edges : List (List Edge)) → AreEdgesByIndex graph edges → edges ≡ by_index graph
    edges_are edges by =
        ext_get_or [] edges (by_index graph) (by.as_many ∙ sym indexed)
        (λ i h. let below : i < length graph = omega (arith, by.as_many) in
        row_by_index i (edges_at edges i) below (λ e k. omega (arith, by.to_switches i e k, by.as_many)) (by.each i below))

  -- the indices of the first GUIDs
  abbrev pub AreIndices : List ℕ → ℕ → List ℕ → Type 0
  AreIndices guids k found = (found ≡ indices_of graph (take k guids)) × All (λ i. i < length graph) found

  step : (guids : List ℕ) (k g : ℕ) (b : Bool) → k < length guids → g ≡ get_or guids k g → nat_lt (position_of (guids_of graph) g) (length graph) ≡ b
      → indices_of graph (take (k + 1) guids) ≡ indices_of graph (take k guids) ++ cond b (position_of (guids_of graph) g ∷ []) []
  step guids k g b h is test =
      let index = position_of (guids_of graph) in
      let more : take (k + 1) guids ≡ take k guids ++ g ∷ [] = take_more guids k g h ∙ ap (λ x. take k guids ++ x ∷ []) (sym is) in
      ap (indices_of graph) more ∙ ap (filter (λ i. nat_lt i (length graph))) (map-append index (take k guids) (g ∷ []))
      ∙ filter_more (λ i. nat_lt i (length graph)) (map index (take k guids)) (index g)
      ∙ ap (λ c. indices_of graph (take k guids) ++ cond c (index g ∷ []) []) test

  absent : (xs : List ℕ) (g : ℕ) → ¬ (Contains xs g) → length xs ≡ position_of xs g
  absent [] g none = refl
  absent (x ∷ xs) g none =
      elim (x == g) as (λ b. (x == g) ≡ b → suc (length xs) ≡ cond b 0 (suc (position_of xs g))) [
        | true ↦ λ e. absurd (none (subst (λ (y : ℕ). Contains (x ∷ xs) y) (eqb-true x g e) (contains_here x xs)))
        | false ↦ λ e. ap suc (absent xs g (λ h. none (contains_later x g xs h)))
      ] refl

  all_more : (xs : List ℕ) (x : ℕ) → All (λ i. i < length graph) xs → x < length graph → All (λ i. i < length graph) (xs ++ x ∷ [])
  all_more [] x all h zero d l = h
  all_more [] x all h (suc k) d l = absurd (omega arith)
  all_more (y ∷ xs) x all h zero d l = all 0 d (omega arith)
  all_more (y ∷ xs) x all h (suc k) d l = all_more xs x (λ j e m. all (suc j) e (omega arith)) h k d (omega arith)

  -- one more, that the graph has or not
  pub index_more : (guids : List ℕ) (k g i : ℕ) (found : List ℕ) → k < length guids → g ≡ get_or guids k g → IsIndexIn (guids_of graph) g (Some i)
      → IsGraph graph → AreIndices guids k found → AreIndices guids (k + 1) (found ++ i ∷ [])
  index_more guids k g i found h is there good (are, within) =
      let at : position_of (guids_of graph) g ≡ i = ap (position_of (guids_of graph)) (sym there.1) ∙ index_of_switch graph good i there.0 in
      let below : i < length graph = omega (arith, there.0, named) in (
        ap (λ xs. xs ++ i ∷ []) are ∙ ap (λ x. indices_of graph (take k guids) ++ x ∷ []) (sym at)
            ∙ sym (step guids k g true h is (lt-ltb (position_of (guids_of graph) g) (length graph) (omega (arith, at)))),
        all_more found i within below,
      )

  pub index_none : (guids : List ℕ) (k g : ℕ) (found : List ℕ) → k < length guids → g ≡ get_or guids k g → IsIndexIn (guids_of graph) g None
      → AreIndices guids k found → AreIndices guids (k + 1) found
  index_none guids k g found h is none (are, within) =
      let past : length graph ≡ position_of (guids_of graph) g = sym named ∙ absent (guids_of graph) g none in (
        are ∙ sym (append-nil (indices_of graph (take k guids)))
            ∙ sym (step guids k g false h is (le-ltb (position_of (guids_of graph) g) (length graph) (omega (arith, past)))),
        within,
      )

-- the order ----------------------------------------------------------------------------------

module _ (graph : List SwitchEdges) (keys : List VertexKey) (good : IsGraph graph) where
  abbrev order : List ℕ
  order = order_by_keys graph keys

  pub stand_once : StandOnce (length (by_index graph)) order
  stand_once = let g = grows graph keys good in record { within = g.vertex; once = g.once }

  pub all_stand : (s : ℕ) → s < length (by_index graph) → Contains order s
  all_stand = (grows graph keys good).all

  pub are_indices : All (λ i. i < length graph) order
  are_indices k d h =
      let below = (grows graph keys good).vertex k h in
      subst (λ (i : ℕ). i < length graph) (get_or_default order k 0 d h) (omega (arith, below, indexed graph))

  -- what is held
  pub by_positions_is : (levels : List ℕ) (choices : Option AdapterChoices) (edges : List (List Edge)) (positions : List ℕ) (lid_digits : List LidDigit) → edges ≡ by_positions graph keys
      → ArePositions (length (by_index graph)) order positions → lid_digits ≡ map (lid_digit_at graph levels) order
      → IsByPositions (record { graph = graph; keys = keys; levels = levels; choices = choices }) edges positions lid_digits
  by_positions_is levels choices edges positions lid_digits by_position are stand =
      let long : length edges ≡ length order = ap length by_position ∙ all_positioned graph keys good in
      let f : ℕ → LidDigit = lid_digit_at graph levels in
      record {
        is_graph = good;
        by_position = by_position;
        all_positions = are.all ∙ indexed graph;
        position = λ i h. are.each i (all_stand i (omega (arith, indexed graph)));
        all_lid_digits = ap length stand ∙ length_map f order ∙ sym long;
        lid_digit = λ p h. ap (λ xs. get_or xs p no_lid_digit) stand ∙ get_or-map f order p 0 no_lid_digit (omega (arith, long));
      }
