-- Down distances and costs, vertex by vertex, in a lane.
use Rattle.std.proofs.Common.{◌≡◌, ◌≤◌, ◌<◌, ◌+◌, ℕ, zero, suc, List, [], ◌∷◌, inl, inr, refl, sym, ap, ap₂, ◌∙◌, subst, arith, Bool, true, false, cond, ◌==◌, length, map}
use Rattle.std.proofs.lemmas.Bool.{cases_lt, cases_eq, eqb-true, eq-eqb}
use Rattle.std.proofs.lemmas.Bool.Decides.{nat_tests}
use Rattle.std.proofs.lemmas.List.{get_or-set_same, get_or-set_other}
use Rattle.std.proofs.lemmas.Option.{none-some, same_Some}
use Rattle.std.specs.Prelude.{Option, None, Some, is_some, option_map, Contains, nat_lt, slice_index, slice_set}
use Rattle.std.specs.List.{filter_map, find}
use Rattle.port_graph.specs.declared.edge.Edge.{Edge}
use Rattle.port_graph.specs.Walks.{shortest}
use Rattle.port_graph.specs.Heads.{edges_at}
use Rattle.port_graph.specs.Slopes.{downs_at, down_distance, least_of, cost, same_number, port_down, port_up, next_port}
use Rattle.port_graph.specs.NextPorts.{indexed, AreSlopes}
use Rattle.port_graph.specs.ByteLanes.{at, number_in, port_in, nearest_by, IsStepDown, IsStepUp, AreRouted}
use Rattle.port_graph.proofs.Costs.{cost_recurs, none_less, port_at_target, port_where_down, port_where_up}
use Rattle.port_graph.proofs.DistanceLaws.{shortest_found}
use Rattle.port_graph.proofs.Indexing.{ups_indexed, downs_indexed, all_indexed, downs_lead, height, falls, bounded}
use Rattle.port_graph.proofs.ByteLaneSteps.{known, unknown_from, known_is, least_is, port_is}
use Rattle.port_graph.proofs.Lists.{contains_map, contains_mapped, filter_map_same, contains_filter_map, contains-from_filter_map, has_least, least_is_one}
use Rattle.port_graph.proofs.NextPorts.{find_same}
use Rattle.port_graph.proofs.WalkLemmas.{shortest_is, shortest_step, shortest_no_shortcut, shortest_zero, least_is as least_walk}

-- the shortest walk is one longer than the shortest from a vertex that an edge leads to ----------------

module _ (edges : ℕ → List Edge) (n : ℕ) (within : (a : ℕ) (e : Edge) → Contains (edges a) e → e.to < n) where
  abbrev next : ℕ → List ℕ
  next a = map (λ e. e.to) (edges a)

  abbrev lengths : ℕ → ℕ → List ℕ
  lengths s t = filter_map (λ e. shortest next n e.to t) (edges s)

  next_within : (a b : ℕ) → Contains (next a) b → b < n
  next_within a b h = let e = contains_map (λ (e : Edge). e.to) (edges a) b h in omega (arith, within a e.0 e.1, e.2)

  none_longer : (s t m : ℕ) → s < n → shortest next n s t ≡ None → least_of (lengths s t) ≡ Some m → ⊥
  none_longer s t m h e least =
      let i = least_is_one (lengths s t) m least in
      let x = contains-from_filter_map (λ (e : Edge). shortest next n e.to t) (edges s) m i.0 in
      let walk = (shortest_is next n x.0.to t m x.2).walk in
      let there = contains_mapped (λ (e : Edge). e.to) (edges s) x.0 x.1 in
      let d = shortest_found next n next_within (suc m) s t h (x.0.to, there, walk) in
      none-some d.0 (sym e ∙ d.1)

  one_longer : (s t d : ℕ) → shortest next n s t ≡ Some (suc d) → least_of (lengths s t) ≡ Some d
  one_longer s t d e =
      let c = shortest_step next n s t d e in
      let x = contains_map (λ (e : Edge). e.to) (edges s) c.0 c.1 in
      let here = contains_filter_map (λ (e : Edge). shortest next n e.to t) (edges s) x.0 d x.1 (ap (λ a. shortest next n a t) x.2 ∙ c.2) in
      let l = has_least (lengths s t) d here in
      let i = least_is_one (lengths s t) l.0 l.1 in
      let y = contains-from_filter_map (λ (e : Edge). shortest next n e.to t) (edges s) l.0 i.0 in
      let there = contains_mapped (λ (e : Edge). e.to) (edges s) y.0 y.1 in
      let short = shortest_no_shortcut next n s y.0.to t (suc d) l.0 e there y.2 in
      let same : l.0 ≡ d = omega (arith, short, i.1 d here) in
      l.1 ∙ ap (λ (m : ℕ). Some m) same

  pub shortest_recurs : (s t : ℕ) → s < n → (s == t) ≡ false → shortest next n s t ≡ option_map suc (least_of (lengths s t))
  shortest_recurs s t h apart =
      elim (shortest next n s t) as (λ o. shortest next n s t ≡ o → o ≡ option_map suc (least_of (lengths s t))) [
        | None ↦ λ e. (elim (least_of (lengths s t)) as (λ p. least_of (lengths s t) ≡ p → None ≡ option_map suc p) [
          | None ↦ λ q. refl
          | Some m ↦ λ q. absurd (none_longer s t m h e q)
        ] refl)
        | Some zero ↦ λ e. let same = shortest_zero next n s t e in absurd (cc (apart, eq-eqb s t same))
        | Some (suc d) ↦ λ e. sym (ap (option_map suc) (one_longer s t d e))
      ] refl

  pub shortest_here : (t : ℕ) → t < n → shortest next n t t ≡ Some 0
  shortest_here t h = least_walk 0 n _ 0 (record { from = omega arith; bounded = omega arith; passes = eq-eqb t t refl; least = λ m h l. absurd (omega arith) })

-- in a lane -------------------------------------------------------------------------------------

-- what a row has after another was written
pub at_set_same : (rows : List (List ℕ)) (a : ℕ) (row : List ℕ) (k : ℕ) → a < length rows → at (slice_set rows a row) a k ≡ slice_index row k
at_set_same rows a row k h = ap (λ (xs : List ℕ). slice_index xs k) (get_or-set_same rows a row [] h)

pub at_set_other : (rows : List (List ℕ)) (a b : ℕ) (row : List ℕ) (k : ℕ) → (b ≡ a → ⊥) → at (slice_set rows a row) b k ≡ at rows b k
at_set_other rows a b row k h = ap (λ (xs : List ℕ). slice_index xs k) (get_or-set_other rows a b row [] h)

-- the down distance of a vertex and its port down
pub record IsDown (ups downs : List (List Edge)) (t a x port : ℕ) : Type 0 where
  pub distance : number_in x ≡ down_distance (indexed ups downs) a t
  pub port_is : port_in x port ≡ port_down (indexed ups downs) a t

-- its cost and next port
pub record IsRouted (ups downs : List (List Edge)) (t a x port : ℕ) : Type 0 where
  pub cost_is : number_in x ≡ cost (indexed ups downs) a t
  pub next_is : port_in x port ≡ next_port (indexed ups downs) a t

-- the down distances from a vertex on
abbrev pub AreDownFrom : List (List Edge) → List (List Edge) → ℕ → ℕ → ℕ → List (List ℕ) → List (List ℕ) → Type 0
AreDownFrom ups downs t k from numbers ports = (a : ℕ) → from ≤ a → a < length ups → IsDown ups downs t a (at numbers a k) (at ports a k)

-- the costs of the vertices before one, and the down distances from it on
pub record AreRoutedBelow (ups downs : List (List Edge)) (t k n : ℕ) (numbers ports : List (List ℕ)) : Type 0 where
  pub routed : (a : ℕ) → a < n → IsRouted ups downs t a (at numbers a k) (at ports a k)
  pub down : AreDownFrom ups downs t k n numbers ports

module _ (ups downs : List (List Edge)) (are : AreSlopes ups downs) (t : ℕ) (target : t < length ups) where
  abbrev down_from : ℕ → Option ℕ
  down_from a = down_distance (indexed ups downs) a t

  abbrev cost_from : ℕ → Option ℕ
  cost_from a = cost (indexed ups downs) a t

  within : (a : ℕ) (e : Edge) → Contains (downs_at (indexed ups downs) a) e → e.to < length (indexed ups downs)
  within a e h =
      let k = subst (λ (es : List Edge). Contains es e) (downs_indexed ups downs are a) h in
      omega (arith, downs_lead ups downs are a e k, are.all, all_indexed ups downs are)

  down_recurs : (a : ℕ) → a < length ups → down_from a
      ≡ cond (t == a) (Some 0) (option_map suc (least_of (filter_map (λ e. down_from e.to) (edges_at downs a))))
  down_recurs a h =
      elim (t == a) as (λ b. (t == a) ≡ b → down_from a ≡ cond b (Some 0) (option_map suc (least_of (filter_map (λ e. down_from e.to) (edges_at downs a))))) [
        | true ↦ λ same. ap down_from (sym (eqb-true t a same))
            ∙ shortest_here (downs_at (indexed ups downs)) (length (indexed ups downs)) within t (omega (arith, all_indexed ups downs are))
        | false ↦ λ other.
            shortest_recurs (downs_at (indexed ups downs)) (length (indexed ups downs)) within a t (omega (arith, all_indexed ups downs are)) (turned other)
            ∙ ap (λ es. option_map suc (least_of (filter_map (λ e. down_from e.to) es))) (downs_indexed ups downs are a)
      ] refl
    where
      turned : (t == a) ≡ false → (a == t) ≡ false
      turned other = elim (a == t) as (λ b. (a == t) ≡ b → b ≡ false) [ true ↦ λ q. absurd (cc (other, eq-eqb t a (sym (eqb-true a t q)))) | false ↦ λ q. refl ]
          refl

  -- by the nearest down
  pub down_step : (x : ℕ → ℕ) (a y port : ℕ) → a < length ups → ((e : Edge) → Contains (edges_at downs a) e → number_in (x e.to) ≡ down_from e.to)
      → IsStepDown (t == a) (nearest_by x (edges_at downs a)) y port → IsDown ups downs t a y port
  down_step x a y port h each step =
      record {
        distance = distance;
        port_is =
            ap (port_in y) step.port
            ∙ port_is x (edges_at downs a) y one_more
            ∙ ap (option_map (λ e. e.port)) (find_same (λ e. same_number (option_map suc (number_in (x e.to))) (number_in y))
            (λ e. same_number (option_map suc (down_from e.to)) (down_from a)) (edges_at downs a)
            (λ e k. ap₂ (λ o p. same_number (option_map suc o) p) (each e k) distance))
            ∙ ap (λ es. option_map (λ e. e.port) (find (λ e. same_number (option_map suc (down_from e.to)) (down_from a)) es))
            (sym (downs_indexed ups downs are a));
      }
    where
      least : number_in (nearest_by x (edges_at downs a)).0 ≡ least_of (filter_map (λ e. down_from e.to) (edges_at downs a))
      least = least_is x (edges_at downs a) ∙ ap least_of (filter_map_same (λ e. number_in (x e.to)) (λ e. down_from e.to) (edges_at downs a) each)

      distance : number_in y ≡ down_from a
      distance = step.number ∙ ap (λ o. cond (t == a) (Some 0) (option_map suc o)) least ∙ sym (down_recurs a h)

      one_more : (n : ℕ) → number_in y ≡ Some (suc n) → number_in (nearest_by x (edges_at downs a)).0 ≡ Some n
      one_more n e =
          elim (t == a) as (λ b. number_in y ≡ cond b (Some 0) (option_map suc (number_in (nearest_by x (edges_at downs a)).0))
          → number_in (nearest_by x (edges_at downs a)).0 ≡ Some n) [
            | true ↦ λ q. let r : 0 ≡ suc n = same_Some 0 (suc n) (sym q ∙ e) in absurd (omega arith)
            | false ↦ λ q. none_less (number_in (nearest_by x (edges_at downs a)).0) n (sym q ∙ e)
          ] step.number

  cost_by_ups : (a : ℕ) → cost_from a
      ≡ cond (is_some (down_from a)) (down_from a) (option_map suc (least_of (filter_map (λ e. cost_from e.to) (edges_at ups a))))
  cost_by_ups a =
      cost_recurs (indexed ups downs) (height ups downs are) (falls ups downs are) (bounded ups downs are) a t
      ∙ ap (λ es. cond (is_some (down_from a)) (down_from a) (option_map suc (least_of (filter_map (λ e. cost_from e.to) es)))) (ups_indexed ups downs are a)

  -- the next port is the port down where there is a distance, else the port up
  next_by : (a : ℕ) → a < length ups → next_port (indexed ups downs) a t
      ≡ cond (is_some (down_from a)) (port_down (indexed ups downs) a t) (port_up (indexed ups downs) a t)
  next_by a h =
      elim (a == t) as (λ b. (a == t) ≡ b → next_port (indexed ups downs) a t
      ≡ cond (is_some (down_from a)) (port_down (indexed ups downs) a t) (port_up (indexed ups downs) a t)) [
        | true ↦ λ same.
            let here : down_from a ≡ Some 0 = ap down_from (eqb-true a t same)
            ∙ shortest_here (downs_at (indexed ups downs)) (length (indexed ups downs)) within t (omega (arith, all_indexed ups downs are)) in
            port_at_target (indexed ups downs) a t same
            ∙ sym (ap (λ o. cond (is_some o)
            (option_map (λ (e : Edge). e.port) (find (λ e. same_number (option_map suc (down_from e.to)) o) (downs_at (indexed ups downs) a)))
            (port_up (indexed ups downs) a t)) here
            ∙ none_down (downs_at (indexed ups downs) a))
        | false ↦ λ other.
            (elim (down_from a) as (λ o. down_from a ≡ o → next_port (indexed ups downs) a t
            ≡ cond (is_some o) (port_down (indexed ups downs) a t) (port_up (indexed ups downs) a t)) [
              | None ↦ λ e. port_where_up (indexed ups downs) a t other e
              | Some d ↦ λ e. port_where_down (indexed ups downs) a t d other e
            ] refl)
      ] refl
    where
      none_down : (es : List Edge) → option_map (λ (e : Edge). e.port) (find (λ e. same_number (option_map suc (down_from e.to)) (Some 0)) es) ≡ None
      none_down es = ap (option_map (λ (e : Edge). e.port)) (none_found es)
        where
          not_zero : (o : Option ℕ) → same_number (option_map suc o) (Some 0) ≡ false
          not_zero None = refl
          not_zero (Some n) =
              elim (suc n == 0) as (λ t. (suc n == 0) ≡ t → t ≡ false) [ true ↦ λ q. absurd (omega (arith, eqb-true (suc n) 0 q)) | false ↦ λ q. refl ] refl

          none_found : (es : List Edge) → find (λ e. same_number (option_map suc (down_from e.to)) (Some 0)) es ≡ None
          none_found [] = refl
          none_found (e ∷ es) =
              ap (λ (b : Bool). cond b (Some e) (find (λ e. same_number (option_map suc (down_from e.to)) (Some 0)) es)) (not_zero (down_from e.to))
              ∙ none_found es

  -- by the nearest up, where there is no distance
  pub up_step : (x : ℕ → ℕ) (a y down_port z port : ℕ) → a < length ups → ((e : Edge) → Contains (edges_at ups a) e → number_in (x e.to) ≡ cost_from e.to)
      → IsDown ups downs t a y down_port → IsStepUp y down_port (nearest_by x (edges_at ups a)) z port → IsRouted ups downs t a z port
  up_step x a y down_port z port h each down step =
      let r = nearest_by x (edges_at ups a) in
      elim (cases_lt y 255) [
        | inl l ↦
            let some : is_some (down_from a) ≡ true = ap is_some (sym down.distance ∙ known y l) in
            let same : number_in z ≡ number_in y = step.number ∙ ap (λ b. cond b (number_in y) (option_map suc (number_in r.0))) (test y l) in
            let z_is : z ≡ y = (known_is z y (same ∙ known y l)).0 in
            let port_same : port ≡ down_port = step.port ∙ ap (λ b. cond b down_port r.1) (test y l) in
            record {
              cost_is = same ∙ down.distance
                  ∙ sym (cost_by_ups a ∙ ap (λ b. cond b (down_from a) (option_map suc (least_of (filter_map (λ e. cost_from e.to) (edges_at ups a))))) some);
              next_is = ap₂ port_in z_is port_same ∙ down.port_is
                  ∙ sym (next_by a h ∙ ap (λ b. cond b (port_down (indexed ups downs) a t) (port_up (indexed ups downs) a t)) some);
            }
        | inr m ↦
            let none : is_some (down_from a) ≡ false = ap is_some (sym down.distance ∙ unknown_from y m) in
            let more : number_in z ≡ option_map suc (number_in r.0) =
            step.number ∙ ap (λ b. cond b (number_in y) (option_map suc (number_in r.0))) (test_not y m) in
            let up : port ≡ r.1 = step.port ∙ ap (λ b. cond b down_port r.1) (test_not y m) in
            let is : number_in z ≡ cost_from a =
            more ∙ ap (option_map suc) least
            ∙ sym (cost_by_ups a ∙ ap (λ b. cond b (down_from a) (option_map suc (least_of (filter_map (λ e. cost_from e.to) (edges_at ups a))))) none) in
            record {
              cost_is = is;
              next_is =
                  ap (port_in z) up
                  ∙ port_is x (edges_at ups a) z (λ n e. none_less (number_in r.0) n (sym more ∙ e))
                  ∙ ap (option_map (λ e. e.port)) (find_same (λ e. same_number (option_map suc (number_in (x e.to))) (number_in z))
                  (λ e. same_number (option_map suc (cost_from e.to)) (cost_from a)) (edges_at ups a)
                  (λ e k. ap₂ (λ o p. same_number (option_map suc o) p) (each e k) is))
                  ∙ ap (λ es. option_map (λ e. e.port) (find (λ e. same_number (option_map suc (cost_from e.to)) (cost_from a)) es))
                  (sym (ups_indexed ups downs are a))
                  ∙ sym (next_by a h ∙ ap (λ b. cond b (port_down (indexed ups downs) a t) (port_up (indexed ups downs) a t)) none);
            }
      ]
    where
      least : number_in (nearest_by x (edges_at ups a)).0 ≡ least_of (filter_map (λ e. cost_from e.to) (edges_at ups a))
      least = least_is x (edges_at ups a) ∙ ap least_of (filter_map_same (λ e. number_in (x e.to)) (λ e. cost_from e.to) (edges_at ups a) each)

      test : (y : ℕ) → y < 255 → nat_lt y 255 ≡ true
      test y l = grind (arith, nat_tests)

      test_not : (y : ℕ) → 255 ≤ y → nat_lt y 255 ≡ false
      test_not y l = grind (arith, nat_tests)

  -- an edge down leads to a greater vertex
  pub downs_rise : (a : ℕ) (e : Edge) → Contains (edges_at downs a) e → a < e.to
  downs_rise a e h =
      let back = are.back_up a e.to (contains_mapped (λ (x : Edge). x.to) (edges_at downs a) e h) in
      let up = contains_map (λ (x : Edge). x.to) (edges_at ups e.to) a back in
      omega (arith, are.rise e.to up.0 up.1, up.2)

  module _ (k : ℕ) (numbers ports : List (List ℕ)) (all_numbers : length numbers ≡ length ups) (all_ports : length ports ≡ length ups) where
    -- from the last vertex to one more
    pub down_more : (v : ℕ) (es : List Edge) (its_numbers its_ports : List ℕ) → v < length ups → es ≡ edges_at downs v
        → AreDownFrom ups downs t k (v + 1) numbers ports
        → IsStepDown (t == v) (nearest_by (λ a. at numbers a k) es) (slice_index its_numbers k) (slice_index its_ports k)
        → AreDownFrom ups downs t k v (slice_set numbers v its_numbers) (slice_set ports v its_ports)
    down_more v es its_numbers its_ports below is so_far step a from h =
        elim (cases_eq a v) [
          | inl same ↦ subst (λ (b : ℕ). IsDown ups downs t b (at (slice_set numbers v its_numbers) b k) (at (slice_set ports v its_ports) b k)) (sym same)
              (subst (λ (xy : ℕ × ℕ). IsDown ups downs t v xy.0 xy.1)
              (λ i. (sym (at_set_same numbers v its_numbers k (omega arith)) i, sym (at_set_same ports v its_ports k (omega arith)) i))
              (down_step (λ a. at numbers a k) v (slice_index its_numbers k) (slice_index its_ports k) below known_below stepped))
          | inr other ↦ subst (λ (xy : ℕ × ℕ). IsDown ups downs t a xy.0 xy.1)
              (λ i. (sym (at_set_other numbers v a its_numbers k other) i, sym (at_set_other ports v a its_ports k other) i))
              (so_far a (above a from other) h)
        ]
      where
        above : (a : ℕ) → v ≤ a → (a ≡ v → ⊥) → v + 1 ≤ a
        above a from other = grind arith

        stepped : IsStepDown (t == v) (nearest_by (λ a. at numbers a k) (edges_at downs v)) (slice_index its_numbers k) (slice_index its_ports k)
        stepped = subst (λ (es : List Edge). IsStepDown (t == v) (nearest_by (λ a. at numbers a k) es) (slice_index its_numbers k) (slice_index its_ports k)) is
            step

        known_below : (e : Edge) → Contains (edges_at downs v) e → number_in (at numbers e.to k) ≡ down_from e.to
        known_below e m = (so_far e.to (omega (arith, downs_rise v e m)) (omega (arith, downs_lead ups downs are v e m, are.all))).distance

    -- from the first vertex to one more
    pub up_more : (v : ℕ) (es : List Edge) (its_numbers its_ports : List ℕ) → v < length ups → es ≡ edges_at ups v
        → AreRoutedBelow ups downs t k v numbers ports
        → IsStepUp (at numbers v k) (at ports v k) (nearest_by (λ a. at numbers a k) es) (slice_index its_numbers k) (slice_index its_ports k)
        → AreRoutedBelow ups downs t k (v + 1) (slice_set numbers v its_numbers) (slice_set ports v its_ports)
    up_more v es its_numbers its_ports below is so_far step =
        record {
          routed = λ a h. (elim (cases_eq a v) [
            | inl same ↦ subst (λ (b : ℕ). IsRouted ups downs t b (at (slice_set numbers v its_numbers) b k) (at (slice_set ports v its_ports) b k)) (sym same)
                (subst (λ (xy : ℕ × ℕ). IsRouted ups downs t v xy.0 xy.1)
                (λ i. (sym (at_set_same numbers v its_numbers k (omega arith)) i, sym (at_set_same ports v its_ports k (omega arith)) i))
                (up_step (λ a. at numbers a k) v (at numbers v k) (at ports v k) (slice_index its_numbers k) (slice_index its_ports k) below known_above
                (so_far.down v (omega arith) below) stepped))
            | inr other ↦ subst (λ (xy : ℕ × ℕ). IsRouted ups downs t a xy.0 xy.1)
                (λ i. (sym (at_set_other numbers v a its_numbers k other) i, sym (at_set_other ports v a its_ports k other) i))
                (so_far.routed a (less a h other))
          ]);
          down = λ a from h. subst (λ (xy : ℕ × ℕ). IsDown ups downs t a xy.0 xy.1)
              (λ i. (sym (at_set_other numbers v a its_numbers k (greater a from)) i, sym (at_set_other ports v a its_ports k (greater a from)) i))
              (so_far.down a (omega arith) h);
        }
      where
        less : (a : ℕ) → a < v + 1 → (a ≡ v → ⊥) → a < v
        less a h other = grind arith

        greater : (a : ℕ) → v + 1 ≤ a → a ≡ v → ⊥
        greater a from same = omega arith

        stepped : IsStepUp (at numbers v k) (at ports v k) (nearest_by (λ a. at numbers a k) (edges_at ups v)) (slice_index its_numbers k)
            (slice_index its_ports k)
        stepped = subst (λ (es : List Edge). IsStepUp (at numbers v k) (at ports v k) (nearest_by (λ a. at numbers a k) es) (slice_index its_numbers k)
            (slice_index its_ports k)) is step

        known_above : (e : Edge) → Contains (edges_at ups v) e → number_in (at numbers e.to k) ≡ cost_from e.to
        known_above e m = (so_far.routed e.to (are.rise v e m)).cost_is

    -- down distances of all, and no cost yet
    pub all_down : AreDownFrom ups downs t k 0 numbers ports → AreRoutedBelow ups downs t k 0 numbers ports
    all_down down = record { routed = λ a h. absurd (omega arith); down = down }

    -- the costs of all
    pub all_routed : (v : ℕ) → length ups ≤ v → AreRoutedBelow ups downs t k v numbers ports → AreRouted ups downs t k numbers ports
    all_routed v end so_far =
        record {
          cost = λ a h. (so_far.routed a (omega arith)).cost_is;
          next = λ a h. (so_far.routed a (omega arith)).next_is;
        }
