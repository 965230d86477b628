-- The port of a switch towards another, by what is held.
use Rattle.std.proofs.Common.{◌≡◌, ◌<◌, ℕ, suc, zero, List, [], ◌∷◌, refl, sym, ap, ◌∙◌, subst, arith, length, map, true, false, Bool, ◌||◌}
use Rattle.std.specs.Prelude.{All, Contains, filter, nat_lt, option_map, slice_index, slice_index_or, min, ◌*◌, ◌+◌, ◌==◌}
use Rattle.std.specs.List.{list_any, range_with_len}
use Rattle.smp_bytes.proofs.Members.{contains_here, contains_later}
use Rattle.port_graph.specs.declared.edge.Edge.{Edge}
use Rattle.port_graph.specs.Heads.{edges_at, LeadToVertices}
use Rattle.port_graph.proofs.Counts.{length_map}
use Rattle.port_graph.proofs.SearchSteps.{all_from_contained}
use Rattle.spread_labels.specs.CandidatesByMarks.{chosen}
use Rattle.spread_labels.specs.Labels.{candidates}
use Rattle.spread_labels.specs.Level.{rises_at, digit_weight_of, width_of}
use Rattle.spread_labels.specs.Orders.{numbers_from, position_of}
use Rattle.spread_labels.proofs.ByPositions.{position_less}
use Rattle.spread_labels.proofs.Widths.{greatest_from}
use Rattle.subnet_view.specs.SwitchEdges.{SwitchEdges}
use Rattle.subnet_view.specs.Graph.{guids_of}
use Rattle.subnet_view.specs.GraphLaws.{IsGraph}
use Rattle.subnet_view.specs.SwitchGraph.{switch_at}
use Rattle.spread_routes.specs.declared.lid_digit.LidDigit.{LidDigit}
use Rattle.spread_routes.specs.Rule.{Spreading, by_index, by_positions, order_by_keys, position, edge_to}
use Rattle.spread_routes.specs.Spread.{Grading, goes_higher, number_there, spread_at, lid_digit_there}
use Rattle.spread_routes.specs.Exits.{no_lid_digit}
use Rattle.spread_routes.proofs.Indices.{index_of_switch}
use Rattle.spread_routes.proofs.Names.{all_positioned, grows, is_grown_graph}

module _ (by : Grading) (good : IsGraph by.graph) where
  abbrev edges : List (List Edge)
  edges = by_positions by.graph by.keys

  abbrev order : List ℕ
  order = order_by_keys by.graph by.keys

  indexed : length (by_index by.graph) ≡ length by.graph
  indexed = length_map (λ (c : SwitchEdges). map (λ (e : Edge). record { port = e.port; to = position_of (guids_of by.graph) e.to }) c.edges) by.graph

  -- a switch has a position
  pub position_there : (i : ℕ) → i < length by.graph → position_of order i < length edges
  position_there i h =
      let p = position_less order i ((grows by.graph by.keys good).all i (omega (arith, indexed))) in
      omega (arith, p.0, all_positioned by.graph by.keys good)

  pub lead : LeadToVertices edges
  lead = (is_grown_graph by.graph by.keys good).lead

  -- by the index of a switch
  position_of_switch : (i : ℕ) → i < length by.graph → position_of order i ≡ position by.graph by.keys (switch_at by.graph i)
  position_of_switch i h =
      let below : i < length (guids_of by.graph) = omega (arith, length_map (λ (c : SwitchEdges). c.guid) by.graph) in
      ap (position_of order) (sym (index_of_switch by.graph good i below))

  -- the port of a switch to another, by its candidates
  pub port_is : (lid target i : ℕ) → target < length by.graph → i < length by.graph
      → option_map (λ (e : Edge). e.port) (chosen (candidates edges (position_of order target) (position_of order i))
      (number_there by lid (position_of order i) (position_of order target) (candidates edges (position_of order target) (position_of order i))))
      ≡ (spread_at by).next lid (switch_at by.graph i) (switch_at by.graph target)
  port_is lid target i t h =
      let sp : Spreading = record { keys = by.keys; number = number_there by } in
      (λ j. option_map (λ (e : Edge). e.port) (edge_to by.graph sp lid (position_of_switch i h j) (position_of_switch target t j)))

  -- the edges at a position lead to positions
  pub row_leads : (n p : ℕ) (es : List Edge) → n ≡ length edges → es ≡ edges_at edges p → All (λ e. e.to < n) es
  row_leads n p es long are =
      all_from_contained (λ (e : Edge). e.to < n) es (λ e h. omega (arith, long, lead p e (subst (λ (xs : List Edge). Contains xs e) are h)))

  -- whether an edge leads to a higher switch, by what is held
  pub higher_is : (lid_digits : List LidDigit) (p : ℕ) (lid_digit : LidDigit) (es : List Edge) → lid_digit ≡ lid_digit_there by p
      → ((q : ℕ) → q < length edges → slice_index_or lid_digits q no_lid_digit ≡ lid_digit_there by q) → ((e : Edge) → Contains es e → e.to < length edges)
      → list_any (λ e. nat_lt lid_digit.level (slice_index_or lid_digits e.to no_lid_digit).level) es ≡ goes_higher by p es
  higher_is lid_digits p lid_digit [] is each within = refl
  higher_is lid_digits p lid_digit (e ∷ es) is each within =
      let here = each e.to (within e (contains_here e es)) in
      (λ i. nat_lt (is i).level (here i).level || higher_is lid_digits p lid_digit es is each (λ x h. within x (contains_later e x es h)) i)

-- a digit weight is at least 1
at_least_one : (n m : ℕ) → 0 < n → 0 < m → 0 < min (n * m) 65536
at_least_one n m h k = grind arith

greatest_is_one : (edges : List (List Edge)) (levels : List ℕ) (h : ℕ) → 0 < width_of edges levels h
greatest_is_one edges levels h =
    let most = greatest_from 1 (map (rises_at edges levels) (filter (λ s. slice_index levels s == h) (numbers_from 0 (length edges)))) in
    omega (arith, most)

pub digit_weight_positive : (edges : List (List Edge)) (levels : List ℕ) (h : ℕ) → 0 < digit_weight_of edges levels h
digit_weight_positive edges levels zero = omega arith
digit_weight_positive edges levels (suc h) =
    at_least_one (digit_weight_of edges levels h) (width_of edges levels h) (digit_weight_positive edges levels h) (greatest_is_one edges levels h)

-- some number passes where one does, and none where none does
pub any_there : (f : ℕ → Bool) (a n k : ℕ) → k < n → f (a + k) ≡ true → list_any f (range_with_len a n) ≡ true
any_there f a zero k h e = absurd (omega arith)
any_there f a (suc n) zero h e = let here : a ≡ a + 0 = omega arith in ap (λ b. b || list_any f (range_with_len (a + 1) n)) (ap f here ∙ e)
any_there f a (suc n) (suc k) h e =
    let there : a + 1 + k ≡ a + suc k = omega arith in
    let rest = any_there f (a + 1) n k (omega arith) (ap f there ∙ e) in
    elim (f a) as (λ b. (b || list_any f (range_with_len (a + 1) n)) ≡ true) [ true ↦ refl | false ↦ rest ]

pub none_more : (f : ℕ → Bool) (a n : ℕ) → list_any f (range_with_len a n) ≡ false → f (a + n) ≡ false → list_any f (range_with_len a (suc n)) ≡ false
none_more f a zero none e = let here : a ≡ a + 0 = omega arith in ap (λ b. b || false) (ap f here ∙ e)
none_more f a (suc n) none e =
    elim (f a) as (λ b. (b || list_any f (range_with_len (a + 1) n)) ≡ false → (b || list_any f (range_with_len (a + 1) (suc n))) ≡ false) [
      | true ↦ λ h. h
      | false ↦ λ h. (let there : a + 1 + n ≡ a + suc n = omega arith in none_more f (a + 1) n h (ap f there ∙ e))
    ] none
