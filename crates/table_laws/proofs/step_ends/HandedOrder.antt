-- An order that a step tells, read as the order of the last step, gives each switch its position in the step.
use Rattle.std.proofs.Common.{◌≡◌, ◌∙◌, ◌<◌, ◌≤◌, ◌==◌, ℕ, zero, suc, Bool, true, false, not, cond, List, [], ◌∷◌, length, refl, sym, ap, subst, arith, inl, inr}
use Rattle.std.specs.Prelude.{Contains, filter, map, slice_index_or}
use Rattle.std.proofs.lemmas.Bool.{cases_eq, cases_lt, eq-eqb, ne_eqb}
use Rattle.std.proofs.lemmas.List.{ext_get_or, get_or-map, length-map}
use Rattle.std.proofs.lemmas.List.FromFn.{get_or-map-range_with_len, length-map-range_with_len}
use Rattle.smp_bytes.proofs.Members.{contains_filter}
use Rattle.port_graph.proofs.Counts.{filtered_all, filtered_less}
use Rattle.fact_store.specs.View.{Facts, cells_of}
use Rattle.subnet_view.specs.Reading.{switches}
use Rattle.subnet_view.specs.Graph.{graph_of}
use Rattle.subnet_view.proofs.Graphs.{graph_law}
use Rattle.subnet_view.proofs.GraphSwitches.{graph_guids}
use Rattle.spread_labels.specs.Orders.{at_position, position_of}
use Rattle.spread_labels.proofs.ByPositions.{position_at, position_less}
use Rattle.spread_labels.proofs.Growing.{contains_at}
use Rattle.spread_routes.proofs.Indices.{distinct}
use Rattle.next_tables.specs.SwitchPositions.{switch_at}
use Rattle.two_orders.specs.Agreement.{AreVertices}
use Rattle.two_orders.specs.Growth.{number_at, positions_in}
use Rattle.next_run.specs.LastOrder.{named_positions}
use Rattle.next_run.specs.StepOrderText.{switches_by}

-- a list that has all numbers below `n` is at least that long
at_least : (n : ℕ) (xs : List ℕ) → ((s : ℕ) → s < n → Contains xs s) → n ≤ length xs
at_least zero xs all = omega arith
at_least (suc n) xs all =
    let others : ℕ → Bool = λ x. not (x == n) in
    let own : others n ≡ false = ap not (eq-eqb n n refl) in
    let fewer = filtered_less others (λ x. true) (λ x h. refl) xs n (all n (omega arith)) own refl in
    let rest = at_least n (filter others xs) (λ s less.
    contains_filter others xs s (all s (omega (arith, less))) (ap not (ne_eqb s n (λ e. omega (arith, less, e))))) in
    omega (arith, fewer, rest, filtered_all (λ x. true) xs)

module _ (n : ℕ) (vertices : List ℕ) (are : AreVertices n vertices) where
  abbrev indices : List ℕ
  indices = positions_in vertices n

  long : length indices ≡ n
  long = length-map-range_with_len (position_of vertices) 0 n

  index_is : (v : ℕ) → v < n → number_at indices v ≡ position_of vertices v
  index_is v below = get_or-map-range_with_len (position_of vertices) 0 n v v 0 below (omega arith)

  -- no two have one index
  indices_once : (a b : ℕ) → a < length indices → b < a → number_at indices b ≡ number_at indices a → ⊥
  indices_once a b within less same =
      let a_in : a < n = omega (arith, within, long) in
      let b_in : b < n = omega (arith, a_in, less) in
      let one = position_less vertices a (are.all a a_in) in
      let other = position_less vertices b (are.all b b_in) in
      let is : b ≡ a = sym other.1 ∙ ap (at_position vertices) (sym (index_is b b_in) ∙ same ∙ index_is a a_in) ∙ one.1 in
      omega (arith, less, is)

  -- who has an index
  there : (i : ℕ) → i < length vertices → position_of indices i ≡ number_at vertices i
  there i within =
      let v = number_at vertices i in
      let below = are.vertex i within in
      let at : number_at indices v ≡ i = index_is v below ∙ position_at vertices are.once i within in
      ap (position_of indices) (sym at) ∙ position_at indices indices_once v (omega (arith, below, long))

  -- each index is somebody's
  each_index : (i : ℕ) → i < length vertices → Contains indices i
  each_index i within =
      let below = are.vertex i within in
      subst (λ (x : ℕ). Contains indices x) (index_is (number_at vertices i) below ∙ position_at vertices are.once i within)
      (contains_at indices (number_at vertices i) (omega (arith, below, long)))

  all_long : length vertices ≡ n
  all_long = omega (arith, at_least n vertices are.all, at_least (length vertices) indices each_index, long)

  -- the indices of indices are the list again
  pub twice : positions_in indices (length indices) ≡ vertices
  twice =
      let count : length indices ≡ length vertices = long ∙ sym all_long in
      ext_get_or 0 (positions_in indices (length indices)) vertices (length-map-range_with_len (position_of indices) 0 (length indices) ∙ count)
      (λ i less.
      let i_in : i < length vertices = (let l = length-map-range_with_len (position_of indices) 0 (length indices) in omega (arith, less, l, count)) in
      get_or-map-range_with_len (position_of indices) 0 (length indices) i i 0 (omega (arith, i_in, count)) (omega arith) ∙ there i i_in)

module _ (facts : Facts) (vertices : List ℕ) (are : AreVertices (length (switches (cells_of facts))) vertices) where
  abbrev all : List ℕ
  all = switches (cells_of facts)

  apart : (a b : ℕ) → a < length all → b < length all → at_position all a ≡ at_position all b → a ≡ b
  apart a b a_in b_in same =
      let guids = sym (graph_guids (cells_of facts)) in
      elim (cases_lt a b) [
        | inl less ↦ absurd (distinct (graph_of (cells_of facts)) (graph_law facts) b a
            (subst (λ (xs : List ℕ). b < length xs) guids b_in) less
            (subst (λ (xs : List ℕ). slice_index_or xs a 0 ≡ slice_index_or xs b 0) guids same))
        | inr no_less ↦ (elim (cases_lt b a) [
          | inl more ↦ absurd (distinct (graph_of (cells_of facts)) (graph_law facts) a b
              (subst (λ (xs : List ℕ). a < length xs) guids a_in) more
              (subst (λ (xs : List ℕ). slice_index_or xs b 0 ≡ slice_index_or xs a 0) guids (sym same)))
          | inr no_more ↦ omega (arith, no_less, no_more)
        ])
      ]

  same_test : (x a : ℕ) → x < length all → a < length all → (switch_at (cells_of facts) x == switch_at (cells_of facts) a) ≡ (x == a)
  same_test x a x_in a_in =
      elim (cases_eq x a) [
        | inl same ↦ eq-eqb (at_position all x) (at_position all a) (ap (at_position all) same) ∙ sym (eq-eqb x a same)
        | inr differ ↦ ne_eqb (at_position all x) (at_position all a) (λ e. differ (apart x a x_in a_in e)) ∙ sym (ne_eqb x a differ)
      ]

  same_index : (xs : List ℕ) (a : ℕ) → ((i : ℕ) → i < length xs → number_at xs i < length all) → a < length all
      → position_of (map (switch_at (cells_of facts)) xs) (switch_at (cells_of facts) a) ≡ position_of xs a
  same_index [] a within a_in = refl
  same_index (x ∷ xs) a within a_in =
      let test = same_test x a (within 0 (omega arith)) a_in in
      let later = same_index xs a (λ i less. within (suc i) (omega (arith, less))) a_in in
      (λ i. cond (test i) 0 (suc (later i)))

  pub named_again : named_positions (cells_of facts) (switches_by (cells_of facts) (positions_in vertices (length all))) ≡ positions_in vertices (length all)
  named_again =
      let n = length all in
      let p = positions_in vertices n in
      let names = map (switch_at (cells_of facts)) vertices in
      let told : switches_by (cells_of facts) p ≡ names = ap (map (switch_at (cells_of facts))) (twice n vertices are) in
      let one : length (map (position_of names) all) ≡ length p = length-map all (position_of names) ∙ sym (length-map-range_with_len (position_of vertices) 0 n) in
      ap (named_positions (cells_of facts)) told
      ∙ ext_get_or 0 (map (position_of names) all) p one
      (λ i less.
      let i_in : i < n = (let l = length-map all (position_of names) in omega (arith, less, l)) in
      get_or-map (position_of names) all i 0 0 i_in ∙ same_index vertices i are.vertex i_in
      ∙ sym (get_or-map-range_with_len (position_of vertices) 0 n i i 0 i_in (omega arith)))
