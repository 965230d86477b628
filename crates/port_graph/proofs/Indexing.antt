-- Slopes of vertices that are numbered from 0: their edges, down distances and costs.
use Rattle.std.proofs.Common.{◌≡◌, ◌≤◌, ◌<◌, ◌+◌, ℕ, zero, suc, List, [], ◌∷◌, inl, inr, refl, sym, ap, ◌∙◌, subst, arith, true, false, cond, ◌==◌, length, map, min}
use Rattle.std.proofs.lemmas.Bool.{cases_lt, eqb-true, eq-eqb}
use Rattle.std.proofs.lemmas.List.{get_or_past}
use Rattle.std.specs.Cmp.{both_ways}
use Rattle.std.specs.Prelude.{Option, None, is_some, option_map, Contains, slice_index_or}
use Rattle.std.specs.List.{filter_map}
use Rattle.smp_bytes.proofs.Members.{contains_none}
use Rattle.port_graph.specs.declared.edge.Edge.{Edge}
use Rattle.port_graph.specs.Walks.{has_walk, least_from, shortest}
use Rattle.port_graph.specs.Slopes.{ups_at, downs_at, down_distance, least_of, cost}
use Rattle.port_graph.specs.Heads.{edges_at, heads, LeadToVertices, AreDistances}
use Rattle.port_graph.specs.NextPorts.{indexed_from, indexed, AreSlopes, AreLess, AreCosts, WaysLaw}
use Rattle.port_graph.proofs.Lists.{filter_map_same, contains_map, contains_mapped}
use Rattle.port_graph.proofs.WalkLemmas.{walk_from_test, test_from_walk, least_found}
use Rattle.port_graph.proofs.Paths.{walk_turned}
use Rattle.port_graph.proofs.Searching.{known_below}
use Rattle.port_graph.proofs.Costs.{cost_recurs, way}

-- edges ---------------------------------------------------------------------------------

apart : (a b : ℕ) → a < b → (a == b) ≡ false
apart a b l = elim (a == b) as (λ t. (a == b) ≡ t → t ≡ false) [ true ↦ λ e. absurd (omega (arith, eqb-true a b e)) | false ↦ λ e. refl ] refl

ups_from : (ups downs : List (List Edge)) (first k a : ℕ) → length downs ≡ length ups → a ≡ first + k → ups_at (indexed_from first ups downs) a
    ≡ slice_index_or ups k []
ups_from [] downs first k a all e = refl
ups_from (u ∷ ups) [] first k a all e = absurd (omega arith)
ups_from (u ∷ ups) (d ∷ downs) first zero a all e = ap (λ t. cond t u (ups_at (indexed_from (suc first) ups downs) a)) (eq-eqb first a (omega arith))
ups_from (u ∷ ups) (d ∷ downs) first (suc k) a all e =
    ap (λ t. cond t u (ups_at (indexed_from (suc first) ups downs) a)) (apart first a (omega arith))
    ∙ ups_from ups downs (suc first) k a (omega arith) (omega arith)

downs_from : (ups downs : List (List Edge)) (first k a : ℕ) → length downs ≡ length ups → a ≡ first + k → downs_at (indexed_from first ups downs) a
    ≡ slice_index_or downs k []
downs_from [] [] first k a all e = refl
downs_from [] (d ∷ downs) first k a all e = absurd (omega arith)
downs_from (u ∷ ups) [] first k a all e = absurd (omega arith)
downs_from (u ∷ ups) (d ∷ downs) first zero a all e = ap (λ t. cond t d (downs_at (indexed_from (suc first) ups downs) a)) (eq-eqb first a (omega arith))
downs_from (u ∷ ups) (d ∷ downs) first (suc k) a all e =
    ap (λ t. cond t d (downs_at (indexed_from (suc first) ups downs) a)) (apart first a (omega arith))
    ∙ downs_from ups downs (suc first) k a (omega arith) (omega arith)

slopes_from : (ups downs : List (List Edge)) (first : ℕ) → length downs ≡ length ups → length (indexed_from first ups downs) ≡ length ups
slopes_from [] downs first all = refl
slopes_from (u ∷ ups) [] first all = absurd (omega arith)
slopes_from (u ∷ ups) (d ∷ downs) first all = ap suc (slopes_from ups downs (suc first) (omega arith))

-- a vertex that has an edge is one of them
pub edges_below : (edges : List (List Edge)) (a : ℕ) (e : Edge) → Contains (edges_at edges a) e → a < length edges
edges_below edges a e h =
    elim (cases_lt a (length edges)) [
      | inl l ↦ l
      | inr m ↦ absurd (contains_none e (subst (λ (xs : List Edge). Contains xs e) (get_or_past edges a [] m) h))
    ]

-- walks back ----------------------------------------------------------------------------

module _ (next back : ℕ → List ℕ) (there : (a b : ℕ) → Contains (next a) b → Contains (back b) a) (here : (a b : ℕ) → Contains (back a) b
    → Contains (next b) a) where
  has_walk_turned : (a b n : ℕ) → has_walk next a b n ≡ has_walk back b a n
  has_walk_turned a b n =
      both_ways (has_walk next a b n) (has_walk back b a n) (λ e. test_from_walk back b a n (walk_turned next back there n a b (walk_from_test next a b n e)))
      (λ e. test_from_walk next a b n (walk_turned back next here n b a (walk_from_test back b a n e)))

  -- the shortest walk to a vertex is as long as the shortest back from it
  pub shortest_turned : (bound a b : ℕ) → shortest next bound a b ≡ shortest back bound b a
  shortest_turned bound a b i = least_from 0 bound (λ n. has_walk_turned a b n i)

-- down distances and costs ----------------------------------------------------------------

module _ (ups downs : List (List Edge)) (are : AreSlopes ups downs) where
  -- the edges of a vertex, and how many there are
  pub ups_indexed : (a : ℕ) → ups_at (indexed ups downs) a ≡ edges_at ups a
  ups_indexed a = ups_from ups downs 0 a a are.all (omega arith)

  pub downs_indexed : (a : ℕ) → downs_at (indexed ups downs) a ≡ edges_at downs a
  downs_indexed a = downs_from ups downs 0 a a are.all (omega arith)

  pub all_indexed : length (indexed ups downs) ≡ length ups
  all_indexed = slopes_from ups downs 0 are.all

  -- an edge up leads to a vertex, and so does one down
  pub ups_lead : LeadToVertices ups
  ups_lead a e h = omega (arith, are.rise a e h, edges_below ups a e h)

  pub downs_lead : LeadToVertices downs
  downs_lead a e h =
      let back = are.back_up a e.to (contains_mapped (λ (x : Edge). x.to) (edges_at downs a) e h) in
      let up = contains_map (λ (x : Edge). x.to) (edges_at ups e.to) a back in
      omega (arith, edges_below ups e.to up.0 up.1, are.all)

  -- the down distance is the length of the shortest walk up from the target
  pub down_is : (s t : ℕ) → down_distance (indexed ups downs) s t ≡ shortest (heads ups) (length ups) t s
  down_is s t =
      (λ i. shortest (λ a. map (λ e. e.to) (downs_indexed a i)) (all_indexed i) s t)
      ∙ shortest_turned (heads downs) (heads ups) are.back_up are.back_down (length ups) s t

  abbrev pub height : ℕ → ℕ
  height s = min s (length ups)

  pub falls : (s : ℕ) (e : Edge) → Contains (ups_at (indexed ups downs) s) e → height e.to < height s
  falls s e h =
      let k = subst (λ (xs : List Edge). Contains xs e) (ups_indexed s) h in
      omega (arith, are.rise s e k, edges_below ups s e k)

  pub bounded : (s : ℕ) → height s ≤ length (indexed ups downs)
  bounded s = omega (arith, all_indexed)

  module _ (t : ℕ) (distances costs : List (Option ℕ)) (lengths : AreDistances ups t distances) (all : AreCosts ups distances (length ups) costs) where
    -- the distances are those of the slopes
    pub distance_is : (s : ℕ) → s < length ups → slice_index_or distances s None ≡ down_distance (indexed ups downs) s t
    distance_is s h = lengths.shortest s h ∙ sym (down_is s t)

    upper : (s : ℕ) → ((e : Edge) → e.to < s → e.to < length ups → slice_index_or costs e.to None ≡ cost (indexed ups downs) e.to t)
        → filter_map (λ e. slice_index_or costs e.to None) (edges_at ups s) ≡ filter_map (λ e. cost (indexed ups downs) e.to t) (ups_at (indexed ups downs) s)
    upper s lesser =
        filter_map_same (λ e. slice_index_or costs e.to None) (λ e. cost (indexed ups downs) e.to t) (edges_at ups s)
        (λ e m. lesser e (are.rise s e m) (ups_lead s e m))
        ∙ ap (filter_map (λ e. cost (indexed ups downs) e.to t)) (sym (ups_indexed s))

    cost_below : (k s : ℕ) → s < k → s < length ups → slice_index_or costs s None ≡ cost (indexed ups downs) s t
    cost_below zero s l h = absurd (omega arith)
    cost_below (suc k) s l h =
        let above = upper s (λ e r m. cost_below k e.to (omega arith) m) in
        all.cost s h
        ∙ (λ i. let down = distance_is s h i in cond (is_some down) down (option_map suc (least_of (above i))))
        ∙ sym (cost_recurs (indexed ups downs) height falls bounded s t)

    -- the costs are those of the slopes
    pub cost_is : (s : ℕ) → s < length ups → slice_index_or costs s None ≡ cost (indexed ups downs) s t
    cost_is s h = cost_below (suc s) s (omega arith) h

-- a distance is less than the number of vertices
pub distance_short : (edges : List (List Edge)) (t : ℕ) (distances : List (Option ℕ)) → AreDistances edges t distances → AreLess (length edges) distances
distance_short edges t distances are a d h =
    let below = known_below distances a d h in
    omega (arith, (least_found 0 (length edges) (has_walk (heads edges) t a) d (sym (are.shortest a (omega (arith, are.all))) ∙ h)).bounded)

-- a way from each vertex that has a cost
pub ways_in_words : WaysLaw
ways_in_words ups downs are s t n target e =
    way (indexed ups downs) (height ups downs are) (falls ups downs are) (bounded ups downs are) n s t (omega (arith, all_indexed ups downs are)) e
