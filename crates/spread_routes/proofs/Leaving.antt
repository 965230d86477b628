-- How packets leave a switch towards many others side by side.
use Rattle.std.proofs.Common.{◌≡◌, inl, inr, ◌<◌, ◌≤◌, ◌+◌, ℕ, suc, List, [], ◌∷◌, refl, sym, ap, ◌∙◌, subst, arith, add-one, ◌-◌, min, take, true, false, Bool, cond, ◌&&◌, ◌||◌, drop, length, map}
use Rattle.std.proofs.lemmas.List.{get_or_default, get_or-drop, get_or-take, length-drop, length-take}
use Rattle.std.proofs.lemmas.Option.{slice_get-map}
use Rattle.std.specs.Prelude.{All, Contains, ◌%◌, nat_lt, option_map, slice_get, slice_index, slice_index_or}
use Rattle.std.specs.List.{list_any}
use Rattle.smp_bytes.proofs.Members.{contains_cases, contains_here, contains_later, contains_none}
use Rattle.port_graph.specs.declared.edge.Edge.{Edge}
use Rattle.port_graph.specs.Heads.{edges_at}
use Rattle.port_graph.proofs.Counts.{length_map}
use Rattle.spread_labels.specs.declared.target_set.TargetSet.{TargetSet}
use Rattle.spread_labels.specs.CandidatesByMarks.{chosen}
use Rattle.spread_labels.specs.Labels.{candidates}
use Rattle.spread_labels.specs.MarkSets.{AreCandidateSets, AreRowsOf, edge_at, picked, set_at, sets_at}
use Rattle.spread_labels.specs.Orders.{position_of}
use Rattle.spread_labels.specs.TargetSet.{has}
use Rattle.spread_labels.proofs.PortLists.{picked_first}
use Rattle.subnet_view.specs.GraphLaws.{IsGraph}
use Rattle.spread_routes.specs.declared.lid_digit.LidDigit.{LidDigit}
use Rattle.spread_routes.specs.Rule.{by_positions, order_by_keys}
use Rattle.spread_routes.specs.Spread.{Grading, goes_higher, lid_digit_there, number_with}
use Rattle.spread_routes.specs.Exits.{AreExits, AreTowards, ExitsValue, TowardsValue, no_lid_digit, port_chosen}
use Rattle.spread_routes.proofs.Ports.{higher_is, lead, port_is, position_there}

-- the ports of some edges as the edges themselves ----------------------------------------------

pub port_chosen_is : (es : List Edge) (choice : ℕ) → port_chosen (map (λ (e : Edge). e.port) es) choice ≡ option_map (λ (e : Edge). e.port) (chosen es choice)
port_chosen_is [] choice = refl
port_chosen_is (e ∷ es) choice =
    ap (λ n. slice_get (map (λ (x : Edge). x.port) (e ∷ es)) (choice % n)) (length_map (λ (x : Edge). x.port) (e ∷ es))
    ∙ slice_get-map (λ (x : Edge). x.port) (e ∷ es) (choice % length (e ∷ es))

-- edges that are picked are there
picked_there : (k : ℕ) (sets : List TargetSet) (es : List Edge) (e : Edge) → Contains (picked k sets es) e → Contains es e
picked_there k sets [] e h = h
picked_there k [] (x ∷ es) e h = absurd (contains_none e h)
picked_there k (set ∷ sets) (x ∷ es) e h =
    elim (has set k) as (λ b. Contains (cond b (x ∷ picked k sets es) (picked k sets es)) e → Contains (x ∷ es) e) [
      | true ↦ λ c. (elim (contains_cases x e (picked k sets es) c) [
        | inl same ↦ subst (λ (y : Edge). Contains (x ∷ es) y) same (contains_here x es)
        | inr later ↦ contains_later x e es (picked_there k sets es e later)
      ])
      | false ↦ λ c. contains_later x e es (picked_there k sets es e c)
    ] h

-- one edge more was looked at ------------------------------------------------------------------

pub higher_more : (p : Edge → Bool) (k : ℕ) (sets : List TargetSet) (es : List Edge) (i : ℕ) (old new : Bool) → length sets ≡ length es → i < length es
    → new ≡ (old || (has (set_at sets i) k && p (edge_at es i)))
    → (old || list_any p (picked k (drop i sets) (drop i es))) ≡ list_any p (picked k sets es)
    → (new || list_any p (picked k (drop (i + 1) sets) (drop (i + 1) es))) ≡ list_any p (picked k sets es)
higher_more p k sets es i old new long h is so =
    let rest = picked k (drop (suc i) sets) (drop (suc i) es) in
    (λ j. is j || list_any p (picked k (drop (add-one i j) sets) (drop (add-one i j) es)))
    ∙ one_more old (has (set_at sets i) k) (edge_at es i) rest
    ∙ ap (λ xs. old || list_any p xs) (sym (picked_first k sets es i long h)) ∙ so
  where
    with_it : (a b c : Bool) → ((a || b) || c) ≡ (a || (b || c))
    with_it true b c = refl
    with_it false b c = refl

    without_it : (a : Bool) (c : Bool) → ((a || false) || c) ≡ (a || c)
    without_it true c = refl
    without_it false c = refl

    one_more : (a b : Bool) (e : Edge) (rest : List Edge) → ((a || (b && p e)) || list_any p rest) ≡ (a || list_any p (cond b (e ∷ rest) rest))
    one_more a true e rest = with_it a (p e) (list_any p rest)
    one_more a false e rest = without_it a (list_any p rest)

-- the positions of the targets -----------------------------------------------------------------

abbrev pub targets_from : List ℕ → ℕ → ℕ → List ℕ
targets_from positions first end = take (end - first) (drop first positions)

module _ (positions : List ℕ) (first end : ℕ) (within : end ≤ length positions) where
  abbrev targets : List ℕ
  targets = targets_from positions first end

  pub all_targets : length targets ≡ end - first
  all_targets =
      length-take (end - first) (drop first positions) ∙ ap (min (end - first)) (length-drop first positions) ∙ least first end (length positions) within
    where
      least : (a b n : ℕ) → b ≤ n → min (b - a) (n - a) ≡ b - a
      least a b n h = omega arith

  pub target_at : (k : ℕ) → first + k < end → slice_index targets k ≡ slice_index positions (first + k)
  target_at k h = get_or-take (end - first) (drop first positions) k 0 (omega arith) ∙ get_or-drop first positions k 0

  pub targets_within : (n : ℕ) → ((i : ℕ) → i < length positions → slice_index positions i < n) → All (λ t. t < n) targets
  targets_within n each = λ k d h.
      let few : first + k < end = omega (arith, h, all_targets) in
      subst (λ (x : ℕ). x < n) (sym (get_or_default targets k d 0 h ∙ target_at k few)) (each (first + k) (omega arith))

-- candidates towards these
pub towards_are : (by : Grading) → IsGraph by.graph → (edges : List (List Edge)) (positions : List ℕ) (first end : ℕ) (sets : List (List TargetSet))
    → edges ≡ by_positions by.graph by.keys → length positions ≡ length by.graph
    → ((i : ℕ) → i < length by.graph → slice_index positions i ≡ position_of (order_by_keys by.graph by.keys) i)
    → end ≤ first + 64 → end ≤ length by.graph → AreCandidateSets edges (targets_from positions first end) sets
    → AreTowards by (record { first = first; end = end; sets = sets })
towards_are by good edges positions first end sets is all each few within are =
    let long : end ≤ length positions = omega (arith, within, all) in
    record {
      few = few;
      within = within;
      are_rows = subst (λ (es : List (List Edge)). AreRowsOf es sets) is are.are_rows;
      each = λ k p h l.
          let below : p < length edges = omega (arith, l, ap length is) in
          (λ i. picked k (sets_at sets p) (edges_at (sym is i) p)) ∙ are.each k p (omega (arith, h, all_targets positions first end long)) below
          ∙ (λ i. candidates (is i) ((target_at positions first end long k h ∙ each (first + k) (omega (arith, h, within))) i) p);
    }

-- what was found is how packets leave ----------------------------------------------------------

module _ (by : Grading) (good : IsGraph by.graph) (towards : TowardsValue) (are : AreTowards by towards) (own_index : ℕ)
    (there : own_index < length by.graph) (lid_digits : List LidDigit) (each : (q : ℕ) → q < length (by_positions by.graph by.keys) → slice_index_or lid_digits q no_lid_digit ≡ lid_digit_there by q)
    (exits : ExitsValue) where
  abbrev p : ℕ
  p = position_of (order_by_keys by.graph by.keys) own_index

  abbrev edges : List (List Edge)
  edges = by_positions by.graph by.keys

  abbrev found : ℕ → List Edge
  found k = picked k (sets_at towards.sets p) (edges_at edges p)

  pub exits_are : exits.lid_digit ≡ lid_digit_there by p → exits.choices ≡ by.choices → exits.own ≡ p
      → ((k : ℕ) → towards.first + k < towards.end → slice_index exits.targets k ≡ position_of (order_by_keys by.graph by.keys) (towards.first + k))
      → ((k : ℕ) → k < 64 → slice_index_or exits.ports k [] ≡ map (λ (e : Edge). e.port) (found k))
      → ((k : ℕ) → k < 64 → has exits.higher k
      ≡ list_any (λ (e : Edge). nat_lt exits.lid_digit.level (slice_index_or lid_digits e.to no_lid_digit).level) (found k))
      → AreExits by towards own_index exits
  exits_are lid_digit choices own target ports higher k lid h =
      let few : k < 64 = omega (arith, h, are.few) in
      let at : p < length edges = position_there by good own_index there in
      let is : found k ≡ candidates edges (position_of (order_by_keys by.graph by.keys) (towards.first + k)) p = are.each k p h at in
      let goes : has exits.higher k ≡ goes_higher by p (found k) =
      higher k few ∙ higher_is by good lid_digits p exits.lid_digit (found k) lid_digit each
      (λ e c. lead by good p e (picked_there k (sets_at towards.sets p) (edges_at edges p) e c)) in
      let q : ℕ = position_of (order_by_keys by.graph by.keys) (towards.first + k) in
      (λ i. port_chosen (ports k few i) (number_with (choices i) (lid_digit i) (goes i) lid (own i) (target k h i)))
      ∙ port_chosen_is (found k) (number_with by.choices (lid_digit_there by p) (goes_higher by p (found k)) lid p q)
      ∙ (λ i. option_map (λ (e : Edge). e.port)
      (chosen (is i) (number_with by.choices (lid_digit_there by p) (goes_higher by p (is i)) lid p q)))
      ∙ port_is by good lid (towards.first + k) own_index (omega (arith, h, are.within)) there
