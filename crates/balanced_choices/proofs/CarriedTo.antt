-- The loads of channels, as the packets whose ways take them.
use Rattle.std.proofs.Common.{◌≡◌, ◌<◌, ◌≤◌, ◌+◌, ◌-◌, ◌*◌, ◌^◌, ℕ, zero, suc, List, [], ◌∷◌, inl, inr, refl, sym, ap, ◌∙◌, arith, length, min, replicate}
use Rattle.std.proofs.lemmas.Bool.{cases_eq}
use Rattle.std.proofs.lemmas.List.{get_or_append_left, get_or-append_right, get_or-replicate, get_or-set_other, get_or-set_same, length-replicate, length-set}
use Rattle.std.proofs.lemmas.List.Sums.{sum_by-cons}
use Rattle.std.specs.List.{sum_by}
use Rattle.std.specs.Option.{option_map_or}
use Rattle.std.specs.Prelude.{Contains, Option, None, Some, reverse, slice_index}
use Rattle.smp_bytes.proofs.Members.{contains_cases, contains_none}
use Rattle.port_graph.specs.declared.edge.Edge.{Edge}
use Rattle.port_graph.specs.Heads.{edges_at}
use Rattle.spread_labels.specs.Labels.{candidates}
use Rattle.spread_labels.specs.Orders.{numbers_from}
use Rattle.spread_labels.proofs.Numbers.{numbers_long}
use Rattle.balanced_choices.specs.declared.choice_rounds.Destination.{Destination}
use Rattle.balanced_choices.specs.declared.level_digit.LevelDigit.{LevelDigit}
use Rattle.balanced_choices.specs.declared.ways.Change.TheVariants.{Add}
use Rattle.balanced_choices.specs.BalancedChoices.{near_first, towards, weight_among}
use Rattle.balanced_choices.specs.FirstLoadsLaw.{FirstLoadsLaw, carried_to, first_way, sent_along, times_among}
use Rattle.balanced_choices.specs.Loads.{Passing, first_edge, first_loads, loads_with, loads_with_all, passed_on, passed_to, repeated, with_passed}
use Rattle.balanced_choices.specs.Ways.{channel_by, with_changes}
use Rattle.balanced_choices.proofs.Conserved.{all_positions, long_swept}
use Rattle.balanced_choices.proofs.FirstLoads.{repeated_long}
use Rattle.balanced_choices.proofs.Sums.{Same, same_sum, sum_equal}
use Rattle.balanced_choices.proofs.Sweeps.{AreInOrder, numbers_below, sum_far_first, towards_in_order}

-- copies of a number
repeated_at : (count : ℕ) (xs : List ℕ) (q k : ℕ) → q < length xs → k < count → slice_index (repeated count xs) (q * count + k) ≡ slice_index xs q
repeated_at count [] q k h l = absurd (omega (arith, h))
repeated_at count (x ∷ xs) zero k h l =
    let is : zero * count + k ≡ k = omega arith in
    ap (slice_index (repeated count (x ∷ xs))) is
    ∙ get_or_append_left (replicate count x) (repeated count xs) 0 k (omega (arith, l, length-replicate count x))
    ∙ get_or-replicate count k x 0 l
repeated_at count (x ∷ xs) (suc q) k h l =
    let past : count ≤ suc q * count + k = omega arith in
    let is : suc q * count + k - count ≡ q * count + k = omega arith in
    get_or-append_right (replicate count x) (repeated count xs) count (suc q * count + k) 0 (length-replicate count x) past
    ∙ ap (slice_index (repeated count xs)) is
    ∙ repeated_at count xs q k (omega (arith, h)) l

counted : (xs : List ℕ) → sum_by (λ x. 1) xs ≡ length xs
counted [] = refl
counted (x ∷ xs) = let rest = counted xs in omega (arith, sum_by-cons (λ (y : ℕ). 1) x xs, rest)

below : (ways : List (List Edge)) (ps : List ℕ) → AreInOrder ways ps → (q : ℕ) → Contains ps q → q < length ways
below ways [] order q h = absurd (contains_none q h)
below ways (p ∷ ps) order q h =
    elim (contains_cases p q ps h) [
      | inl is ↦ omega (arith, is, order.0.below)
      | inr later ↦ below ways ps order.1 q later
    ]

-- to one destination
to_one : (ways : List (List Edge)) (sent : List ℕ) (digits : List LevelDigit) (loads : List ℕ) (d : Destination) (c : ℕ)
    → AreInOrder ways (reverse (near_first ways)) → length sent ≡ length ways → c < length loads
    → Same (slice_index (loads_with ways sent digits loads d) c)
    (slice_index loads c + sum_by (sent_along ways sent digits c d) (numbers_from 0 (length ways)))
to_one ways sent digits loads d c order long within =
    let ps = reverse (near_first ways) in
    let n = length ways in
    let before : Passing = record { had = repeated d.ends sent; loads = loads } in
    let all : length ps ≡ n = sym (counted ps) ∙ sum_far_first (λ x. 1) ways ∙ counted (numbers_from 0 n) ∙ numbers_count 0 n in
    all_positions ways digits d.number d.ends c ps before order (omega (arith, all))
    (repeated_long d.ends sent ∙ ap (λ m. m * d.ends) long, within)
    ∙ ap (λ s. min (slice_index loads c + s) (2 ^ 64 - 1))
    (sum_equal (λ q. sum_by (λ k. slice_index before.had (q * d.ends + k) * times_among c (first_way ways digits (d.number + k) q)) (numbers_from 0 d.ends))
    (sent_along ways sent digits c d) ps (λ q h. sum_equal
    (λ k. slice_index before.had (q * d.ends + k) * times_among c (first_way ways digits (d.number + k) q))
    (λ k. slice_index sent q * times_among c (first_way ways digits (d.number + k) q)) (numbers_from 0 d.ends)
    (λ k l. ap (λ x. x * times_among c (first_way ways digits (d.number + k) q))
    (repeated_at d.ends sent q k (omega (arith, long, below ways ps order q h)) (omega (arith, numbers_below d.ends 0 k l)))))
    ∙ sum_far_first (sent_along ways sent digits c d) ways)
  where
    numbers_count : (k n : ℕ) → length (numbers_from k n) ≡ n
    numbers_count k zero = refl
    numbers_count k (suc n) = ap suc (numbers_count (suc k) n)

long_with : (ways : List (List Edge)) (sent : List ℕ) (digits : List LevelDigit) (loads : List ℕ) (d : Destination) (c : ℕ) → length sent ≡ length ways
    → c < length loads → c < length (loads_with ways sent digits loads d)
long_with ways sent digits loads d c long within =
    (long_swept ways digits d.number d.ends c (reverse (near_first ways)) (record { had = repeated d.ends sent; loads = loads })
    (repeated_long d.ends sent ∙ ap (λ m. m * d.ends) long, within)).1

-- to all destinations
to_all : (graph : List (List Edge)) (sent : List ℕ) (digits : List LevelDigit) (loads : List ℕ) (ds : List Destination) (c : ℕ)
    → length sent ≡ length graph → c < length loads
    → Same (slice_index (loads_with_all graph sent digits loads ds) c) (slice_index loads c + sum_by (carried_to graph sent digits c) ds)
to_all graph sent digits loads [] c long within =
    let is : slice_index loads c ≡ slice_index loads c + 0 = omega arith in ap (λ s. min s (2 ^ 64 - 1)) is
to_all graph sent digits loads (d ∷ ds) c long within =
    let ways = towards graph d.position in
    let as_long : length ways ≡ length graph = numbers_long (candidates graph d.position) 0 (length graph) in
    let now = loads_with ways sent digits loads d in
    let own = carried_to graph sent digits c d in
    let rest = sum_by (carried_to graph sent digits c) ds in
    let first = to_one ways sent digits loads d c (towards_in_order graph d.position) (long ∙ sym as_long) within
    ∙ ap (λ n. min (slice_index loads c + sum_by (sent_along ways sent digits c d) (numbers_from 0 n)) (2 ^ 64 - 1)) as_long in
    let both : slice_index loads c + own + rest ≡ slice_index loads c + sum_by (carried_to graph sent digits c) (d ∷ ds)
    = omega (arith, sum_by-cons (carried_to graph sent digits c) d ds) in
    to_all graph sent digits now ds c long (long_with ways sent digits loads d c (long ∙ sym as_long) within)
    ∙ same_sum (slice_index now c) (slice_index loads c + own) rest rest first refl
    ∙ ap (λ s. min s (2 ^ 64 - 1)) both

-- loads are at most 2^64 - 1 ---------------------------------------------------------------------

module _ (c : ℕ) where
  abbrev IsCapped : List ℕ → Type 0
  IsCapped loads = slice_index loads c ≤ 2 ^ 64 - 1

  capped_change : (x j : ℕ) (loads : List ℕ) → c < length loads → IsCapped loads → IsCapped (with_changes (Add x) loads (j ∷ []))
  capped_change x j loads within most =
      let new = min (slice_index loads j + x) (2 ^ 64 - 1) in
      elim (cases_eq c j) [
        | inl same ↦ (let is = ap (slice_index (with_changes (Add x) loads (j ∷ []))) same ∙ get_or-set_same loads j new 0 (omega (arith, within, same)) in
            omega (arith, is))
        | inr other ↦ (let is = get_or-set_other loads j c new 0 other in omega (arith, is, most))
      ]

  abbrev Keeps : Passing → Type 0
  Keeps packets = (c < length packets.loads) × IsCapped packets.loads

  capped_after : (ends p k : ℕ) (o : Option Edge) (before : Passing) → Keeps before → Keeps (option_map_or (with_passed ends p k before) o before)
  capped_after ends p k None before keeps = keeps
  capped_after ends p k (Some e) before keeps =
      let x = slice_index before.had (p * ends + k) in (
        omega (arith, keeps.0, length-set before.loads (channel_by p e) (min (slice_index before.loads (channel_by p e) + x) (2 ^ 64 - 1))),
        capped_change x (channel_by p e) before.loads keeps.0 keeps.1,
      )

  capped_to : (ends : ℕ) (edges : List Edge) (weight p number : ℕ) (before : Passing) (ls : List ℕ) → Keeps before
      → Keeps (passed_to ends edges weight p number before ls)
  capped_to ends edges weight p number before [] keeps = keeps
  capped_to ends edges weight p number before (k ∷ ls) keeps =
      capped_to ends edges weight p number (option_map_or (with_passed ends p k before) (first_edge edges weight p (number + k)) before) ls
      (capped_after ends p k (first_edge edges weight p (number + k)) before keeps)

  capped_on : (ways : List (List Edge)) (digits : List LevelDigit) (number ends : ℕ) (before : Passing) (ps : List ℕ) → Keeps before
      → Keeps (passed_on ways digits number ends before ps)
  capped_on ways digits number ends before [] keeps = keeps
  capped_on ways digits number ends before (p ∷ ps) keeps =
      let es = edges_at ways p in
      let weight = weight_among digits es p in
      capped_on ways digits number ends (passed_to ends es weight p number before (numbers_from 0 ends)) ps
      (capped_to ends es weight p number before (numbers_from 0 ends) keeps)

  capped_all : (graph : List (List Edge)) (sent : List ℕ) (digits : List LevelDigit) (loads : List ℕ) (ds : List Destination)
      → (c < length loads) × IsCapped loads → IsCapped (loads_with_all graph sent digits loads ds)
  capped_all graph sent digits loads [] keeps = keeps.1
  capped_all graph sent digits loads (d ∷ ds) keeps =
      let ways = towards graph d.position in
      capped_all graph sent digits (loads_with ways sent digits loads d) ds
      (capped_on ways digits d.number d.ends (record { had = repeated d.ends sent; loads = loads }) (reverse (near_first ways)) keeps)

pub first_loads_in_words : FirstLoadsLaw
unfolding first_loads
first_loads_in_words graph sent digits ds c long within =
    let none : List ℕ = replicate (256 * length graph) 0 in
    let inside : c < length none = omega (arith, within, length-replicate {A = ℕ} (256 * length graph) 0) in
    let zero_there : slice_index none c ≡ 0 = get_or-replicate (256 * length graph) c 0 0 within in
    let most = capped_all c graph sent digits none ds (inside, omega (arith, zero_there)) in
    let load = slice_index (loads_with_all graph sent digits none ds) c in
    let sum = sum_by (carried_to graph sent digits c) ds in
    let is : load ≡ min load (2 ^ 64 - 1) = omega (arith, most) in
    let start : 0 + sum ≡ sum = omega arith in
    is ∙ to_all graph sent digits none ds c long inside ∙ ap (λ s. min s (2 ^ 64 - 1)) (ap (λ z. z + sum) zero_there ∙ start)
