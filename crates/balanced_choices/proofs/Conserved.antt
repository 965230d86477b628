-- Packets that positions pass on: none is lost, and none is added.
use Rattle.std.proofs.Common.{◌≡◌, ◌≢◌, ◌<◌, ◌≤◌, ◌⊎◌, ◌+◌, ◌-◌, ◌*◌, ◌^◌, ◌&&◌, ◌==◌, ℕ, zero, suc, List, [], ◌∷◌, inl, inr, refl, sym, ap, ◌∙◌, subst, arith}
use Rattle.std.proofs.Common.{true, false, Bool, cond, length, min}
use Rattle.std.proofs.lemmas.Bool.{cases_eq, cases_lt, eq-eqb, eqb-true, le-ltb, lt-ltb}
use Rattle.std.proofs.lemmas.List.{get_or_past, get_or-set_other, get_or-set_same, length-set}
use Rattle.std.proofs.lemmas.List.Sums.{sum_by-cons, sum_by_push}
use Rattle.std.proofs.lemmas.Option.{get_or_from_slice_get, slice_get_within}
use Rattle.std.specs.List.{sum_by}
use Rattle.std.specs.Option.{option_map_or}
use Rattle.std.specs.Prelude.{Contains, Option, None, Some, nat_lt, slice_index}
use Rattle.smp_bytes.proofs.Members.{contains_cases, contains_here, contains_later, contains_none}
use Rattle.port_graph.specs.declared.edge.Edge.{Edge}
use Rattle.port_graph.specs.Heads.{edges_at}
use Rattle.spread_labels.specs.Orders.{numbers_from}
use Rattle.spread_labels.proofs.Earlier.{numbers_more}
use Rattle.balanced_choices.specs.declared.level_digit.LevelDigit.{LevelDigit}
use Rattle.balanced_choices.specs.declared.ways.Change.TheVariants.{Add}
use Rattle.balanced_choices.specs.BalancedChoices.{choice_among, weight_among}
use Rattle.balanced_choices.specs.Loads.{Passing, first_edge, passed_on, passed_to, with_passed}
use Rattle.balanced_choices.specs.FirstLoadsLaw.{times_among}
use Rattle.balanced_choices.specs.Ways.{channel_by, way, with_changes}
use Rattle.balanced_choices.proofs.FirstLoads.{index_within}
use Rattle.balanced_choices.proofs.Sums.{Same, same_capped, same_sum, same_times, sum_equal, sum_none, sum_plus, sum_same}
use Rattle.balanced_choices.proofs.Sweeps.{AreInOrder, IsBefore, numbers_below}

apart : (a b : ℕ) → a ≢ b → (a == b) ≡ false
apart a b other = elim (a == b) as (λ r. (a == b) ≡ r → r ≡ false) [ true ↦ λ e. absurd (other (eqb-true a b e)) | false ↦ λ e. refl ] refl

-- indices of ends at positions ------------------------------------------------------------------

same_index : (ends q k t l : ℕ) → k < ends → l < ends → (q * ends + k == t * ends + l) ≡ ((q == t) && (k == l))
same_index ends q k t l h j =
    elim (cases_lt q t) [
      | inl less ↦
          let below = index_within t ends q k less h in
          apart (q * ends + k) (t * ends + l) (λ e. absurd (omega (arith, below, e)))
          ∙ ap (λ b. b && (k == l)) (sym (apart q t (λ e. absurd (omega (arith, less, e)))))
      | inr not_less ↦ (elim (cases_lt t q) [
        | inl more ↦
            let above = index_within q ends t l more j in
            apart (q * ends + k) (t * ends + l) (λ e. absurd (omega (arith, above, e)))
            ∙ ap (λ b. b && (k == l)) (sym (apart q t (λ e. absurd (omega (arith, more, e)))))
        | inr not_more ↦
            let same : q ≡ t = omega (arith, not_less, not_more) in
            ap (λ x. x * ends + k == t * ends + l) same
            ∙ (elim (cases_eq k l) [
              | inl is ↦ eq-eqb (t * ends + k) (t * ends + l) (ap (λ x. t * ends + x) is) ∙ (λ i. sym (eq-eqb q t same) i && sym (eq-eqb k l is) i)
              | inr other ↦ apart (t * ends + k) (t * ends + l) (λ e. other (omega (arith, e))) ∙ (λ i. sym (eq-eqb q t same) i && sym (apart k l other) i)
            ])
      ])
    ]

-- one number that grows -------------------------------------------------------------------------

grown : (x : ℕ) (had : List ℕ) (j i : ℕ) → i < length had → Same (slice_index (with_changes (Add x) had (j ∷ [])) i) (slice_index had i + cond (i == j) x 0)
grown x had j i h =
    elim (cases_eq i j) [
      | inl same ↦
          let new = min (slice_index had j + x) (2 ^ 64 - 1) in
          ap (λ n. min n (2 ^ 64 - 1))
          (ap (slice_index (with_changes (Add x) had (j ∷ []))) same ∙ get_or-set_same had j new 0 (omega (arith, h, same)))
          ∙ same_capped (slice_index had j + x)
          ∙ ap (λ n. min n (2 ^ 64 - 1)) ((λ k. slice_index had (sym same k) + cond (sym (eq-eqb i j same) k) x 0))
      | inr other ↦
          let new = min (slice_index had j + x) (2 ^ 64 - 1) in
          let none : slice_index had i ≡ slice_index had i + 0 = omega arith in
          ap (λ n. min n (2 ^ 64 - 1))
          (get_or-set_other had j i new 0 other ∙ none ∙ ap (λ b. slice_index had i + cond b x 0) (sym (apart i j other)))
    ]

-- one of the numbers below a bound
pick : (g : ℕ → ℕ) (x l n : ℕ) → sum_by (λ k. cond (k == l) x 0 * g k) (numbers_from 0 n) ≡ cond (nat_lt l n) (x * g l) 0
pick g x l zero = sym (ap (λ b. cond b (x * g l) 0) (le-ltb l 0 (omega arith)))
pick g x l (suc n) =
    let f : ℕ → ℕ = λ k. cond (k == l) x 0 * g k in
    let is : 0 + n ≡ n = omega arith in
    let last : sum_by f (numbers_from 0 (suc n)) ≡ sum_by f (numbers_from 0 n) + f n =
    ap (sum_by f) (numbers_more 0 n) ∙ sum_by_push f (numbers_from 0 n) (0 + n) ∙ ap (λ k. sum_by f (numbers_from 0 n) + f k) is in
    last ∙ ap (λ s. s + f n) (pick g x l n)
    ∙ (elim (cases_eq n l) [
      | inl same ↦
          let none : nat_lt l n ≡ false = le-ltb l n (omega (arith, same)) in
          let there : nat_lt l (suc n) ≡ true = lt-ltb l (suc n) (omega (arith, same)) in
          let zero_more : 0 + x * g n ≡ x * g n = omega arith in
          (λ i. cond (none i) (x * g l) 0 + cond (eq-eqb n l same i) x 0 * g n) ∙ zero_more ∙ ap (λ k. x * g k) same
          ∙ ap (λ b. cond b (x * g l) 0) (sym there)
      | inr other ↦
          let same : nat_lt l n ≡ nat_lt l (suc n) = (elim (cases_lt l n) [
            | inl less ↦ lt-ltb l n less ∙ sym (lt-ltb l (suc n) (omega (arith, less)))
            | inr past ↦ le-ltb l n past ∙ sym (le-ltb l (suc n) (let more : suc n ≤ l = grind arith in more))
          ]) in
          let none : cond (nat_lt l n) (x * g l) 0 + 0 * g n ≡ cond (nat_lt l n) (x * g l) 0 = omega arith in
          ap (λ b. cond (nat_lt l n) (x * g l) 0 + cond b x 0 * g n) (apart n l other) ∙ none ∙ ap (λ b. cond b (x * g l) 0) same
    ])

-- the ways of packets ---------------------------------------------------------------------------

module _ (ways : List (List Edge)) (digits : List LevelDigit) (number ends c : ℕ) where
  abbrev n : ℕ
  n = length ways

  -- the edge that position `q` takes towards end `k`
  abbrev taken : ℕ → ℕ → Option Edge
  taken k q = first_edge (edges_at ways q) (weight_among digits (edges_at ways q) q) q (number + k)

  -- how often the way from position `q` to end `k` takes the channel
  abbrev times : ℕ → ℕ → ℕ
  times k q = times_among c (way (taken k) n q)

  none_past : (k q : ℕ) → n ≤ q → taken k q ≡ None
  none_past k q h = ap (λ es. first_edge es (weight_among digits es q) q (number + k)) (get_or_past ways q [] h)

  no_way : (k q m : ℕ) → taken k q ≡ None → way (taken k) m q ≡ []
  no_way k q zero e = refl
  no_way k q (suc m) e = ap (λ o. option_map_or (λ x. channel_by q x ∷ way (taken k) m x.to) o []) e

  among : (k p : ℕ) (e : Edge) → taken k p ≡ Some e → Contains (edges_at ways p) e
  among k p e h =
      let es = edges_at ways p in
      let i = choice_among es (weight_among digits es p) p (number + k) in
      (i, slice_get_within es i e h, get_or_from_slice_get es i e e h)

  -- where packets go on: among the positions that are left, or nowhere
  abbrev GoesOn : List ℕ → ℕ → Type 0
  GoesOn ps t = (n ≤ t) ⊎ Contains ps t

  goes_on : (k p : ℕ) (ps : List ℕ) (e : Edge) → IsBefore ways p ps → taken k p ≡ Some e → GoesOn ps e.to
  goes_on k p ps e first h =
      elim (cases_lt e.to n) [
        | inl less ↦ inr (first.leads e (among k p e h) less)
        | inr past ↦ inl past
      ]

  -- a way has no more edges than positions are left
  settled : (k : ℕ) (ps : List ℕ) → AreInOrder ways ps → (q : ℕ) → GoesOn ps q → (f g : ℕ) → length ps ≤ f → length ps ≤ g
      → way (taken k) f q ≡ way (taken k) g q
  settled k ps order q (inl past) f g h l = no_way k q f (none_past k q past) ∙ sym (no_way k q g (none_past k q past))
  settled k [] order q (inr there) f g h l = absurd (contains_none q there)
  settled k (p ∷ ps) order q (inr there) zero g h l = absurd (omega (arith, h))
  settled k (p ∷ ps) order q (inr there) (suc f) zero h l = absurd (omega (arith, l))
  settled k (p ∷ ps) order q (inr there) (suc f) (suc g) h l =
      elim (contains_cases p q ps there) [
        | inl same ↦ subst (λ (x : ℕ). way (taken k) (suc f) x ≡ way (taken k) (suc g) x) same
            (elim (taken k p) as (λ o. taken k p ≡ o → option_map_or (λ x. channel_by p x ∷ way (taken k) f x.to) o []
            ≡ option_map_or (λ x. channel_by p x ∷ way (taken k) g x.to) o []) [
              | None ↦ λ e. refl
              | Some x ↦ λ e. ap (λ cs. channel_by p x ∷ cs)
                  (settled k ps order.1 x.to (goes_on k p ps x order.0 e) f g (omega (arith, h)) (omega (arith, l)))
            ] refl)
        | inr later ↦ settled k ps order.1 q (inr later) (suc f) (suc g) (omega (arith, h)) (omega (arith, l))
      ]

  -- the way from a position is its first channel and the way on
  times_on : (k p : ℕ) (ps : List ℕ) (e : Edge) → IsBefore ways p ps → AreInOrder ways ps → length (p ∷ ps) ≤ n → taken k p ≡ Some e
      → times k p ≡ cond (channel_by p e == c) 1 0 + times k e.to
  times_on k p ps e first order few h =
      let m = n - 1 in
      let is : n ≡ suc m = omega (arith, few) in
      ap (λ f. times_among c (way (taken k) f p)) is
      ∙ ap (λ o. times_among c (option_map_or (λ x. channel_by p x ∷ way (taken k) m x.to) o [])) h
      ∙ ap (λ cs. times_among c (channel_by p e ∷ cs))
      (settled k ps order e.to (goes_on k p ps e first h) m n (omega (arith, few, is)) (omega (arith, few)))
      ∙ sum_by-cons (λ x. cond (x == c) 1 0) (channel_by p e) (way (taken k) n e.to)

  no_times : (k p : ℕ) → taken k p ≡ None → times k p ≡ 0
  no_times k p h = ap (times_among c) (no_way k p n h)

  -- the packets that positions have, as often as their ways take the channel
  abbrev ks : List ℕ
  ks = numbers_from 0 ends

  abbrev had_at : List ℕ → ℕ → ℕ → ℕ
  had_at had q k = slice_index had (q * ends + k)

  abbrev to_come : List ℕ → List ℕ → ℕ
  to_come had ps = sum_by (λ q. sum_by (λ k. had_at had q k * times k q) ks) ps

  inside : (k : ℕ) → Contains ks k → k < ends
  inside k h = omega (arith, numbers_below ends 0 k h)

  -- one position counts once
  not_one : (f : ℕ → ℕ) (t : ℕ) (ps : List ℕ) → ((q : ℕ) → Contains ps q → q ≢ t) → sum_by (λ q. cond (q == t) (f q) 0) ps ≡ 0
  not_one f t ps other = sum_none (λ q. cond (q == t) (f q) 0) ps (λ q h. ap (λ b. cond b (f q) 0) (apart q t (other q h)))

  one : (f : ℕ → ℕ) (t : ℕ) (ps : List ℕ) → AreInOrder ways ps → (n ≤ t → f t ≡ 0) → GoesOn ps t → sum_by (λ q. cond (q == t) (f q) 0) ps ≡ f t
  one f t ps order none (inl past) = not_one f t ps (all_below ps order) ∙ sym (none past)
    where
      all_below : (ps : List ℕ) → AreInOrder ways ps → (q : ℕ) → Contains ps q → q ≢ t
      all_below [] order q h same = absurd (contains_none q h)
      all_below (p ∷ ps) order q h same =
          elim (contains_cases p q ps h) [
            | inl is ↦ absurd (omega (arith, is, same, past, order.0.below))
            | inr later ↦ all_below ps order.1 q later same
          ]
  one f t [] order none (inr there) = absurd (contains_none t there)
  one f t (p ∷ ps) order none (inr there) =
      sum_by-cons (λ q. cond (q == t) (f q) 0) p ps
      ∙ (elim (contains_cases p t ps there) [
        | inl same ↦
            let rest = not_one f t ps (λ q h e. order.0.out q h (e ∙ sym same)) in
            let is : f p + 0 ≡ f p = omega arith in
            (λ i. cond (eq-eqb p t same i) (f p) 0 + rest i) ∙ is ∙ ap f same
        | inr later ↦
            let rest = one f t ps order.1 none (inr later) in
            let is : 0 + f t ≡ f t = omega arith in
            (λ i. cond (apart p t (λ e. order.0.out t later (sym e)) i) (f p) 0 + rest i) ∙ is
      ])

  -- packets that reach a position are still to come
  reached : (x : ℕ) (had : List ℕ) (t l : ℕ) (ps : List ℕ) → l < ends → length had ≡ n * ends → AreInOrder ways ps → GoesOn ps t
      → Same (to_come (with_changes (Add x) had ((t * ends + l) ∷ [])) ps) (to_come had ps + x * times l t)
  reached x had t l ps h long order on =
      let new = with_changes (Add x) had ((t * ends + l) ∷ []) in
      let own : ℕ → ℕ = λ q. sum_by (λ k. had_at had q k * times k q) ks in
      let more : ℕ → ℕ = λ q. cond (q == t) (x * times l q) 0 in
      let all = sum_same (λ q. sum_by (λ k. had_at new q k * times k q) ks) (λ q. own q + more q) ps (λ q c. each q (below ps order q c)) in
      let parts = sum_plus own more ps in
      let that = one (λ q. x * times l q) t ps order (λ past. none past) on in
      all ∙ ap (λ s. min s (2 ^ 64 - 1)) (parts ∙ ap (λ s. sum_by own ps + s) that)
    where
      none : n ≤ t → x * times l t ≡ 0
      none past = let zero_times : x * 0 ≡ 0 = omega arith in ap (λ s. x * s) (no_times l t (none_past l t past)) ∙ zero_times

      below : (ps : List ℕ) → AreInOrder ways ps → (q : ℕ) → Contains ps q → q < n
      below [] order q h = absurd (contains_none q h)
      below (p ∷ ps) order q h =
          elim (contains_cases p q ps h) [
            | inl is ↦ omega (arith, is, order.0.below)
            | inr later ↦ below ps order.1 q later
          ]

      each : (q : ℕ) → q < n → Same (sum_by (λ k. had_at (with_changes (Add x) had ((t * ends + l) ∷ [])) q k * times k q) ks)
          (sum_by (λ k. had_at had q k * times k q) ks + cond (q == t) (x * times l q) 0)
      each q within =
          let new = with_changes (Add x) had ((t * ends + l) ∷ []) in
          let extra : ℕ → ℕ = λ k. cond ((q == t) && (k == l)) x 0 * times k q in
          let every = sum_same (λ k. had_at new q k * times k q) (λ k. had_at had q k * times k q + extra k) ks (λ k c. at q within k (inside k c)) in
          every ∙ ap (λ s. min s (2 ^ 64 - 1)) (sum_plus (λ k. had_at had q k * times k q) extra ks
          ∙ ap (λ s. sum_by (λ k. had_at had q k * times k q) ks + s) (picked q))
        where
          at : (q : ℕ) → q < n → (k : ℕ) → k < ends → Same (had_at (with_changes (Add x) had ((t * ends + l) ∷ [])) q k * times k q)
              (had_at had q k * times k q + cond ((q == t) && (k == l)) x 0 * times k q)
          at q within k low =
              let inner = index_within n ends q k within low in
              let new = with_changes (Add x) had ((t * ends + l) ∷ []) in
              let b = (q == t) && (k == l) in
              let sum = grown x had (t * ends + l) (q * ends + k) (omega (arith, inner, long))
              ∙ ap (λ e. min (had_at had q k + cond e x 0) (2 ^ 64 - 1)) (same_index ends q k t l low h) in
              let apart_from : (had_at had q k + cond b x 0) * times k q ≡ had_at had q k * times k q + cond b x 0 * times k q = omega arith in
              same_times (had_at new q k) (had_at had q k + cond b x 0) (times k q) sum ∙ ap (λ s. min s (2 ^ 64 - 1)) apart_from

          picked : (q : ℕ) → sum_by (λ k. cond ((q == t) && (k == l)) x 0 * times k q) ks ≡ cond (q == t) (x * times l q) 0
          picked q = elim (q == t) as (λ b. sum_by (λ k. cond (b && (k == l)) x 0 * times k q) ks ≡ cond b (x * times l q) 0) [
            | true ↦ pick (λ k. times k q) x l ends ∙ ap (λ b. cond b (x * times l q) 0) (lt-ltb l ends h)
            | false ↦ sum_none (λ k. 0 * times k q) ks (λ k c. (let is : 0 * times k q ≡ 0 = omega arith in is))
          ]

  -- one end at a position --------------------------------------------------------------------

  -- the packets of a position for some ends, as often as their ways take the channel
  abbrev of_ends : List ℕ → ℕ → List ℕ → ℕ
  of_ends had p ls = sum_by (λ l. had_at had p l * times l p) ls

  abbrev after : ℕ → ℕ → Passing → Passing
  after k p before = option_map_or (with_passed ends p k before) (taken k p) before

  abbrev AreLong : Passing → Type 0
  AreLong packets = (length packets.had ≡ n * ends) × (c < length packets.loads)

  long_after : (k p : ℕ) (before : Passing) → AreLong before → AreLong (after k p before)
  long_after k p before long =
      elim (taken k p) as (λ o. AreLong (option_map_or (with_passed ends p k before) o before)) [
        | None ↦ long
        | Some e ↦
            let x = had_at before.had p k in (
              length-set before.had (e.to * ends + k) (min (slice_index before.had (e.to * ends + k) + x) (2 ^ 64 - 1)) ∙ long.0,
              omega (arith, long.1, length-set before.loads (channel_by p e) (min (slice_index before.loads (channel_by p e) + x) (2 ^ 64 - 1))),
            )
      ]

  turned : (a b : ℕ) → (a == b) ≡ (b == a)
  turned a b =
      elim (cases_eq a b) [
        | inl same ↦ eq-eqb a b same ∙ sym (eq-eqb b a (sym same))
        | inr other ↦ apart a b other ∙ sym (apart b a (λ e. other (sym e)))
      ]

  one_end : (k p : ℕ) (ps ls : List ℕ) (before : Passing) → IsBefore ways p ps → AreInOrder ways ps → length (p ∷ ps) ≤ n → k < ends
      → ((l : ℕ) → Contains ls l → l < ends) → AreLong before
      → Same (slice_index (after k p before).loads c + (of_ends (after k p before).had p ls + to_come (after k p before).had ps))
      (slice_index before.loads c + (of_ends before.had p (k ∷ ls) + to_come before.had ps))
  one_end k p ps ls before first order few low lows long =
      elim (taken k p) as (λ o. taken k p ≡ o
      → Same (slice_index (option_map_or (with_passed ends p k before) o before).loads c
      + (of_ends (option_map_or (with_passed ends p k before) o before).had p ls + to_come (option_map_or (with_passed ends p k before) o before).had ps))
      (slice_index before.loads c + (of_ends before.had p (k ∷ ls) + to_come before.had ps))) [
        | None ↦ λ none.
            let nothing : had_at before.had p k * times k p ≡ 0 =
            (let is : had_at before.had p k * 0 ≡ 0 = omega arith in ap (λ m. had_at before.had p k * m) (no_times k p none) ∙ is) in
            let own : of_ends before.had p (k ∷ ls) ≡ of_ends before.had p ls
            = omega (arith, nothing, sum_by-cons (λ l. had_at before.had p l * times l p) k ls) in
            ap (λ s. min (slice_index before.loads c + (s + to_come before.had ps)) (2 ^ 64 - 1)) (sym own)
        | Some e ↦ λ some. moved e some
      ] refl
    where
      not_itself : (e : Edge) → taken k p ≡ Some e → p ≢ e.to
      not_itself e some same =
          elim (goes_on k p ps e first some) [
            | inl past ↦ omega (arith, past, same, first.below)
            | inr there ↦ first.out e.to there (sym same)
          ]

      same_times_of : (b : Bool) (x i : ℕ) (l h t : ℕ) → (l + cond b x 0) + (h + (t + x * i)) ≡ l + ((x * (cond b 1 0 + i) + h) + t)
      same_times_of true x i l h t = omega arith
      same_times_of false x i l h t = omega arith

      moved : (e : Edge) → taken k p ≡ Some e
          → Same (slice_index (with_passed ends p k before e).loads c
          + (of_ends (with_passed ends p k before e).had p ls + to_come (with_passed ends p k before e).had ps))
          (slice_index before.loads c + (of_ends before.had p (k ∷ ls) + to_come before.had ps))
      moved e some =
          let x = had_at before.had p k in
          let t = e.to in
          let new = with_passed ends p k before e in
          let loads_then = grown x before.loads (channel_by p e) c long.1
          ∙ ap (λ b. min (slice_index before.loads c + cond b x 0) (2 ^ 64 - 1)) (turned c (channel_by p e)) in
          let ends_then : of_ends new.had p ls ≡ of_ends before.had p ls =
          sum_equal (λ l. had_at new.had p l * times l p) (λ l. had_at before.had p l * times l p) ls
          (λ l h. ap (λ y. y * times l p)
          (get_or-set_other before.had (t * ends + k) (p * ends + l) (min (slice_index before.had (t * ends + k) + x) (2 ^ 64 - 1)) 0
          (λ is. (let no : true ≡ false = sym (eq-eqb (p * ends + l) (t * ends + k) is) ∙ same_index ends p l t k (lows l h) low
          ∙ ap (λ b. b && (l == k)) (apart p t (not_itself e some)) in absurd (cc))))) in
          let come = reached x before.had t k ps low long.0 order (goes_on k p ps e first some) in
          let both = same_sum (of_ends new.had p ls) (of_ends before.had p ls) (to_come new.had ps) (to_come before.had ps + x * times k t)
          (ap (λ s. min s (2 ^ 64 - 1)) ends_then) come in
          let all = same_sum (slice_index new.loads c) (slice_index before.loads c + cond (channel_by p e == c) x 0)
          (of_ends new.had p ls + to_come new.had ps) (of_ends before.had p ls + (to_come before.had ps + x * times k t)) loads_then both in
          let own : of_ends before.had p (k ∷ ls) ≡ x * (cond (channel_by p e == c) 1 0 + times k t) + of_ends before.had p ls =
          sum_by-cons (λ l. had_at before.had p l * times l p) k ls
          ∙ ap (λ m. x * m + of_ends before.had p ls) (times_on k p ps e first order few some) in
          all
          ∙ ap (λ s. min s (2 ^ 64 - 1))
          (same_times_of (channel_by p e == c) x (times k t) (slice_index before.loads c) (of_ends before.had p ls) (to_come before.had ps)
          ∙ ap (λ s. slice_index before.loads c + (s + to_come before.had ps)) (sym own))

  -- all ends at a position -------------------------------------------------------------------

  abbrev passed : ℕ → Passing → List ℕ → Passing
  passed p before ls = passed_to ends (edges_at ways p) (weight_among digits (edges_at ways p) p) p number before ls

  long_passed : (p : ℕ) (ls : List ℕ) (before : Passing) → AreLong before → AreLong (passed p before ls)
  long_passed p [] before long = long
  long_passed p (k ∷ ls) before long = long_passed p ls (after k p before) (long_after k p before long)

  all_ends : (p : ℕ) (ps ls : List ℕ) (before : Passing) → IsBefore ways p ps → AreInOrder ways ps → length (p ∷ ps) ≤ n
      → ((l : ℕ) → Contains ls l → l < ends) → AreLong before
      → Same (slice_index (passed p before ls).loads c + to_come (passed p before ls).had ps)
      (slice_index before.loads c + (of_ends before.had p ls + to_come before.had ps))
  all_ends p ps [] before first order few lows long =
      let is : to_come before.had ps ≡ 0 + to_come before.had ps = omega arith in
      ap (λ s. min (slice_index before.loads c + s) (2 ^ 64 - 1)) is
  all_ends p ps (k ∷ ls) before first order few lows long =
      all_ends p ps ls (after k p before) first order few (λ l h. lows l (contains_later k l ls h)) (long_after k p before long)
      ∙ one_end k p ps ls before first order few (lows k (contains_here k ls)) (λ l h. lows l (contains_later k l ls h)) long

  -- all positions ----------------------------------------------------------------------------

  abbrev swept : Passing → List ℕ → Passing
  swept before ps = passed_on ways digits number ends before ps

  pub long_swept : (ps : List ℕ) (before : Passing) → AreLong before → AreLong (swept before ps)
  long_swept [] before long = long
  long_swept (p ∷ ps) before long = long_swept ps (passed p before ks) (long_passed p ks before long)

  pub all_positions : (ps : List ℕ) (before : Passing) → AreInOrder ways ps → length ps ≤ n → AreLong before
      → Same (slice_index (swept before ps).loads c) (slice_index before.loads c + to_come before.had ps)
  all_positions [] before order few long =
      let is : slice_index before.loads c ≡ slice_index before.loads c + 0 = omega arith in
      ap (λ s. min s (2 ^ 64 - 1)) is
  all_positions (p ∷ ps) before order few long =
      all_positions ps (passed p before ks) order.1 (omega (arith, few)) (long_passed p ks before long)
      ∙ all_ends p ps ks before order.0 order.1 few (λ l h. inside l h) long
      ∙ ap (λ s. min (slice_index before.loads c + s) (2 ^ 64 - 1))
      (sym (sum_by-cons (λ q. sum_by (λ k. had_at before.had q k * times k q) ks) p ps))
