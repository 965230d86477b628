-- The turns in which vertices share.
use Rattle.std.proofs.Common.{◌≡◌, ◌<◌, ◌≤◌, ◌+◌, ◌++◌, ℕ, zero, suc, List, [], ◌∷◌, inl, inr, refl, sym, ap, ◌∙◌, subst, arith}
use Rattle.std.proofs.Common.{true, false, Bool, cond, length, length-append}
use Rattle.std.proofs.lemmas.Bool.{cases_eq}
use Rattle.std.proofs.Math.Nat.{mul-div-le}
use Rattle.std.proofs.lemmas.List.Elements.{Contains-append_cases, Contains-append_left, Contains-append_right}
use Rattle.std.specs.Prelude.{Contains, filter, not}
use Rattle.smp_bytes.proofs.Members.{contains_cases, contains_filter, contains-from_filter, contains_here, contains_later, contains_none}
use Rattle.port_graph.specs.declared.edge.Edge.{Edge}
use Rattle.spread_labels.specs.Labels.{candidates}
use Rattle.spread_labels.specs.Orders.{numbers_from}
use Rattle.spread_labels.proofs.Earlier.{filter_more, numbers_more}
use Rattle.spread_labels.proofs.Growing.{numbers_there}
use Rattle.balanced_choices.proofs.Sweeps.{numbers_least}
use Rattle.balanced_choices.proofs.UpDown.{comes_up, leads_down}
use Rattle.trial_loads.specs.ShareLaws.{ShareWhenAllHasCome, SharesLaw, TurnsLaw}
use Rattle.trial_loads.specs.TrialLoads.{goes_up, in_turn, last_first}

-- numbers from the last to the first, and from the first to the last

last_less : (n x : ℕ) → Contains (last_first n) x → x < n
last_less zero x h = absurd (contains_none x h)
last_less (suc n) x h =
    elim (contains_cases n x (last_first n) h) [
      | inl same ↦ omega (arith, same)
      | inr r ↦ omega (arith, last_less n x r)
    ]

last_there : (n x : ℕ) → x < n → Contains (last_first n) x
last_there zero x h = absurd (omega (arith, h))
last_there (suc n) x h =
    elim (cases_eq n x) [
      | inl same ↦ subst (λ (y : ℕ). Contains (n ∷ last_first n) y) same (contains_here n (last_first n))
      | inr other ↦ (let less : x < n = grind arith in contains_later n x (last_first n) (last_there n x less))
    ]

-- as many pass a test or fail it as there are
module _ (p : ℕ → Bool) where
  one_more : (b : Bool) (n : ℕ) (xs ys : List ℕ) → length xs + length ys ≡ n
      → length (cond b (n ∷ xs) xs) + length (ys ++ cond (not b) (n ∷ []) []) ≡ suc n
  one_more true n xs ys all = omega (arith, all, length-append ys [])
  one_more false n xs ys all = omega (arith, all, length-append ys (n ∷ []))

  as_many : (n : ℕ) → length (filter p (last_first n)) + length (filter (λ s. not (p s)) (numbers_from 0 n)) ≡ n
  as_many zero = refl
  as_many (suc n) =
      let is : 0 + n ≡ n = omega arith in
      ap (λ xs. length (filter p (last_first (suc n))) + length xs) (
      ap (filter (λ s. not (p s))) (numbers_more 0 n ∙ ap (λ x. numbers_from 0 n ++ x ∷ []) is) ∙ filter_more (λ s. not (p s)) (numbers_from 0 n) n
      )
      ∙ one_more (p n) n (filter p (last_first n)) (filter (λ s. not (p s)) (numbers_from 0 n)) (as_many n)

module _ (graph : List (List Edge)) (t : ℕ) where
  abbrev towards : ℕ → List Edge
  towards = candidates graph t

  abbrev downs : ℕ → ℕ → List ℕ
  downs k n = filter (λ s. not (goes_up towards s)) (numbers_from k n)

  not_up : (b : Bool) → not b ≡ true → b ≡ false
  not_up true h = sym h
  not_up false h = refl

  of_downs : (k n r : ℕ) → Contains (downs k n) r → (k ≤ r) × (goes_up towards r ≡ false)
  of_downs k n r h =
      let x = contains-from_filter (λ s. not (goes_up towards s)) (numbers_from k n) r h in
      (numbers_least n k r x.0, not_up (goes_up towards r) x.1)

  down : (n k : ℕ) → ShareWhenAllHasCome towards (downs k n)
  down zero k = tt
  down (suc n) k =
      elim (goes_up towards k) as (λ b. goes_up towards k ≡ b → ShareWhenAllHasCome towards (cond (not b) (k ∷ downs (suc k) n) (downs (suc k) n))) [
        | true ↦ λ up. down n (suc k)
        | false ↦ λ other. (
          λ r e h c is. (elim (contains_cases k r (downs (suc k) n) h) [
            | inl same ↦ omega (arith, same, is, leads_down graph t r e c (ap (goes_up towards) (sym same) ∙ other))
            | inr later ↦ (let x = of_downs (suc k) n r later in omega (arith, is, x.0, leads_down graph t r e c x.1))
          ]),
          down n (suc k),
        )
      ] refl

  up : (n m : ℕ) → ShareWhenAllHasCome towards (filter (goes_up towards) (last_first n) ++ downs 0 m)
  up zero m = down m 0
  up (suc n) m =
      let rest = filter (goes_up towards) (last_first n) in
      elim (goes_up towards n) as (λ b. goes_up towards n ≡ b → ShareWhenAllHasCome towards (cond b (n ∷ rest) rest ++ downs 0 m)) [
        | true ↦ λ goes_up_there. (
          λ r e h c is.
              let less = comes_up graph t r n e c is goes_up_there in
              (elim (contains_cases n r (rest ++ downs 0 m) h) [
                | inl same ↦ omega (arith, same, less)
                | inr later ↦ (elim (Contains-append_cases rest (downs 0 m) r later) [
                  | inl above ↦ omega (arith, less, last_less n r (contains-from_filter (goes_up towards) (last_first n) r above).0)
                  | inr below ↦ omega (arith, is, less, leads_down graph t r e c (of_downs 0 m r below).1)
                ])
              ]),
          up n m,
        )
        | false ↦ λ other. up n m
      ] refl

  there : (n s : ℕ) → s < n → Contains (in_turn towards n) s
  there n s less =
      elim (goes_up towards s) as (λ b. goes_up towards s ≡ b → Contains (in_turn towards n) s) [
        | true ↦ λ up_there. Contains-append_left (filter (goes_up towards) (last_first n)) (downs 0 n) s
            (contains_filter (goes_up towards) (last_first n) s (last_there n s less) up_there)
        | false ↦ λ other. Contains-append_right (filter (goes_up towards) (last_first n)) (downs 0 n) s
            (contains_filter (λ r. not (goes_up towards r)) (numbers_from 0 n) s (numbers_there n 0 s (omega arith) (omega (arith, less))) (ap not other))
      ] refl

pub turns_in_words : TurnsLaw
turns_in_words graph t =
    let n = length graph in
    record {
      all = there graph t n;
      once = length-append (filter (goes_up (candidates graph t)) (last_first n)) (downs graph t 0 n) ∙ as_many (goes_up (candidates graph t)) n;
      last = up graph t n n;
    }

pub shares_in_words : SharesLaw
shares_in_words n es = mul-div-le n (length es)
