-- The order in which positions pass on packets: each once, before the positions that its candidates lead to.
use Rattle.std.proofs.Common.{◌≡◌, ◌≢◌, ◌<◌, ◌≤◌, ◌+◌, ◌++◌, ℕ, zero, suc, List, [], ◌∷◌, inl, inr, refl, sym, ap, ◌∙◌, subst, arith}
use Rattle.std.proofs.Common.{true, false, not, Bool, cond, length}
use Rattle.std.proofs.Common.{append-nil}
use Rattle.std.proofs.lemmas.Bool.{cases_eq, cases_lt}
use Rattle.std.proofs.lemmas.List.{get_or_past, reverse-append, reverse-reverse}
use Rattle.std.proofs.lemmas.List.Elements.{Contains-append_cases, Contains-append_left, Contains-append_right}
use Rattle.std.proofs.lemmas.List.Filters.{sum_by-filter_both}
use Rattle.std.proofs.lemmas.List.Sums.{sum_by-append, sum_by-cons, sum_by_push}
use Rattle.std.specs.List.{sum_by}
use Rattle.std.specs.Prelude.{Contains, filter, reverse}
use Rattle.smp_bytes.proofs.Members.{contains_cases, contains_filter, contains-from_filter, contains_here, contains_later, contains_none}
use Rattle.port_graph.specs.declared.edge.Edge.{Edge}
use Rattle.port_graph.specs.Heads.{edges_at}
use Rattle.spread_labels.specs.Labels.{candidates, leads_up}
use Rattle.spread_labels.specs.Orders.{numbers_from}
use Rattle.spread_labels.proofs.Earlier.{filter_more, numbers_more}
use Rattle.spread_labels.proofs.Growing.{numbers_there}
use Rattle.spread_labels.proofs.Numbers.{made_at, numbers_long}
use Rattle.balanced_choices.specs.BalancedChoices.{is_below, near_first, towards}
use Rattle.balanced_choices.proofs.UpDown.{comes_up, leads_down}

-- position `p` comes before `ps`: it is none of them, and its candidates lead to them
pub record IsBefore (ways : List (List Edge)) (p : ℕ) (ps : List ℕ) : Type 0 where
  pub below : p < length ways
  pub out : (q : ℕ) → Contains ps q → q ≢ p
  pub leads : (e : Edge) → Contains (edges_at ways p) e → e.to < length ways → Contains ps e.to

-- each position of a list comes before those that follow
abbrev pub AreInOrder : List (List Edge) → List ℕ → Type 0
AreInOrder ways [] = Unit {0}
AreInOrder ways (p ∷ ps) = IsBefore ways p ps × AreInOrder ways ps

pub numbers_least : (n k x : ℕ) → Contains (numbers_from k n) x → k ≤ x
numbers_least zero k x h = absurd (contains_none x h)
numbers_least (suc n) k x h =
    elim (contains_cases k x (numbers_from (suc k) n) h) [
      | inl same ↦ omega (arith, same)
      | inr r ↦ omega (arith, numbers_least n (suc k) x r)
    ]

pub numbers_below : (m k x : ℕ) → Contains (numbers_from k m) x → x < k + m
numbers_below zero k x h = absurd (contains_none x h)
numbers_below (suc m) k x h =
    elim (contains_cases k x (numbers_from (suc k) m) h) [
      | inl same ↦ omega (arith, same)
      | inr r ↦ omega (arith, numbers_below m (suc k) x r)
    ]

reverse_filter : (p : ℕ → Bool) (xs : List ℕ) → reverse (filter p xs) ≡ filter p (reverse xs)
reverse_filter p [] = refl
reverse_filter p (x ∷ xs) =
    elim (p x) as (λ b. p x ≡ b → reverse (cond b (x ∷ filter p xs) (filter p xs)) ≡ filter p (reverse (x ∷ xs))) [
      | true ↦ λ e. reverse-append (x ∷ []) (filter p xs) ∙ ap (λ ys. ys ++ x ∷ []) (reverse_filter p xs)
          ∙ ap (λ b. filter p (reverse xs) ++ cond b (x ∷ []) []) (sym e) ∙ sym (filter_more p (reverse xs) x)
          ∙ sym (ap (filter p) (reverse-append (x ∷ []) xs))
      | false ↦ λ e. reverse_filter p xs ∙ sym (append-nil (filter p (reverse xs)))
          ∙ ap (λ b. filter p (reverse xs) ++ cond b (x ∷ []) []) (sym e) ∙ sym (filter_more p (reverse xs) x)
          ∙ sym (ap (filter p) (reverse-append (x ∷ []) xs))
    ] refl

last_more : (n : ℕ) → reverse (numbers_from 0 (suc n)) ≡ n ∷ reverse (numbers_from 0 n)
last_more n =
    let is : 0 + n ≡ n = omega arith in
    ap reverse (numbers_more 0 n ∙ ap (λ k. numbers_from 0 n ++ k ∷ []) is) ∙ reverse-append (numbers_from 0 n) (n ∷ [])

last_there : (n x : ℕ) → x < n → Contains (reverse (numbers_from 0 n)) x
last_there zero x h = absurd (omega (arith, h))
last_there (suc n) x h =
    subst (λ (xs : List ℕ). Contains xs x) (sym (last_more n))
    (elim (cases_eq n x) [
      | inl same ↦ subst (λ (y : ℕ). Contains (n ∷ reverse (numbers_from 0 n)) y) same (contains_here n (reverse (numbers_from 0 n)))
      | inr other ↦ (let less : x < n = grind arith in contains_later n x (reverse (numbers_from 0 n)) (last_there n x less))
    ])

last_less : (n x : ℕ) → Contains (reverse (numbers_from 0 n)) x → x < n
last_less zero x h = absurd (contains_none x h)
last_less (suc n) x h =
    elim (contains_cases n x (reverse (numbers_from 0 n)) (subst (λ (xs : List ℕ). Contains xs x) (last_more n) h)) [
      | inl same ↦ omega (arith, same)
      | inr r ↦ omega (arith, last_less n x r)
    ]

not_true : (b : Bool) → not b ≡ true → b ≡ false
not_true true h = sym h
not_true false h = refl

module _ (ways : List (List Edge))
    (up : (r : ℕ) (e : Edge) → Contains (edges_at ways r) e → is_below ways e.to ≡ true → e.to < r)
    (down : (r : ℕ) (e : Edge) → Contains (edges_at ways r) e → is_below ways r ≡ false → r < e.to) where
  abbrev above : ℕ → Bool
  above p = not (is_below ways p)

  abbrev ups : ℕ → List ℕ
  ups n = filter (is_below ways) (reverse (numbers_from 0 n))

  abbrev downs : ℕ → ℕ → List ℕ
  downs k n = filter above (numbers_from k n)

  down_there : (k n x : ℕ) → is_below ways x ≡ false → k ≤ x → x < k + n → Contains (downs k n) x
  down_there k n x other h l = contains_filter above (numbers_from k n) x (numbers_there n k x h l) (ap not other)

  downs_in_order : (n k : ℕ) → k + n ≡ length ways → AreInOrder ways (downs k n)
  downs_in_order zero k all = tt
  downs_in_order (suc n) k all =
      let rest = downs_in_order n (suc k) (omega (arith, all)) in
      elim (is_below ways k) as (λ b. is_below ways k ≡ b → AreInOrder ways (cond (not b) (k ∷ downs (suc k) n) (downs (suc k) n))) [
        | true ↦ λ e. rest
        | false ↦ λ e. (
          record {
            below = omega (arith, all);
            out = λ q c same. absurd (omega (arith, same, numbers_least n (suc k) q (contains-from_filter above (numbers_from (suc k) n) q c).0));
            leads = λ x c h.
                let past = down k x c e in
                (elim (is_below ways x.to) as (λ b. is_below ways x.to ≡ b → Contains (downs (suc k) n) x.to) [
                  | true ↦ λ i. absurd (omega (arith, past, up k x c i))
                  | false ↦ λ i. down_there (suc k) n x.to i (omega (arith, past)) (omega (arith, h, all))
                ] refl);
          },
          rest,
        )
      ] refl

  ups_in_order : (n : ℕ) → n ≤ length ways → AreInOrder ways (ups n ++ downs 0 (length ways))
  ups_in_order zero h = downs_in_order (length ways) 0 (omega arith)
  ups_in_order (suc n) h =
      let rest = ups_in_order n (omega (arith, h)) in
      subst (λ (xs : List ℕ). AreInOrder ways (filter (is_below ways) xs ++ downs 0 (length ways))) (sym (last_more n))
      (elim (is_below ways n) as (λ b. is_below ways n ≡ b → AreInOrder ways (cond b (n ∷ ups n) (ups n) ++ downs 0 (length ways))) [
        | true ↦ λ e. (
          record {
            below = omega (arith, h);
            out = λ q c same. (elim (Contains-append_cases (ups n) (downs 0 (length ways)) q c) [
              | inl one ↦ absurd (omega (arith, same, last_less n q (contains-from_filter (is_below ways) (reverse (numbers_from 0 n)) q one).0))
              | inr other ↦ absurd (let no = (contains-from_filter above (numbers_from 0 (length ways)) q other).1 in
                  cc)
            ]);
            leads = λ x c l. (elim (is_below ways x.to) as (λ b. is_below ways x.to ≡ b → Contains (ups n ++ downs 0 (length ways)) x.to) [
              | true ↦ λ i. Contains-append_left (ups n) (downs 0 (length ways)) x.to
                  (contains_filter (is_below ways) (reverse (numbers_from 0 n)) x.to (last_there n x.to (up n x c i)) i)
              | false ↦ λ i. Contains-append_right (ups n) (downs 0 (length ways)) x.to
                  (down_there 0 (length ways) x.to i (omega arith) (omega (arith, l)))
            ] refl);
          },
          rest,
        )
        | false ↦ λ e. rest
      ] refl)

  far_first_is : reverse (near_first ways) ≡ ups (length ways) ++ downs 0 (length ways)
  far_first_is =
      let ns = numbers_from 0 (length ways) in
      reverse-append (filter above (reverse ns)) (filter (is_below ways) ns)
      ∙ (λ i. reverse_filter (is_below ways) ns i ++ (reverse_filter above (reverse ns) ∙ ap (filter above) (reverse-reverse ns)) i)

  pub far_first_in_order : AreInOrder ways (reverse (near_first ways))
  far_first_in_order = subst (AreInOrder ways) (sym far_first_is) (ups_in_order (length ways) (omega arith))

-- the candidates towards a target lead on in this order
pub towards_in_order : (graph : List (List Edge)) (t : ℕ) → AreInOrder (towards graph t) (reverse (near_first (towards graph t)))
towards_in_order graph t =
    far_first_in_order (towards graph t)
    (λ r e c i. comes_up graph t r e.to e (own r e c) refl (own_below e.to i))
    (λ r e c i. leads_down graph t r e (own r e c) (own_not r e c i))
  where
    at : (r : ℕ) → r < length graph → edges_at (towards graph t) r ≡ candidates graph t r
    at r h = made_at (candidates graph t) (length graph) r [] h

    inside : (r : ℕ) (e : Edge) → Contains (edges_at (towards graph t) r) e → r < length graph
    inside r e c =
        elim (cases_lt r (length graph)) [
          | inl less ↦ less
          | inr past ↦ absurd (contains_none e (subst (λ (es : List Edge). Contains es e)
              (get_or_past (towards graph t) r [] (omega (arith, past, numbers_long (candidates graph t) 0 (length graph)))) c))
        ]

    own : (r : ℕ) (e : Edge) → Contains (edges_at (towards graph t) r) e → Contains (candidates graph t r) e
    own r e c = subst (λ (es : List Edge). Contains es e) (at r (inside r e c)) c

    own_below : (s : ℕ) → is_below (towards graph t) s ≡ true → leads_up s (candidates graph t s) ≡ true
    own_below s i =
        elim (cases_lt s (length graph)) [
          | inl less ↦ sym (ap (leads_up s) (at s less)) ∙ i
          | inr past ↦ absurd (let none = ap (leads_up s)
              (get_or_past (towards graph t) s [] (omega (arith, past, numbers_long (candidates graph t) 0 (length graph)))) in cc)
        ]

    own_not : (r : ℕ) (e : Edge) → Contains (edges_at (towards graph t) r) e → is_below (towards graph t) r ≡ false
        → leads_up r (candidates graph t r) ≡ false
    own_not r e c i = sym (ap (leads_up r) (at r (inside r e c))) ∙ i

-- sums over all positions in this order --------------------------------------------------------

sum_reversed : (f : ℕ → ℕ) (xs : List ℕ) → sum_by f (reverse xs) ≡ sum_by f xs
sum_reversed f [] = refl
sum_reversed f (x ∷ xs) =
    let rest = sum_reversed f xs in
    ap (sum_by f) (reverse-append (x ∷ []) xs) ∙ (let is : sum_by f (reverse xs ++ x ∷ []) ≡ sum_by f (x ∷ xs)
    = omega (arith, sum_by_push f (reverse xs) x, sum_by-cons f x xs, rest) in is)

pub sum_far_first : (f : ℕ → ℕ) (ways : List (List Edge)) → sum_by f (reverse (near_first ways)) ≡ sum_by f (numbers_from 0 (length ways))
sum_far_first f ways =
    let ns = numbers_from 0 (length ways) in
    let one = filter (λ p. not (is_below ways p)) (reverse ns) in
    let other = filter (is_below ways) ns in
    let turned = sum_reversed f (one ++ other) in
    let both = sum_by-append f one other in
    let back : sum_by f one ≡ sum_by f (filter (λ p. not (is_below ways p)) ns) =
    sym (ap (sum_by f) (reverse_filter (λ p. not (is_below ways p)) ns)) ∙ sum_reversed f (filter (λ p. not (is_below ways p)) ns) in
    let all = sum_by-filter_both (is_below ways) (λ p. not (is_below ways p)) (λ p. refl) f ns in
    omega (arith, turned, both, back, all)
