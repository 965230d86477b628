-- Switches that are named in the order in which they stand grow that order again.
use Rattle.std.proofs.Common.{◌≡◌, ◌≢◌, ◌<◌, ℕ, zero, suc, List, [], ◌∷◌, inl, inr, refl, sym, ap, ◌∙◌, subst, arith, true, false, Bool, cond, not, ◌==◌, length}
use Rattle.std.proofs.lemmas.Bool.{cases_eq, eq-eqb, ne_eqb}
use Rattle.std.specs.Prelude.{Contains, filter}
use Rattle.smp_bytes.proofs.Members.{contains_here, contains_later, contains_cases, contains_none, contains-from_filter}
use Rattle.port_graph.specs.declared.edge.Edge.{Edge}
use Rattle.spread_labels.specs.Orders.{choose, earliest, grown_behind, is_beside, next_placed, numbers_from, order, position_of, without}
use Rattle.spread_labels.proofs.Growing.{earliest_there, numbers_below}

-- the tests before and after agree on these vertices with their positions in a list
module _ (edges : List (List Edge)) (before after : ℕ → ℕ → Bool) where
  pub record IsFirst (y z : ℕ) : Type 0 where
    pub earlier : after y z ≡ true
    pub later : after z y ≡ false

  abbrev pub Agree : List ℕ → List ℕ → Type 0
  Agree rest list = (a b : ℕ) → Contains rest a → Contains rest b → position_of list a < position_of list b → IsFirst a b

  -- the one that is before all others is the earliest
  earliest_is : (x : ℕ) (xs : List ℕ) (y : ℕ) → Contains (x ∷ xs) y → ((z : ℕ) → Contains (x ∷ xs) z → z ≢ y → IsFirst y z)
      → earliest after x xs ≡ y
  earliest_is x [] y h first =
      elim (contains_cases x y [] h) [
        | inl same ↦ same
        | inr k ↦ absurd (contains_none y k)
      ]
  earliest_is x (z ∷ zs) y h first =
      elim (after z x) as (λ b. after z x ≡ b → earliest after (cond b z x) zs ≡ y) [
        | true ↦ λ q. earliest_is z zs y (if_later q) (λ w k. first w (contains_later x w (z ∷ zs) k))
        | false ↦ λ q. earliest_is x zs y (if_not q) (λ w k apart. (elim (contains_cases x w zs k) [
          | inl same ↦ first w (subst (λ (v : ℕ). Contains (x ∷ z ∷ zs) v) same (contains_here x (z ∷ zs))) apart
          | inr j ↦ first w (contains_later x w (z ∷ zs) (contains_later z w zs j)) apart
        ]))
      ] refl
    where
      if_later : after z x ≡ true → Contains (z ∷ zs) y
      if_later q =
          elim (contains_cases x y (z ∷ zs) h) [
            | inr k ↦ k
            | inl same ↦ (elim (cases_eq z y) [
              | inl is ↦ subst (λ (v : ℕ). Contains (z ∷ zs) v) is (contains_here z zs)
              | inr apart ↦ (let f = (first z (contains_later x z (z ∷ zs) (contains_here z zs)) apart).later in
                  let t : after z y ≡ true = ap (after z) (sym same) ∙ q in absurd (cc))
            ])
          ]

      if_not : after z x ≡ false → Contains (x ∷ zs) y
      if_not q =
          elim (contains_cases x y (z ∷ zs) h) [
            | inl same ↦ subst (λ (v : ℕ). Contains (x ∷ zs) v) same (contains_here x zs)
            | inr k ↦ (elim (contains_cases z y zs k) [
              | inr j ↦ contains_later x y zs j
              | inl same ↦ (elim (cases_eq x y) [
                | inl is ↦ subst (λ (v : ℕ). Contains (x ∷ zs) v) is (contains_here x zs)
                | inr apart ↦ (let f = (first x (contains_here x (z ∷ zs)) apart).earlier in
                    let t : after y x ≡ false = ap (λ v. after v x) (sym same) ∙ q in absurd (cc))
              ])
            ])
          ]

  -- so the one that is chosen is chosen again, from the front or from all that are left
  chosen_there : (placed : List ℕ) (x : ℕ) (rest front : List ℕ) → filter (is_beside edges placed) (x ∷ rest) ≡ front
      → Contains (x ∷ rest) (choose before x rest front)
  chosen_there placed x rest [] e = earliest_there before rest x
  chosen_there placed x rest (z ∷ zs) e =
      (contains-from_filter (is_beside edges placed) (x ∷ rest) (earliest before z zs)
      (subst (λ (ws : List ℕ). Contains ws (earliest before z zs)) (sym e) (earliest_there before zs z))).0

  chosen_again : (placed : List ℕ) (x : ℕ) (rest front : List ℕ) → filter (is_beside edges placed) (x ∷ rest) ≡ front
      → ((z : ℕ) → Contains (x ∷ rest) z → z ≢ choose before x rest front → IsFirst (choose before x rest front) z)
      → choose after x rest front ≡ choose before x rest front
  chosen_again placed x rest [] e first = earliest_is x rest (earliest before x rest) (earliest_there before rest x) first
  chosen_again placed x rest (z ∷ zs) e first =
      earliest_is z zs (earliest before z zs) (earliest_there before zs z)
      (λ w k. first w (contains-from_filter (is_beside edges placed) (x ∷ rest) w (subst (λ (ws : List ℕ). Contains ws w) (sym e) k)).0)

  behind_itself : (s : ℕ) (list : List ℕ) → position_of (s ∷ list) s ≡ 0
  behind_itself s list = ap (λ b. cond b 0 (suc (position_of list s))) (eq-eqb s s refl)

  behind : (s : ℕ) (list : List ℕ) (a : ℕ) → a ≢ s → position_of (s ∷ list) a ≡ suc (position_of list a)
  behind s list a apart = ap (λ b. cond b 0 (suc (position_of list a))) (ne_eqb s a (λ e. apart (sym e)))

  differ : (s a : ℕ) → not (a == s) ≡ true → a ≢ s
  differ s a q same = let e = eq-eqb a s same in cc

  behind_again : (n : ℕ) (placed rest : List ℕ) → Agree rest (grown_behind edges before n placed rest)
      → grown_behind edges after n placed rest ≡ grown_behind edges before n placed rest
  behind_again zero placed rest agree = refl
  behind_again (suc n) placed [] agree = refl
  behind_again (suc n) placed (x ∷ rest) agree =
      let s = next_placed edges before placed x rest in
      let more = grown_behind edges before n (s ∷ placed) (without s (x ∷ rest)) in
      let there = chosen_there placed x rest (filter (is_beside edges placed) (x ∷ rest)) refl in
      let next : next_placed edges after placed x rest ≡ s =
      chosen_again placed x rest (filter (is_beside edges placed) (x ∷ rest)) refl
      (λ z k apart. agree s z there k (omega (arith, behind_itself s more, behind s more z apart))) in
      (λ i. next i ∷ grown_behind edges after n (next i ∷ placed) (without (next i) (x ∷ rest)))
      ∙ ap (λ xs. s ∷ xs)
      (behind_again n (s ∷ placed) (without s (x ∷ rest))
      (λ a b h k l. let f = contains-from_filter (λ y. not (y == s)) (x ∷ rest) a h in
      let g = contains-from_filter (λ y. not (y == s)) (x ∷ rest) b k in
      agree a b f.0 g.0 (omega (arith, l, behind s more a (differ s a f.1), behind s more b (differ s b g.1)))))

  pub order_again : ((a b : ℕ) → a < length edges → b < length edges → position_of (order edges before) a < position_of (order edges before) b
      → (after a b ≡ true) × (after b a ≡ false)) → order edges after ≡ order edges before
  order_again agree =
      behind_again (length edges) [] (numbers_from 0 (length edges))
      (λ a b h k l. let x = numbers_below (length edges) 0 a h in
      let y = numbers_below (length edges) 0 b k in
      let both = agree a b (omega (arith, x)) (omega (arith, y)) l in
      record { earlier = both.0; later = both.1 })
