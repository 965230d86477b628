-- The order that tables tell.
use Rattle.std.proofs.Common.{◌≡◌, ℕ, zero, suc, ◌+◌, ◌<◌, ◌≤◌, Bool, true, false, cond, List, [], ◌∷◌, ◌++◌, length, Some, refl, sym, ap, ◌∙◌, subst, arith, inl, inr, ◌⊎◌}
use Rattle.std.specs.Prelude.{nat_lt, not, ◌==◌, ◌&&◌, Contains, replicate, slice_get, slice_index_or, slice_set}
use Rattle.std.specs.List.{list_any}
use Rattle.std.proofs.lemmas.Bool.{and_parts, eqb-true, eq-eqb, cases_lt}
use Rattle.subnet_view.specs.Reading.{Cells, switches}
use Rattle.subnet_view.proofs.Members.{contains_here, contains_later, contains_cases, contains_none}
use Rattle.held_tables.specs.Held.{HeldPlan}
use Rattle.next_tables.specs.SwitchPositions.{is_bad, is_down, is_up, AreRight}
use Rattle.next_tables.proofs.Hops.{leads_within, to_within}
use Rattle.held_order.specs.Turns.{IsTurn}
use Rattle.held_order.specs.ToldOrder.{AreTaken, IsLast, MayBeLast, all_left, is_left, position_in}
use Rattle.held_order.specs.ToldLaws.{SomeOrderIsTold, ToldOrdersAreRight}

not_true : (t : Bool) → (t ≡ true → ⊥) → t ≡ false
not_true true h = absurd (h refl)
not_true false h = refl

pub differ : (x i : ℕ) → (x ≡ i → ⊥) → (x == i) ≡ false
differ x i h = not_true (x == i) (λ e. h (eqb-true x i e))

-- one that is taken is not left
pub left_own : (left : List Bool) (x : ℕ) → is_left (slice_set left x false) x ≡ false
left_own [] x = refl
left_own (b ∷ left) zero = refl
left_own (b ∷ left) (suc x) = left_own left x

less_equal : (x i : ℕ) → (suc x == suc i) ≡ false → (x == i) ≡ false
less_equal x i e = not_true (x == i) (λ h. let same : (suc x == suc i) ≡ true = eq-eqb (suc x) (suc i) (ap suc (eqb-true x i h)) in absurd (cc))

-- and any other is if it was
pub left_other : (left : List Bool) (x i : ℕ) → (x == i) ≡ false → is_left (slice_set left x false) i ≡ is_left left i
left_other [] x i e = refl
left_other (b ∷ left) zero zero e = absurd (cc)
left_other (b ∷ left) zero (suc i) e = refl
left_other (b ∷ left) (suc x) zero e = refl
left_other (b ∷ left) (suc x) (suc i) e = left_other left x i (less_equal x i e)

-- so it was before
pub left_before : (left : List Bool) (x i : ℕ) → is_left (slice_set left x false) i ≡ true → is_left left i ≡ true
left_before left x i h =
    (elim (x == i) as (λ t. (x == i) ≡ t → is_left left i ≡ true) [
      | true ↦ λ e. let own = left_own left x in let same : is_left (slice_set left x false) x ≡ is_left (slice_set left x false) i = ap (is_left (slice_set left x false)) (eqb-true x i e) in absurd (cc)
      | false ↦ λ e. sym (left_other left x i e) ∙ h
    ]) refl

-- how many are left
abbrev pub lefts : List Bool → ℕ
lefts [] = 0
lefts (b ∷ left) = cond b (suc (lefts left)) (lefts left)

pub lefts_less : (left : List Bool) (x : ℕ) → is_left left x ≡ true → lefts left ≡ suc (lefts (slice_set left x false))
lefts_less [] x h = absurd (cc)
lefts_less (true ∷ left) zero h = refl
lefts_less (false ∷ left) zero h = absurd (cc)
lefts_less (true ∷ left) (suc x) h = ap suc (lefts_less left x h)
lefts_less (false ∷ left) (suc x) h = lefts_less left x h

lefts_none : (left : List Bool) → ((i : ℕ) → is_left left i ≡ false) → lefts left ≡ 0
lefts_none [] none = refl
lefts_none (b ∷ left) none = ap (λ t. cond t (suc (lefts left)) (lefts left)) (none 0) ∙ lefts_none left (λ i. none (suc i))

lefts_all : (n : ℕ) → lefts (replicate n true) ≡ n
lefts_all zero = refl
lefts_all (suc n) = ap suc (lefts_all n)

pub all_within : (n i : ℕ) → i < n → is_left (replicate n true) i ≡ true
all_within zero i h = absurd (omega arith)
all_within (suc n) zero h = refl
all_within (suc n) (suc i) h = all_within n i (omega arith)

pub none_beyond : (n i : ℕ) → is_left (replicate n true) i ≡ true → i < n
none_beyond zero i h = absurd (cc)
none_beyond (suc n) zero h = omega arith
none_beyond (suc n) (suc i) h = let less = none_beyond n i h in omega arith

-- there are fewer once one is taken that is left
pub lefts_fewer : (left : List Bool) (x : ℕ) → is_left left x ≡ true → lefts (slice_set left x false) < lefts left
lefts_fewer left x h = let own = lefts_less left x h in omega (arith, own)

pub as_many_left : (left : List Bool) (x : ℕ) → length (slice_set left x false) ≡ length left
as_many_left [] x = refl
as_many_left (b ∷ left) zero = refl
as_many_left (b ∷ left) (suc x) = ap suc (as_many_left left x)

-- whether any is left
pub some_left : (left : List Bool) → list_any (λ flag. flag) left ≡ true → (i : ℕ) × (is_left left i ≡ true)
some_left [] h = absurd (cc)
some_left (true ∷ left) h = (0, refl)
some_left (false ∷ left) h = let rest = some_left left h in (suc rest.0, rest.1)

pub none_left : (left : List Bool) → list_any (λ flag. flag) left ≡ false → (i : ℕ) → is_left left i ≡ false
none_left [] h i = refl
none_left (true ∷ left) h i = absurd (cc)
none_left (false ∷ left) h zero = refl
none_left (false ∷ left) h (suc i) = none_left left h i

-- positions
pub position_less : (taken : List ℕ) (i : ℕ) → Contains taken i → position_in taken i < length taken
position_less [] i h = absurd (contains_none i h)
position_less (x ∷ taken) i h =
    (elim (x == i) as (λ t. (x == i) ≡ t → cond t (length taken) (position_in taken i) < suc (length taken)) [
      | true ↦ λ e. omega arith
      | false ↦ λ e. (elim (contains_cases x i taken h) [
        | inl same ↦ let is : (x == i) ≡ true = eq-eqb x i same in absurd (cc)
        | inr later ↦ let less = position_less taken i later in omega arith
      ])
    ]) refl

pub position_here : (x i : ℕ) (taken : List ℕ) → (x == i) ≡ true → position_in (x ∷ taken) i ≡ length taken
position_here x i taken e = ap (λ t. cond t (length taken) (position_in taken i)) e

pub position_later : (x i : ℕ) (taken : List ℕ) → (x == i) ≡ false → position_in (x ∷ taken) i ≡ position_in taken i
position_later x i taken e = ap (λ t. cond t (length taken) (position_in taken i)) e

is_later : (x y : ℕ) (taken : List ℕ) → Contains (x ∷ taken) y → (x == y) ≡ false → Contains taken y
is_later x y taken h no_x =
    elim (contains_cases x y taken h) [
      | inl same ↦ let is : (x == y) ≡ true = eq-eqb x y same in absurd (cc)
      | inr later ↦ later
    ]

pub apart : (taken : List ℕ) (i j : ℕ) → Contains taken i → Contains taken j → position_in taken i ≡ position_in taken j → i ≡ j
apart [] i j i_in j_in e = absurd (contains_none i i_in)
apart (x ∷ taken) i j i_in j_in e =
    (elim (x == i) as (λ t. (x == i) ≡ t → i ≡ j) [
      | true ↦ λ a. (elim (x == j) as (λ t. (x == j) ≡ t → i ≡ j) [
        | true ↦ λ b. sym (eqb-true x i a) ∙ eqb-true x j b
        | false ↦ λ b. absurd (omega (arith, position_here x i taken a, position_later x j taken b, position_less taken j (is_later x j taken j_in b), e))
      ]) refl
      | false ↦ λ a. (elim (x == j) as (λ t. (x == j) ≡ t → i ≡ j) [
        | true ↦ λ b. absurd (omega (arith, position_here x j taken b, position_later x i taken a, position_less taken i (is_later x i taken i_in a), e))
        | false ↦ λ b. apart taken i j (is_later x i taken i_in a) (is_later x j taken j_in b) (sym (position_later x i taken a) ∙ e ∙ position_later x j taken b)
      ]) refl
    ]) refl

pub is_le : (a b : ℕ) → not (nat_lt b a) ≡ true → a ≤ b
is_le a b h = grind arith

module _ (cells : Cells) (tables : HeldPlan) (preferred : List ℕ) where
  -- one that is left at the end was so before
  left_first : (left : List Bool) (taken : List ℕ) (end : List Bool) → AreTaken cells tables preferred left taken end → (i : ℕ) → is_left end i ≡ true
      → is_left left i ≡ true
  left_first left [] end are i h = ap (λ (l : List Bool). is_left l i) are ∙ h
  left_first left (x ∷ taken) end are i h = left_before left x i (left_first (slice_set left x false) taken end are.1 i h)

  many_taken : (left : List Bool) (taken : List ℕ) (end : List Bool) → AreTaken cells tables preferred left taken end → lefts left ≡ length taken + lefts end
  many_taken left [] end are = let same = ap lefts are in omega (arith, same)
  many_taken left (x ∷ taken) end are =
      let rest = many_taken (slice_set left x false) taken end are.1 in
      let own = lefts_less left x are.0.is_left in
      omega (arith, rest, own)

  -- if none is left at the end, each switch that was left is taken
  pub taken_each : (left : List Bool) (taken : List ℕ) (end : List Bool) → AreTaken cells tables preferred left taken end → ((i : ℕ) → is_left end i ≡ false)
      → (i : ℕ) → is_left left i ≡ true → Contains taken i
  taken_each left [] end are none i h = let no = none i in let at = ap (λ (l : List Bool). is_left l i) are in absurd (cc)
  taken_each left (x ∷ taken) end are none i h =
      (elim (x == i) as (λ t. (x == i) ≡ t → Contains (x ∷ taken) i) [
        | true ↦ λ e. subst (λ (y : ℕ). Contains (x ∷ taken) y) (eqb-true x i e) (contains_here x taken)
        | false ↦ λ e. contains_later x i taken (taken_each (slice_set left x false) taken end are.1 none i (left_other left x i e ∙ h))
      ]) refl

  -- no turn is at one that is neither before the first nor before the third
  no_turn : (left : List Bool) (taken : List ℕ) (end : List Bool) → AreTaken cells tables preferred left taken end → ((i : ℕ) → is_left end i ≡ false)
      → (i j k : ℕ) → is_left left i ≡ true → is_left left j ≡ true → is_left left k ≡ true → position_in taken i ≤ position_in taken j
      → position_in taken k ≤ position_in taken j → IsTurn cells tables i j k → ⊥
  no_turn left [] end are none i j k i_in j_in k_in a b turn = let no = none j in let at = ap (λ (l : List Bool). is_left l j) are in absurd (cc)
  no_turn left (x ∷ taken) end are none i j k i_in j_in k_in a b turn =
      (elim (x == j) as (λ t. (x == j) ≡ t → ⊥) [
        | true ↦ λ e.
            let same : x ≡ j = eqb-true x j e in
            are.0.may_be i k i_in k_in (subst (λ (y : ℕ). IsTurn cells tables i y k) (sym same) turn)
        | false ↦ λ e.
            let j_later = left_other left x j e ∙ j_in in
            let mid = position_later x j taken e in
            let low = position_less taken j (taken_each (slice_set left x false) taken end are.1 none j j_later) in
            (elim (x == i) as (λ t. (x == i) ≡ t → ⊥) [
              | true ↦ λ u. absurd (omega (arith, position_here x i taken u, mid, low, a))
              | false ↦ λ u. (elim (x == k) as (λ t. (x == k) ≡ t → ⊥) [
                | true ↦ λ v. absurd (omega (arith, position_here x k taken v, mid, low, b))
                | false ↦ λ v.
                    no_turn (slice_set left x false) taken end are.1 none i j k (left_other left x i u ∙ i_in) j_later (left_other left x k v ∙ k_in)
                    (omega (arith, position_later x i taken u, mid, a)) (omega (arith, position_later x k taken v, mid, b)) turn
              ]) refl
            ]) refl
      ]) refl

  -- one more is taken
  pub taken_more : (left : List Bool) (taken : List ℕ) (end : List Bool) (x : ℕ) → AreTaken cells tables preferred left taken end
      → IsLast cells tables preferred end x → AreTaken cells tables preferred left (taken ++ x ∷ []) (slice_set end x false)
  taken_more left [] end x are last =
      (subst (λ (l : List Bool). IsLast cells tables preferred l x) (sym are) last, ap (λ (l : List Bool). slice_set l x false) are)
  taken_more left (y ∷ taken) end x are last = (are.0, taken_more (slice_set left y false) taken end x are.1 last)

pub told_orders_are_right : ToldOrdersAreRight
told_orders_are_right cells tables preferred taken told =
    let left = all_left cells in
    let n = length (switches cells) in
    let many = many_taken cells tables preferred left taken told.0 told.1 in
    let empty = lefts_none told.0 told.2 in
    let full = lefts_all n in
    let each : (i : ℕ) → i < n → Contains taken i = λ i less. taken_each cells tables preferred left taken told.0 told.1 told.2 i (all_within n i less) in (
      λ i less. (let low = position_less taken i (each i less) in omega (arith, low, many, empty, full)),
      λ i j i_less j_less wired e. apart taken i j (each i i_less) (each j j_less) e,
      λ lid one i j k a b.
          not_true (is_bad (position_in taken) i j k) (λ bad.
          let parts = and_parts (is_down (position_in taken) i j) (is_up (position_in taken) j k) bad in
          let i_less = leads_within cells tables lid i j a in
          let j_less = leads_within cells tables lid j k b in
          let k_less = to_within cells tables lid _ k b.goes in
          no_turn cells tables preferred left taken told.0 told.1 told.2 i j k (all_within n i i_less) (all_within n j j_less) (all_within n k k_less)
          (is_le (position_in taken i) (position_in taken j) parts.0) (is_le (position_in taken k) (position_in taken j) parts.1)
          (record { lid = lid; is_lid = one; comes = a; leaves = b })),
    )

-- of those that are left the last by an order
pub last_by : (left : List Bool) (q : ℕ → ℕ) (n : ℕ) → ((i : ℕ) → i < n → is_left left i ≡ false)
    ⊎ ((j : ℕ) × (j < n) × (is_left left j ≡ true) × ((i : ℕ) → i < n → is_left left i ≡ true → q i ≤ q j))
last_by left q zero = inl (λ i less. absurd (omega arith))
last_by left q (suc n) =
    (elim (is_left left n) as (λ t. is_left left n ≡ t → ((i : ℕ) → i < suc n → is_left left i ≡ false)
    ⊎ ((j : ℕ) × (j < suc n) × (is_left left j ≡ true) × ((i : ℕ) → i < suc n → is_left left i ≡ true → q i ≤ q j))) [
      | false ↦ λ e. (elim (last_by left q n) [
        | inl none ↦ inl (λ i less. elim (cases_lt i n) [
          | inl low ↦ none i low
          | inr high ↦ let same : n ≡ i = omega (arith, less, high) in ap (is_left left) (sym same) ∙ e
        ])
        | inr some ↦ inr (
          some.0,
          (let low = some.1 in omega (arith, low)),
          some.2,
          λ i less is. elim (cases_lt i n) [
            | inl low ↦ some.3 i low is
            | inr high ↦ let same : n ≡ i = omega (arith, less, high) in let no : is_left left i ≡ false = ap (is_left left) (sym same) ∙ e in absurd (cc)
          ],
        )
      ])
      | true ↦ λ e. (elim (last_by left q n) [
        | inl none ↦ inr (
          n,
          omega arith,
          e,
          λ i less is. elim (cases_lt i n) [
            | inl low ↦ let no = none i low in absurd (cc)
            | inr high ↦ let same : n ≡ i = omega (arith, less, high) in let at = ap q same in omega (arith, at)
          ],
        )
        | inr some ↦ (elim (cases_lt (q some.0) (q n)) [
          | inl later ↦ inr (
            n,
            omega arith,
            e,
            λ i less is. elim (cases_lt i n) [
              | inl low ↦ let le = some.3 i low is in omega (arith, le, later)
              | inr high ↦ let same : n ≡ i = omega (arith, less, high) in let at = ap q same in omega (arith, at)
            ],
          )
          | inr earlier ↦ inr (
            some.0,
            (let low = some.1 in omega (arith, low)),
            some.2,
            λ i less is. elim (cases_lt i n) [
              | inl low ↦ some.3 i low is
              | inr high ↦ let same : n ≡ i = omega (arith, less, high) in let at = ap q same in omega (arith, at, earlier)
            ],
          )
        ])
      ])
    ]) refl

pub bad_is : (a b c : ℕ) → a ≤ b → c ≤ b → (not (nat_lt b a) && not (nat_lt b c)) ≡ true
bad_is a b c h k = grind arith

module _ (cells : Cells) (tables : HeldPlan) (q : ℕ → ℕ) (right : (lid : ℕ) → 1 ≤ lid → AreRight cells q tables lid) where
  -- it may be the last
  pub last_may : (left : List Bool) (j : ℕ) → ((i : ℕ) → is_left left i ≡ true → q i ≤ q j) → MayBeLast cells tables left j
  last_may left j last i k i_in k_in turn =
      let well = right turn.lid turn.is_lid i j k turn.comes turn.leaves in
      let bad = bad_is (q i) (q j) (q k) (last i i_in) (last k k_in) in
      absurd (cc)

-- an element stands at an index
pub index_in_list : (xs : List ℕ) (x : ℕ) → Contains xs x → (k : ℕ) × (slice_get xs k ≡ Some x)
index_in_list [] x h = absurd (contains_none x h)
index_in_list (y ∷ xs) x h =
    elim (contains_cases y x xs h) [
      | inl same ↦ (0, ap (λ (z : ℕ). Some z) same)
      | inr later ↦ let rest = index_in_list xs x later in (suc rest.0, rest.1)
    ]

pub some_order_is_told : SomeOrderIsTold
some_order_is_told cells tables preferred q all right told =
    let n = length (switches cells) in
    let taken = told.0 in
    let end = told.1 in
    let within : (i : ℕ) → is_left end i ≡ true → i < n = λ i h. none_beyond n i (left_first cells tables preferred (all_left cells) taken end told.2 i h) in
    let one = told.4 in
    elim (last_by end q n) [
      | inl none ↦ let no = none one.0 (within one.0 one.1) in absurd (cc)
      | inr last ↦
          let there = index_in_list preferred last.0 (all last.0 last.1) in
          told.3 there.0 last.0 (omega arith) there.1 last.2
          (last_may cells tables q right end last.0 (λ i h. last.3 i (within i h) h))
    ]
