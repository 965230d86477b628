-- How far the order that tables tell agrees with the preferences.
use Rattle.std.proofs.Common.{◌≡◌, ℕ, zero, suc, ◌<◌, ◌≤◌, Bool, true, false, List, [], ◌∷◌, length, Some, refl, sym, ap, ◌∙◌, arith, inl, inr}
use Rattle.std.specs.Prelude.{◌==◌, slice_get, slice_set}
use Rattle.std.proofs.lemmas.Bool.{cases_eq, cases_lt, eq-eqb, eqb-true}
use Rattle.spread_labels.specs.Orders.{position_of}
use Rattle.spread_labels.proofs.ByPositions.{position_at, position_less}
use Rattle.subnet_view.specs.Reading.{Cells, switches}
use Rattle.held_tables.specs.Held.{HeldPlan}
use Rattle.next_tables.specs.SwitchPositions.{AreRight}
use Rattle.two_orders.specs.Agreement.{AgreesUpTo, AreVertices}
use Rattle.two_orders.specs.Growth.{number_at}
use Rattle.held_order.specs.ToldOrder.{AreTaken, IsLast, IsImpliedOrder, all_left, is_left, position_in}
use Rattle.held_order.specs.ToldLaws.{ToldOrdersAgree, ToldOrdersAreStable}
use Rattle.held_order.proofs.ToldOrders.{all_within, differ, index_in_list, last_by, last_may, left_before, left_other, left_own, none_beyond}
use Rattle.held_order.proofs.ToldOrders.{position_here, position_later, position_less as told_less, taken_each}

stands_at : (xs : List ℕ) (m x : ℕ) → slice_get xs m ≡ Some x → (m < length xs) × (number_at xs m ≡ x)
stands_at [] m x e = absurd (cc)
stands_at (y ∷ xs) zero x e = (omega arith, some_same y x e)
  where
    some_same : (a b : ℕ) → Some a ≡ Some b → a ≡ b
    some_same a b e = cc
stands_at (y ∷ xs) (suc m) x e = let rest = stands_at xs m x e in (let low = rest.0 in omega (arith, low), rest.1)

-- one that is left is not the one that was taken
left_not_own : (left : List Bool) (x i : ℕ) → is_left (slice_set left x false) i ≡ true → (x == i) ≡ false
left_not_own left x i h =
    differ x i (λ same. (
    let own = left_own left x in
    let at : is_left (slice_set left x false) x ≡ is_left (slice_set left x false) i = ap (is_left (slice_set left x false)) same in
    absurd (cc)))

module _ (cells : Cells) (tables : HeldPlan) (preferred : List ℕ) (are : AreVertices (length (switches cells)) preferred) where
  abbrev n : ℕ
  n = length (switches cells)

  same_index : (i j : ℕ) → i < length preferred → j < length preferred → number_at preferred i ≡ number_at preferred j → i ≡ j
  same_index i j i_in j_in e =
      elim (cases_lt i j) [
        | inl less ↦ absurd (are.once j i j_in less e)
        | inr more ↦ (elim (cases_lt j i) [
          | inl less ↦ absurd (are.once i j i_in less (sym e))
          | inr low ↦ omega (arith, more, low)
        ])
      ]

  module _ (q : ℕ → ℕ) (right : (lid : ℕ) → 1 ≤ lid → AreRight cells q tables lid) (k : ℕ) (agreed : AgreesUpTo preferred q k) where
    -- if one of the first k is taken, none after it in the list is left
    taken_last : (left : List Bool) (x : ℕ) → ((i : ℕ) → is_left left i ≡ true → i < n) → (last : IsLast cells tables preferred left x)
        → last.index < k → (j : ℕ) → last.index < j → j < length preferred → is_left left (number_at preferred j) ≡ true → ⊥
    taken_last left x within last low j less j_in j_left =
        let own = stands_at preferred last.index x last.stands in
        let behind = agreed last.index j low less j_in in
        elim (last_by left q n) [
          | inl none ↦ let no = none (number_at preferred j) (within (number_at preferred j) j_left) in absurd (cc)
          | inr z ↦
              let there = index_in_list preferred z.0 (are.all z.0 z.1) in
              let m = there.0 in
              let at = stands_at preferred m z.0 there.1 in
              let most = z.3 (number_at preferred j) (within (number_at preferred j) j_left) j_left in
              let is = ap q at.1 in
              (elim (cases_lt last.index m) [
                | inl later ↦
                    last.none_behind m z.0 (omega (arith, later)) there.1 z.2
                    (last_may cells tables q right left z.0 (λ i h. z.3 i (within i h) h))
                | inr before ↦ (elim (cases_eq m last.index) [
                  | inl same ↦ absurd (omega (arith, behind, most, is, ap (λ x. q (number_at preferred x)) same))
                  | inr other ↦
                      let lower : m < last.index = grind arith in
                      let first = agreed m last.index (omega (arith, lower, low)) lower own.0 in
                      absurd (omega (arith, first, behind, most, is))
                ])
              ])
        ]

    agreed_from : (left : List Bool) (taken : List ℕ) (end : List Bool) → AreTaken cells tables preferred left taken end
        → ((i : ℕ) → is_left end i ≡ false) → ((i : ℕ) → is_left left i ≡ true → i < n)
        → (i j : ℕ) → i < k → i < j → j < length preferred → is_left left (number_at preferred i) ≡ true → is_left left (number_at preferred j) ≡ true
        → position_in taken (number_at preferred i) < position_in taken (number_at preferred j)
    agreed_from left [] end taken none within i j low less j_in i_left j_left =
        let no = none (number_at preferred i) in
        let at = ap (λ (l : List Bool). is_left l (number_at preferred i)) taken in
        absurd (cc)
    agreed_from left (x ∷ taken) end are_taken none within i j low less j_in i_left j_left =
        let a = number_at preferred i in
        let b = number_at preferred j in
        let last = are_taken.0 in
        let own = stands_at preferred last.index x last.stands in
        let i_in : i < length preferred = omega (arith, less, j_in) in
        (elim (x == a) as (λ t. (x == a) ≡ t → position_in (x ∷ taken) a < position_in (x ∷ taken) b) [
          | true ↦ λ e.
              let same : last.index ≡ i = same_index last.index i own.0 i_in (own.1 ∙ eqb-true x a e) in
              absurd (taken_last left x within last (omega (arith, same, low)) j (omega (arith, same, less)) j_in j_left)
          | false ↦ λ e.
              let a_left : is_left (slice_set left x false) a ≡ true = left_other left x a e ∙ i_left in
              let a_at = position_later x a taken e in
              (elim (x == b) as (λ t. (x == b) ≡ t → position_in (x ∷ taken) a < position_in (x ∷ taken) b) [
                | true ↦ λ u.
                    let within_a = told_less taken a (taken_each cells tables preferred (slice_set left x false) taken end are_taken.1 none a a_left) in
                    let b_at = position_here x b taken u in
                    omega (arith, within_a, a_at, b_at)
                | false ↦ λ u.
                    let rest = agreed_from (slice_set left x false) taken end are_taken.1 none (λ y h. within y (left_before left x y h))
                    i j low less j_in a_left (left_other left x b u ∙ j_left) in
                    let b_at = position_later x b taken u in
                    omega (arith, rest, a_at, b_at)
              ]) refl
        ]) refl

    pub agreed_told : (taken : List ℕ) → IsImpliedOrder cells tables preferred (Some taken) → AgreesUpTo preferred (position_in taken) k
    agreed_told taken told i j low less j_in =
        agreed_from (all_left cells) taken told.0 told.1 told.2 (λ x h. none_beyond n x h) i j low less j_in
        (all_within n (number_at preferred i) (are.vertex i (omega (arith, less, j_in)))) (all_within n (number_at preferred j) (are.vertex j j_in))

  -- each position is that of one that is taken
  each_position : (left : List Bool) (taken : List ℕ) (end : List Bool) → AreTaken cells tables preferred left taken end → (v : ℕ) → v < length taken
      → (s : ℕ) × (is_left left s ≡ true) × (position_in taken s ≡ v)
  each_position left [] end are_taken v less = absurd (omega arith)
  each_position left (x ∷ taken) end are_taken v less =
      elim (cases_eq (length taken) v) [
        | inl same ↦ (x, are_taken.0.is_left, position_here x x taken (eq-eqb x x refl) ∙ same)
        | inr other ↦
            let rest = each_position (slice_set left x false) taken end are_taken.1 v (grind arith) in (
              rest.0,
              left_before left x rest.0 rest.1,
              position_later x rest.0 taken (left_not_own left x rest.0 rest.1) ∙ rest.2,
            )
      ]

  module _ (taken : List ℕ) (told : IsImpliedOrder cells tables preferred (Some taken)) (all : AgreesUpTo preferred (position_in taken) (length preferred)) where
    abbrev at : ℕ → ℕ
    at i = position_in taken (number_at preferred i)

    at_least : (i : ℕ) → i < length preferred → i ≤ at i
    at_least zero within = omega arith
    at_least (suc i) within =
        let rest = at_least i (omega (arith, within)) in
        let more = all i (suc i) (omega (arith, within)) (omega arith) within in
        omega (arith, rest, more)

    is_within : (i : ℕ) → i < length preferred → at i < length taken
    is_within i within =
        told_less taken (number_at preferred i)
        (taken_each cells tables preferred (all_left cells) taken told.0 told.1 told.2 (number_at preferred i) (all_within n (number_at preferred i) (are.vertex i within)))

    at_most : (c i : ℕ) → i < c → i < length preferred → at i ≡ i
    at_most zero i less within = absurd (omega arith)
    at_most (suc c) i less within =
        let low = at_least i within in
        elim (cases_eq (at i) i) [
          | inl same ↦ same
          | inr other ↦
              let above : i < at i = grind arith in
              let x = each_position (all_left cells) taken told.0 told.1 i (let bound = is_within i within in omega (arith, above, bound)) in
              let s_in = none_beyond n x.0 x.1 in
              let there = position_less preferred x.0 (are.all x.0 s_in) in
              let j = position_of preferred x.0 in
              let is : at j ≡ i = ap (position_in taken) there.1 ∙ x.2 in
              (elim (cases_lt j i) [
                | inl lower ↦
                    let own = at_most c j (omega (arith, lower, less)) there.0 in
                    absurd (omega (arith, own, is, lower))
                | inr more ↦ (elim (cases_eq j i) [
                  | inl same ↦ absurd (omega (arith, is, above, ap at same))
                  | inr apart ↦
                      let later : i < j = grind arith in
                      let behind = all i j within later there.0 in
                      absurd (omega (arith, behind, is, above))
                ])
              ])
        ]

    pub told_at : (s : ℕ) → s < n → position_in taken s ≡ position_of preferred s
    told_at s less =
        let there = position_less preferred s (are.all s less) in
        ap (position_in taken) (sym there.1) ∙ at_most (suc (position_of preferred s)) (position_of preferred s) (omega arith) there.0

-- the positions in a list agree with it
pub own_agrees : (n : ℕ) (vertices : List ℕ) → AreVertices n vertices → AgreesUpTo vertices (position_of vertices) (length vertices)
own_agrees n vertices are i j low less within =
    let a = position_at vertices are.once i low in
    let b = position_at vertices are.once j within in
    omega (arith, a, b, less)

pub told_orders_agree : ToldOrdersAgree
told_orders_agree cells tables preferred taken q k are told right agreed = agreed_told cells tables preferred are q right k agreed taken told

pub told_orders_are_stable : ToldOrdersAreStable
told_orders_are_stable cells tables preferred taken are told right s less =
    let all = agreed_told cells tables preferred are (position_of preferred) right (length preferred)
    (own_agrees (length (switches cells)) preferred are) taken told in
    told_at cells tables preferred are taken told all s less
