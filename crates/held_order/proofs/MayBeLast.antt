-- Which switch may be the last, by the lists of turns that packets make.
use Rattle.std.proofs.Common.{◌≡◌, ℕ, ◌+◌, Bool, true, false, List, [], refl}
use Rattle.std.specs.Prelude.{◌&&◌, not, slice_index_or}
use Rattle.std.proofs.lemmas.Bool.{and_from, and_parts}
use Rattle.subnet_view.specs.Reading.{Cells}
use Rattle.subnet_view.proofs.Members.{list_any_at, list_any_true}
use Rattle.held_tables.specs.Held.{HeldPlan}
use Rattle.held_order.specs.declared.turns.SwitchTurn.{SwitchTurn}
use Rattle.held_order.specs.Turns.{AreTurns}
use Rattle.held_order.specs.LastByTurns.{IsLastBy, NoneFromBy, may_be_last, turns_in}
use Rattle.held_order.specs.ToldOrder.{IsLast, MayBeLast, NoneFrom, is_left}

not_true : (t : Bool) → (t ≡ true → ⊥) → t ≡ false
not_true true h = absurd (h refl)
not_true false h = refl

of_not : (t : Bool) → not t ≡ true → t ≡ false
of_not true h = absurd (cc)
of_not false h = refl

to_not : (t : Bool) → t ≡ false → not t ≡ true
to_not true h = absurd (cc)
to_not false h = refl

module _ (cells : Cells) (tables : HeldPlan) (turns : List (List SwitchTurn)) (are : AreTurns cells tables turns) (left : List Bool) where
  abbrev test : SwitchTurn → Bool
  test turn = is_left left turn.from && is_left left turn.to

  -- what may be the last by the lists may be
  pub may_is : (j : ℕ) → may_be_last turns left j ≡ true → (is_left left j ≡ true) × MayBeLast cells tables left j
  may_is j h =
      let parts = and_parts (is_left left j) (not (turns_in left (slice_index_or turns j []))) h in (
        parts.0,
        λ i k i_in k_in turn.
            let noted = (are.each i j k).1 turn in
            let some : turns_in left (slice_index_or turns j []) ≡ true =
            list_any_true test (slice_index_or turns j []) (record { from = i; to = k }) noted (and_from (is_left left i) (is_left left k) i_in k_in) in
            let none = of_not (turns_in left (slice_index_or turns j [])) parts.1 in
            absurd (cc),
      )

  pub is_may : (j : ℕ) → is_left left j ≡ true → MayBeLast cells tables left j → may_be_last turns left j ≡ true
  is_may j here may =
      and_from (is_left left j) (not (turns_in left (slice_index_or turns j []))) here (to_not (turns_in left (slice_index_or turns j []))
      (not_true (turns_in left (slice_index_or turns j [])) (λ some.
      let it = list_any_at test (slice_index_or turns j []) some in
      let parts = and_parts (is_left left it.0.from) (is_left left it.0.to) it.2 in
      may it.0.from it.0.to parts.0 parts.1 ((are.each it.0.from j it.0.to).0 it.1))))

  pub none_is : (preferred : List ℕ) (index : ℕ) → NoneFromBy turns preferred left index → NoneFrom cells tables preferred left index
  none_is preferred index none k y behind there here may =
      let no = none k y behind there in
      let yes = is_may y here may in
      absurd (cc)

  pub last_is : (preferred : List ℕ) (x : ℕ) → IsLastBy turns preferred left x → IsLast cells tables preferred left x
  last_is preferred x last =
      let may = may_is x last.may_be in
      record {
        is_left = may.0;
        may_be = may.1;
        index = last.index;
        stands = last.stands;
        none_behind = none_is preferred (last.index + 1) last.none_behind;
      }

-- it is left
pub left_by : (turns : List (List SwitchTurn)) (left : List Bool) (preferred : List ℕ) (x : ℕ) → IsLastBy turns preferred left x → is_left left x ≡ true
left_by turns left preferred x last = (and_parts (is_left left x) (not (turns_in left (slice_index_or turns x []))) last.may_be).0
