-- Another one is taken.
use Rattle.std.proofs.Common.{◌≡◌, ◌∙◌, ℕ, List, Bool, true, false, Vec, Global, Option, None, Some, refl, ap, sym, subst}
use Rattle.std.specs.Prelude.{slice_set}
use Rattle.std.specs.List.{list_any}
use Rattle.fact_store.specs.View.{cells_of}
use Rattle.held_order.specs.declared.turns.SwitchTurn.{SwitchTurn}
use Rattle.held_order.specs.LastByTurns.{IsNextBy}
use Rattle.held_order.specs.ToldOrder.{AreTaken, all_left}
use Rattle.held_order.specs.Turns.{lists_of}
use Rattle.held_order.proofs.MayBeLast.{last_is, left_by, none_is}
use Rattle.held_order.proofs.ToldOrders.{as_many_left, lefts_fewer, some_left, taken_more}
use Rattle.held_order.proofs.told.told_order.Goals as goal

pub loop-next-smaller : goal.loop-next-smaller
loop-next-smaller c =
    let turns = lists_of c.in_ok-turns.turns.items in
    let left = c.loop-next.left.items in
    let next = subst (λ (o : Option ℕ). IsNextBy turns c.args.preferred.now left o) c.in-Some.is c.loop-next.invariant.next_is in
    lefts_fewer left c.in-Some.switch (left_by turns left c.args.preferred.now c.in-Some.switch next)

pub loop-next-preserved : goal.loop-next-preserved
loop-next-preserved c =
    let cells = cells_of c.args.network.now.facts in
    let held = c.args.network.now.held in
    let preferred = c.args.preferred.now in
    let turns = lists_of c.in_ok-turns.turns.items in
    let left = c.loop-next.left.items in
    let x = c.in-Some.switch in
    let after : List Bool = slice_set left x false in
    let next = subst (λ (o : Option ℕ). IsNextBy turns preferred left o) c.in-Some.is c.loop-next.invariant.next_is in
    let last = last_is cells held turns c.loop-next.invariant.turns_are left preferred x next in
    record {
      turns_are = c.loop-next.invariant.turns_are;
      taken_are = subst (λ (xs : List ℕ). AreTaken cells held preferred (all_left cells) xs after) (sym c.in_ok-push.ensures.items)
          (taken_more cells held preferred (all_left cells) c.loop-next.taken.items left x c.loop-next.invariant.taken_are last);
      next_is = subst (λ (l : List Bool). IsNextBy turns preferred l c.last_of-next-in-Some.result) c.deref-in-Some-2.ensures.value
          (subst (λ (ts : List (Vec SwitchTurn Global)). IsNextBy (lists_of ts) preferred c.deref-in-Some-2.result.now c.last_of-next-in-Some.result)
          c.deref-in-Some.ensures.value c.last_of-next-in-Some.ensures);
      long = as_many_left left x ∙ c.loop-next.invariant.long;
    }

-- some are left, of which none may be the last
pub returns-then-is_any : goal.returns-then-is_any
returns-then-is_any c =
    let cells = cells_of c.args.network.now.facts in
    let held = c.args.network.now.held in
    let turns = lists_of c.in_ok-turns.turns.items in
    let left = c.loop-next.left.items in
    let none = subst (λ (o : Option ℕ). IsNextBy turns c.args.preferred.now left o) (none_of c.loop-next.next c.in_default.not-Some) c.loop-next.invariant.next_is in (
      c.loop-next.taken.items,
      left,
      c.loop-next.invariant.taken_are,
      none_is cells held turns c.loop-next.invariant.turns_are left c.args.preferred.now 0 none,
      some_left left (ap (list_any (λ (flag : Bool). flag)) (sym c.deref-3.ensures.value) ∙ sym c.is_any.ensures ∙ c.if-is_any.true),
    )
  where
    none_of : (o : Option ℕ) → ((x : ℕ) → o ≡ Some x → ⊥) → o ≡ None
    none_of None differs = refl
    none_of (Some x) differs = absurd (differs x refl)
