-- A channel more.
use Rattle.std.proofs.Common.{◌≡◌, ◌∙◌, ℕ, List, ◌∷◌, [], ◌++◌, Vec, Global, sym, subst, arith, get_or}
use Rattle.std.specs.Prelude.{length, take}
use Rattle.std.proofs.lemmas.List.{length-map, take_more}
use Rattle.fact_store.specs.View.{cells_of}
use Rattle.held_order.specs.declared.turns.SwitchTurn.{SwitchTurn}
use Rattle.held_order.specs.Turns.{IsWithTurns, lists_of}
use Rattle.held_order.proofs.Noted.{one_more}
use Rattle.held_order.proofs.turns.add_turns.Goals as goal

pub loop-next-preserved : goal.loop-next-preserved
loop-next-preserved c =
    let cells = cells_of c.args.network.now.facts in
    let channel = c.args.channel in
    let following = c.args.following.now in
    let i = c.loop-next.next-index in
    let old = c.args.turns.now in
    let mid = c.loop-next.turns in
    let new = c.add_turn.new.turns in
    let items : Vec SwitchTurn Global → List SwitchTurn = λ (x : Vec SwitchTurn Global). x.items in
    let next : ℕ = get_or following i 0 in
    let one = c.in_ok-add_turn.ensures in
    record {
      with = subst (λ (fs : List ℕ). IsWithTurns cells channel fs (lists_of old) (lists_of new)) (sym (take_more following i 0 (omega (arith, c.loop-next-test.true))))
          (one_more cells channel next (take i following) (lists_of old) (lists_of mid) (lists_of new) c.loop-next.invariant.with one);
      long = sym (length-map new items) ∙ one.as_many ∙ length-map mid items ∙ c.loop-next.invariant.long;
    }
