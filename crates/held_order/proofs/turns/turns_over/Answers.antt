-- A channel more, and all of them.
use Rattle.std.proofs.Common.{◌≡◌, ◌∙◌, ◌+◌, ◌++◌, ℕ, List, [], Vec, Global, ap, arith, length, subst, sym}
use Rattle.std.specs.Prelude.{drop, slice_index_or, take}
use Rattle.std.proofs.Math.Seq.{take-append_seam}
use Rattle.std.proofs.lemmas.List.{length-map}
use Rattle.fact_store.specs.View.{cells_of}
use Rattle.held_order.specs.declared.turns.SwitchTurn.{SwitchTurn}
use Rattle.held_order.specs.Turns.{IsWithTurns, lists_of}
use Rattle.held_order.proofs.Noted.{SoFar, all_turns, more_so_far}
use Rattle.held_order.proofs.turns.turns_over.Goals as goal

pub loop-channel-preserved : goal.loop-channel-preserved
loop-channel-preserved c =
    let cells = cells_of c.args.network.now.facts in
    let waits = c.args.waits.now in
    let channel = c.loop-channel.channel in
    let was = c.loop-channel.turns in
    let new = c.add_turns.new.turns in
    let rest = drop (length new) was.items in
    let items : Vec SwitchTurn Global → List SwitchTurn = λ row. row.items in
    let one = subst (λ (ts : List (Vec SwitchTurn Global)). IsWithTurns cells channel (slice_index_or waits channel []) (lists_of ts) (lists_of new))
    c.deref_mut.ensures.value
    (subst (λ (fs : List ℕ). IsWithTurns cells channel fs (lists_of c.deref_mut.result.now) (lists_of new)) c.at.ensures c.in_ok-add_turns.ensures) in
    let same : length new ≡ length was.items = sym (length-map new items) ∙ one.as_many ∙ length-map was.items items in
    let long : was.len ≡ length new = omega (arith, same, was.ok.0) in
    let kept : take was.len (new ++ rest) ≡ new = ap (λ n. take n (new ++ rest)) long ∙ take-append_seam new rest in
    subst (λ (ts : List (Vec SwitchTurn Global)). SoFar cells waits (channel + 1) (lists_of ts)) (sym kept)
    (more_so_far cells waits channel (lists_of was.items) (lists_of new) c.loop-channel.invariant one)

pub returns : goal.returns
returns c =
    all_turns (cells_of c.args.network.now.facts) c.args.network.now.held c.args.waits.now c.requires c.loop-channel.channel (lists_of c.loop-channel.turns.items)
    c.loop-channel.invariant (omega (arith, c.loop-channel-test.false, c.loop-channel.auto.channel-end, c.len-channel-end.ensures.count))
