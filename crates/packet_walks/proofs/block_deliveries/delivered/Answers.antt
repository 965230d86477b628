-- What is seen before any switch, and after all.
use Rattle.std.proofs.Common.{◌≡◌, ◌∙◌, List, length, true, false, sym, ap}
use Rattle.packet_walks.specs.declared.block_deliveries.Exit.{Exit}
use Rattle.packet_walks.specs.declared.lid_set.LidSet.{LidSet}
use Rattle.packet_walks.specs.BlockDeliveries.{back_times, from_each, hops_at, target_at}
use Rattle.packet_walks.specs.LidSet.{has}
use Rattle.packet_walks.proofs.GoneBack.{none_seen, seen_delivered}
use Rattle.packet_walks.proofs.LidBits.{none_has}
use Rattle.packet_walks.proofs.block_deliveries.delivered.Goals as goal

pub returns-then-number-ge-NUMBERS : goal.returns-then-number-ge-NUMBERS
returns-then-number-ge-NUMBERS c = λ index is.
    let over : true ≡ false = sym is ∙ ap (λ (x : LidSet). has x index) c.none.ensures ∙ none_has index in absurd (cc)

pub loop-switch-init : goal.loop-switch-init
loop-switch-init c =
    let a = c.args in
    none_seen (length a.nodes.now) (hops_at a.nodes.now a.owners.now a.rows.now a.number) (target_at a.owners.now a.number) c.in_ok-walks.walks.arrived.items
    c.in_ok-walks.walks.exits.items c.in_ok-walks.ensures.arrived c.in_ok-walks.ensures.exits

pub returns : goal.returns
returns c = λ index is.
    let a = c.args in
    let walks = c.loop-switch.walks in
    let arrived = c.go_back.new.arrived.items in
    let back = c.go_back.ensures in
    seen_delivered (length a.nodes.now) (hops_at a.nodes.now a.owners.now a.rows.now a.number) (target_at a.owners.now a.number) walks.arrived.items arrived
    walks.exits.items back.0 index c.loop-switch.invariant (back.1 ∙ ap (λ (xs : List Exit). back_times back.0 xs walks.arrived.items) c.deref.ensures.value)
    (sym (ap (λ (x : LidSet). has x index) (c.from_each.ensures ∙ ap from_each c.deref-2.ensures.value)) ∙ is)
