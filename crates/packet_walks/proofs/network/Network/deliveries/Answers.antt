-- By the network's switches and who holds each LID, and the blocks.
use Rattle.std.proofs.Common.{ℕ, List, sym, subst}
use Rattle.fact_store.specs.View.{cells_of}
use Rattle.held_tables.specs.declared.audited_switch.AuditedSwitch.{AuditedSwitch}
use Rattle.held_tables.specs.declared.owners.Owner.{Owner}
use Rattle.packet_walks.specs.BlockDeliveries.{AreDelivered}
use Rattle.packet_walks.specs.Deliveries.{AreDeliveries}
use Rattle.packet_walks.specs.Network.{Seen}
use Rattle.held_tables.specs.declared.held.HeldLid.{HeldLid}
use Rattle.held_tables.specs.Blocks.{AreBlocks}
use Rattle.held_tables.specs.Owners.{AreOwners}
use Rattle.packet_walks.proofs.ToOwners.{are_deliveries}
use Rattle.packet_walks.proofs.network.Network.deliveries.Goals as goal

pub returns : goal.returns
returns c =
    let inside : Seen = record { facts = c.self.inside.wired.now; held = c.self.inside.held.now } in
    let cells = cells_of inside.facts in
    let number = c.args.blocks.now.number in
    let rows = c.args.blocks.now.rows.items in
    let nodes = c.self.inside.nodes.items in
    let owners = c.self.inside.owners.items in
    let lids = c.in_ok-lids.lids in
    let Found : Seen → Type 0 = λ s. AreDeliveries (cells_of s.facts) s.held (record { number = number; lids = lids }) in
    let Gathered : Seen → Type 0 = λ s. AreBlocks s.held number rows in
    let blocks = subst Gathered (sym c.self.view_is) c.requires in
    let by_nodes = subst (λ (ns : List AuditedSwitch). AreDelivered ns c.deref-2.result.now c.deref-3.result.now number lids) c.deref.ensures.value
    c.in_ok-lids.ensures in
    let by_owners = subst (λ (os : List Owner). AreDelivered nodes os c.deref-3.result.now number lids) c.deref-2.ensures.value by_nodes in
    let by_rows = subst (λ (rs : List (List ℕ)). AreDelivered nodes owners rs number lids) c.deref-3.ensures.value by_owners in
    let owners_are = subst (λ (ls : List HeldLid). AreOwners ls owners) c.self.invariant.lines_are c.self.invariant.owners_are in
    subst Found c.self.view_is
    (are_deliveries cells inside.held number rows nodes owners lids blocks c.self.invariant.nodes_are owners_are by_rows)
