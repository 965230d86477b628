-- By the network's switches, and the blocks of the LID's number.
use Rattle.std.proofs.Common.{◌≡◌, ◌∙◌, sym, subst}
use Rattle.std.specs.Prelude.{IfOk, map}
use Rattle.fact_store.specs.View.{cells_of}
use Rattle.subnet_view.specs.Reading.{switches}
use Rattle.packet_walks.specs.Network.{Seen}
use Rattle.held_tables.specs.Blocks.{AreBlocks}
use Rattle.packet_walks.specs.HopsByTables.{node_entry}
use Rattle.held_tables.specs.Tables.{entry_for}
use Rattle.packet_walks.proofs.Brought.{entries_are, if_ok}
use Rattle.packet_walks.proofs.network.Network.entries.Goals as goal

pub returns : goal.returns
returns c =
    let a = c.args in
    let inside : Seen = record { facts = c.self.inside.wired.now; held = c.self.inside.held.now } in
    let cells = cells_of inside.facts in
    let Found : Seen → Type 0 = λ s. IfOk c.entries.result (λ found. found.items ≡ map (entry_for s.held a.lid) (switches (cells_of s.facts))) in
    let Gathered : Seen → Type 0 = λ s. AreBlocks s.held a.blocks.now.number a.blocks.now.rows.items in
    let blocks = subst Gathered (sym c.self.view_is) c.requires.held in
    let rows = a.blocks.now.rows.items in
    subst Found c.self.view_is
    (if_ok
    (λ found. found.items ≡ map (node_entry c.deref-2.result.now a.lid) c.deref.result.now)
    (λ found. found.items ≡ map (entry_for inside.held a.lid) (switches cells))
    c.entries.result
    c.entries.ensures
    (λ found e.
    e ∙ (λ i. map (node_entry (c.deref-2.ensures.value i) a.lid) (c.deref.ensures.value i))
    ∙ entries_are cells inside.held a.lid a.blocks.now.number rows blocks c.requires.number c.self.inside.nodes.items (switches cells)
    c.self.invariant.nodes_are))
