-- By the network's switches, and the blocks of the LID's number.
use Rattle.std.proofs.Common.{◌≡◌, ◌∙◌, ap, sym, subst}
use Rattle.std.specs.Prelude.{IfOk, map}
use Rattle.fact_store.specs.View.{cells_of}
use Rattle.subnet_view.specs.Reading.{switches}
use Rattle.packet_walks.specs.Network.{Seen}
use Rattle.held_tables.specs.Blocks.{AreBlocks}
use Rattle.held_tables.specs.Tables.{holders}
use Rattle.packet_walks.specs.HopsByTables.{switch_step, switch_step_of}
use Rattle.packet_walks.proofs.Brought.{switch_steps_are, if_ok}
use Rattle.packet_walks.proofs.network.Network.switch_steps.Goals as goal

pub returns : goal.returns
returns c =
    let a = c.args in
    let inside : Seen = record { facts = c.self.inside.wired.now; held = c.self.inside.held.now } in
    let cells = cells_of inside.facts in
    let Found : Seen → Type 0 =
    λ s. IfOk c.switch_steps.result (λ found. found.items ≡ map (switch_step (cells_of s.facts) s.held a.lid) (switches (cells_of s.facts))) in
    let Gathered : Seen → Type 0 = λ s. AreBlocks s.held a.blocks.now.number a.blocks.now.rows.items in
    let blocks = subst Gathered (sym c.self.view_is) c.requires.held in
    let rows = a.blocks.now.rows.items in
    let nodes = c.self.inside.nodes.items in
    subst Found c.self.view_is
    (if_ok
    (λ found. found.items ≡ map (switch_step_of c.deref-4.result.now c.deref-5.result.now a.lid) c.deref-3.result.now)
    (λ found. found.items ≡ map (switch_step cells inside.held a.lid) (switches cells))
    c.switch_steps.result
    c.switch_steps.ensures
    (λ found e.
    e ∙ (λ i. map (switch_step_of (c.deref-4.ensures.value i) (c.deref-5.ensures.value i) a.lid) (c.deref-3.ensures.value i))
    ∙ ap (λ o. map (switch_step_of o rows a.lid) nodes)
    (c.in_ok-owners.ensures ∙ ap (λ ls. holders ls a.lid) (c.deref.ensures.value ∙ c.self.invariant.lines_are))
    ∙ switch_steps_are cells inside.held a.lid a.blocks.now.number rows blocks c.requires.number nodes (switches cells) c.self.invariant.nodes_are))
