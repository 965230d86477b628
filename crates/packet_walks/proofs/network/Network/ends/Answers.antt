-- By the network's switches and sources, and the blocks of the LID's number.
use Rattle.std.proofs.Common.{◌≡◌, ◌∙◌, length, sym, subst, ap}
use Rattle.std.proofs.lemmas.List.{length-map}
use Rattle.std.specs.Prelude.{IfOk, map}
use Rattle.fact_store.specs.View.{cells_of}
use Rattle.packet_walks.specs.EndsBySender.{end_from}
use Rattle.held_tables.specs.declared.audited_switch.AuditedSwitch.{AuditedSwitch}
use Rattle.packet_walks.specs.declared.next_hop.NextHop.{NextHop}
use Rattle.subnet_view.specs.Reading.{switches}
use Rattle.held_tables.specs.Switches.{all_begin, first_switch, node_of}
use Rattle.packet_walks.specs.Network.{Seen}
use Rattle.held_tables.specs.Blocks.{AreBlocks}
use Rattle.held_tables.specs.Tables.{holders}
use Rattle.packet_walks.specs.HopsByTables.{AreBrought, next_hop_of}
use Rattle.packet_walks.proofs.Brought.{brought_is, if_ok}
use Rattle.packet_walks.proofs.network.Network.ends.Goals as goal

pub new-requires-clause-firsts : goal.new-requires-clause-firsts
new-requires-clause-firsts c = c.firsts.ensures ∙ ap (map first_switch) (sym c.sources.ensures)

pub new-requires-clause-begin : goal.new-requires-clause-begin
new-requires-clause-begin c =
    let cells = cells_of c.self.inside.wired.now in
    let nodes = c.self.inside.nodes.items in
    let steps = c.in_ok-steps.steps.items in
    let step : AuditedSwitch → NextHop = next_hop_of c.deref-4.result.now c.deref-5.result.now c.args.lid in
    let long : length steps ≡ length nodes = ap length c.in_ok-steps.ensures ∙ length-map c.deref-3.result.now step ∙ ap length c.deref-3.ensures.value in
    let all : length nodes ≡ length (switches cells) =
    ap length c.self.invariant.nodes_are ∙ length-map (switches cells) (node_of cells c.self.inside.held.now) in
    let count : length (switches cells) ≡ length c.ends-walks.result.items = sym all ∙ sym (c.ends-walks.ensures.as_many ∙ long) in
    c.all_begin.ensures ∙ (λ i. all_begin (count i) (sym c.firsts.ensures i))

pub returns : goal.returns
returns c =
    let rows = c.args.blocks.now.rows.items in
    let number = c.args.blocks.now.number in
    let inside : Seen = record { facts = c.self.inside.wired.now; held = c.self.inside.held.now } in
    let cells = cells_of inside.facts in
    let Found : Seen → Type 0 = λ s. IfOk c.new.result (λ ended. AreBrought (cells_of s.facts) s.held c.args.lid ended.ends × (ended.port ≡ c.args.port)) in
    let Gathered : Seen → Type 0 = λ s. AreBlocks s.held number rows in
    let blocks = subst Gathered (sym c.self.view_is) c.requires.held in
    let owners = c.in_ok-owners.owners.items in
    let own = c.in_ok-owners.ensures ∙ ap (λ ls. holders ls c.args.lid) (c.deref.ensures.value ∙ c.self.invariant.lines_are) in
    let walks = c.ends-walks.result.items in
    let steps = c.in_ok-steps.ensures ∙ (λ i. map (next_hop_of (c.deref-4.ensures.value i) (c.deref-5.ensures.value i) c.args.lid) (c.deref-3.ensures.value i)) in
    subst Found c.self.view_is
    (if_ok
    (λ ended. (ended.port ≡ c.args.port) × (ended.ends ≡ map (end_from owners walks) c.sources.result.now))
    (λ ended. AreBrought cells inside.held c.args.lid ended.ends × (ended.port ≡ c.args.port))
    c.new.result
    c.new.ensures
    (λ ended e. (
      brought_is cells inside.held c.args.lid number rows blocks c.requires.number c.self.inside.nodes.items c.sources.result.now owners
          c.in_ok-steps.steps.items walks ended.ends c.self.invariant.nodes_are c.sources.ensures own steps c.ends-walks.ensures
          e.1,
      e.0,
    )))
