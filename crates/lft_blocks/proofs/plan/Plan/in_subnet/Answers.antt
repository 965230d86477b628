use Rattle.std.proofs.Common.{sym, subst, ◌∙◌}
use Rattle.fact_store.specs.View.{cells_of}
use Rattle.subnet_view.specs.Reading.{switches}
use Rattle.lid_assign.specs.Lids.{top_of}
use Rattle.lft_blocks.specs.Rule.{rule_of, value_of}
use Rattle.lft_blocks.specs.Entries.{attachment_of_lid, block_count}
use Rattle.lft_blocks.specs.Arrival.{EveryPacketArrivesBy}
use Rattle.lft_blocks.specs.Plan.{PlanValue, lid_routing, tables_by, tables_of}
use Rattle.lft_blocks.proofs.AttachmentTables.{switches_rise, are_tables}
use Rattle.lft_blocks.proofs.Reached.{every_packet_arrives}
use Rattle.lft_blocks.proofs.Rooms.{has_room}
use Rattle.lft_blocks.proofs.plan.Plan.in_subnet.Goals as goal

pub invariant_of-result : goal.invariant_of-result
invariant_of-result c =
    let facts = c.wired.result.wires.now in
    let lids = c.in_ok-lids.lids in
    let cells = cells_of facts in
    let next = (lid_routing (value_of c.args.rule.now) c.args.lmc cells lids).next in
    let count = block_count (top_of lids) in
    let guids = c.in_ok-switches.switches.items in
    let theirs = c.in_ok-switches.ensures.items ∙ c.switches.ensures ∙ (λ i. switches (cells_of (sym c.wired.ensures i))) in
    are_tables (attachment_of_lid cells lids) next count guids c.in_ok-tables.tables.items (switches_rise facts guids theirs)
    (c.in_ok-tables.ensures ∙ (λ i. tables_of (attachment_of_lid cells lids) next count (sym theirs i)))

pub returns-clause-plan : goal.returns-clause-plan
returns-clause-plan c =
    let rule = c.args.rule.now in
    let lids = c.in_ok-lids.ensures.lids in
    let tables = c.in_ok-tables.ensures
    ∙ (λ j. tables_by (lid_routing (value_of rule) c.args.lmc (cells_of (c.wired.ensures j)) (lids j)) (cells_of (c.wired.ensures j)) (lids j)) in
    λ i. record { given = lids i; tables = tables i }

pub returns-clause-arrives : goal.returns-clause-arrives
returns-clause-arrives c =
    let facts = c.args.planned.now.subnet in
    let rule = rule_of c.args.rule.now (cells_of facts) in
    subst (λ (plan : PlanValue). EveryPacketArrivesBy rule (cells_of facts) plan) (sym (returns-clause-plan c))
    (every_packet_arrives (value_of c.args.rule.now) c.args.lmc facts (has_room c.args.lmc (cells_of facts) c.in_ok-lids.ensures.judged))
