use Rattle.std.proofs.Common.{sym, ◌∙◌}
use Rattle.fact_store.specs.View.{cells_of}
use Rattle.subnet_view.specs.Reading.{switches}
use Rattle.lid_assign.specs.Lids.{top_of}
use Rattle.lft_blocks.specs.Rule.{routing_by, up_and_down}
use Rattle.lft_blocks.specs.Entries.{attachment_of_lid, block_count}
use Rattle.lft_blocks.specs.Plan.{tables_by, tables_of}
use Rattle.lft_blocks.proofs.AttachmentTables.{switches_rise, are_tables}
use Rattle.lft_blocks.proofs.plan.Plan.with_ranks.Goals as goal

pub invariant_of-plan : goal.invariant_of-plan
invariant_of-plan c =
    let facts = c.wired.result.wires.now in
    let lids = c.in_ok-given.given in
    let cells = cells_of facts in
    let next = (routing_by up_and_down cells).next in
    let count = block_count (top_of lids) in
    let guids = c.in_ok-switches.switches.items in
    let theirs = c.in_ok-switches.ensures.items ∙ c.switches.ensures ∙ (λ i. switches (cells_of (sym c.wired.ensures i))) in
    are_tables (attachment_of_lid cells lids) next count guids c.in_ok-tables.tables.items (switches_rise facts guids theirs)
    (c.in_ok-tables.ensures ∙ (λ i. tables_of (attachment_of_lid cells lids) next count (sym theirs i)))

pub returns-clause-plan : goal.returns-clause-plan
returns-clause-plan c =
    let lids = c.in_ok-given.ensures.lids in
    let tables = c.in_ok-tables.ensures
    ∙ (λ j. tables_by (routing_by up_and_down (cells_of (c.wired.ensures j))) (cells_of (c.wired.ensures j)) (lids j)) in
    λ i. record { given = lids i; tables = tables i }
