-- The tables of the graph are those of the view.
use Rattle.std.proofs.Common.{◌≡◌, List, ℕ, ap, sym, ◌∙◌, subst}
use Rattle.std.specs.Prelude.{Option}
use Rattle.fact_store.specs.View.{cells_of}
use Rattle.subnet_view.specs.Graph.{guids_of}
use Rattle.subnet_view.specs.Reading.{switches}
use Rattle.subnet_view.proofs.GraphSwitches.{graph_guids}
use Rattle.spread_routes.specs.Adapters.{adapters_of}
use Rattle.spread_routes.specs.Spread.{spread_by}
use Rattle.spread_routes.specs.SwitchOrder.{order_value_of}
use Rattle.lft_blocks.specs.declared.attachment.Attachment.{Attachment}
use Rattle.lft_blocks.specs.Entries.{attachment_of_lid, block_count}
use Rattle.lft_blocks.specs.Attachment.{AreIndexed}
use Rattle.lft_blocks.specs.LidNumbers.{number_of, numbered, numbering_of}
use Rattle.lft_blocks.specs.Plan.{tables_of}
use Rattle.lft_blocks.proofs.RowSteps.{same_attachments}
use Rattle.lft_blocks.proofs.plan.by_spread.Goals as goal

pub returns : goal.returns
returns c =
    let cells = cells_of c.args.wired.now.wires.now in
    let graph = c.args.wired.now.graph.now in
    let attachments = attachment_of_lid cells c.args.lids.now in
    let guids : guids_of graph ≡ switches cells = ap guids_of c.args.wired.now.is_graph ∙ graph_guids cells in
    let are = subst (λ (x : List (Option Attachment)). AreIndexed (guids_of graph) attachments x) (sym c.deref.ensures.value)
    c.in_ok-attachments.ensures.indexed in
    let counted = c.block_count-count.ensures.count ∙ ap block_count c.top.ensures in
    c.in_ok-spread_tables.ensures
    ∙ (λ i. tables_of (same_attachments (guids_of graph) attachments c.deref.result.now are i)
    (numbered
    (number_of (numbering_of c.args.lmc cells) (guids_of (c.args.wired.now.is_graph i)) (same_attachments (guids_of graph) attachments c.deref.result.now are i))
    (spread_by (c.args.wired.now.is_graph i) (adapters_of cells) (order_value_of c.args.order.now))).next (counted i) (guids i))
