-- The tables of the graph are those of the view.
use Rattle.std.proofs.Common.{◌≡◌, List, ℕ, ap, sym, ◌∙◌, subst}
use Rattle.std.specs.Prelude.{Option}
use Rattle.std.specs.List.Sorted.{IsStrictlyIncreasing}
use Rattle.fact_store.specs.View.{cells_of}
use Rattle.subnet_view.specs.SwitchEdges.{SwitchEdges}
use Rattle.subnet_view.specs.Graph.{guids_of}
use Rattle.subnet_view.specs.Reading.{switches}
use Rattle.updown_routes.specs.Updown.{updown}
use Rattle.subnet_view.proofs.GraphSwitches.{graph_guids, switches_rise}
use Rattle.lft_blocks.specs.declared.attachment.Attachment.{Attachment}
use Rattle.lft_blocks.specs.Entries.{attachment_of_lid, block_count}
use Rattle.lft_blocks.specs.Attachment.{AreIndexed}
use Rattle.lft_blocks.specs.Plan.{tables_of}
use Rattle.lft_blocks.proofs.RowSteps.{same_attachments}
use Rattle.lft_blocks.proofs.plan.by_ranks.Goals as goal

pub updown_tables-requires-clause-rising : goal.updown_tables-requires-clause-rising
updown_tables-requires-clause-rising c =
    subst (λ (g : List SwitchEdges). IsStrictlyIncreasing (guids_of g)) (sym (c.requires ∙ c.args.wired.now.is_graph)) (switches_rise c.args.wired.now.wires.now)

pub returns : goal.returns
returns c =
    let cells = cells_of c.args.wired.now.wires.now in
    let ranked = c.args.ranked.now in
    let is = c.requires ∙ c.args.wired.now.is_graph in
    let attachments = attachment_of_lid cells c.args.lids.now in
    let guids : guids_of ranked ≡ switches cells = ap guids_of is ∙ graph_guids cells in
    let own = sym (ap guids_of c.requires) in
    let are = subst (λ (x : List ℕ × List (Option Attachment)). AreIndexed x.0 attachments x.1) (λ i. (own i, sym c.deref.ensures.value i))
    c.in_ok-attachments.ensures.indexed in
    let counted = c.block_count-count.ensures.count ∙ ap block_count c.top.ensures in
    c.in_ok-tables.ensures
    ∙ (λ i. tables_of (same_attachments (guids_of ranked) attachments c.deref.result.now are i) (updown (is i)).next (counted i) (guids i))
