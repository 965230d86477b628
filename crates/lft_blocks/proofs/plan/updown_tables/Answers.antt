use Rattle.std.proofs.Common.{refl, sym, ◌∙◌, length, map}
use Rattle.std.specs.List.{range_with_len}
use Rattle.subnet_view.specs.Graph.{guids_of}
use Rattle.lft_blocks.specs.Attachment.{table_in}
use Rattle.lft_blocks.specs.TableRow.{attachment_by_index}
use Rattle.lft_blocks.proofs.AttachmentTables.{tables_same}
use Rattle.lft_blocks.proofs.RowSteps.{indexed_itself}
use Rattle.lft_blocks.proofs.plan.updown_tables.Goals as goal

pub returns : goal.returns
returns c =
    let graph = c.args.graph.now in
    let guids = guids_of graph in
    let attachments = c.args.attachments.now in
    let count = c.args.count in
    c.in_ok-tables.ensures
    ∙ (λ i. map (table_in attachments (c.in_ok-routes.ensures i) (c.switches.ensures i) count) (range_with_len 0 (length (c.switches.ensures i))))
    ∙ sym (tables_same graph guids (attachment_by_index guids attachments) attachments count refl c.requires.rising
    (indexed_itself guids attachments c.requires.within))
