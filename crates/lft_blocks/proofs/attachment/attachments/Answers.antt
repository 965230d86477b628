use Rattle.std.proofs.Common.{◌≡◌, ◌+◌, ◌*◌, List, ℕ, sym, subst, arith}
use Rattle.std.specs.Prelude.{Option}
use Rattle.fact_store.specs.View.{cells_of}
use Rattle.subnet_view.specs.Graph.{guids_of}
use Rattle.lft_blocks.specs.declared.attachment.Attachment.{Attachment}
use Rattle.lft_blocks.specs.Entries.{attachment_of_lid}
use Rattle.lft_blocks.specs.Attachment.{IsIndexed}
use Rattle.lft_blocks.proofs.IndexedAttachments.{AreIndexedBelow, indexed_more, indexed_all}
use Rattle.lft_blocks.proofs.attachment.attachments.Goals as goal

pub loop-lid-preserved : goal.loop-lid-preserved
loop-lid-preserved c =
    let guids = guids_of c.args.wired.now.graph.now in
    let attachments = attachment_of_lid (cells_of c.args.wired.now.wires.now) c.args.lids.now in
    let next = subst (λ (lid : ℕ). IsIndexed guids (attachments lid) c.attachment_of_lid.result) c.new.ensures c.attachment_of_lid.ensures in
    subst (AreIndexedBelow guids attachments (c.loop-lid.lid + 1)) (sym {A = List (Option Attachment)} c.in_ok-push.ensures.items)
    (indexed_more guids attachments c.loop-lid.lid c.loop-lid.attachments.items c.attachment_of_lid.result c.loop-lid.invariant next)

pub returns-clause-indexed : goal.returns-clause-indexed
returns-clause-indexed c =
    let cells = cells_of c.args.wired.now.wires.now in
    let lids = c.args.lids.now in
    let end : 64 * c.args.count ≡ c.loop-lid.lid = omega arith in
    let below = subst (λ (n : ℕ). AreIndexedBelow (guids_of c.args.wired.now.graph.now) (attachment_of_lid cells lids) n c.loop-lid.attachments.items) (sym end) c.loop-lid.invariant
    in
    indexed_all cells (guids_of c.args.wired.now.graph.now) lids c.args.count c.loop-lid.attachments.items c.requires.count below
