use Rattle.fact_store.specs.View.{cells_of}
use Rattle.subnet_view.specs.Graph.{guids_of}
use Rattle.lft_blocks.specs.Entries.{attachment_of_lid}
use Rattle.lft_blocks.proofs.IndexedAttachments.{AreIndexedBelow}
use Rattle.lft_blocks.proofs.attachment.attachments.Given as goal

-- each LID so far has its attachment
abbrev pub invariant-loop-lid : goal.invariant-loop-lid
invariant-loop-lid l = AreIndexedBelow (guids_of l.wired.graph.now) (attachment_of_lid (cells_of l.wired.wires.now) l.lids) l.lid l.attachments.items
