use Rattle.std.proofs.Common.{sym, arith}
use Rattle.std.proofs.lemmas.List.FromFn.{map-range_with_len_more}
use Rattle.lft_blocks.specs.Attachment.{block_in}
use Rattle.lft_blocks.proofs.block.blocks.Goals as goal

pub loop-b-preserved : goal.loop-b-preserved
loop-b-preserved c =
    let a = c.args in
    let b = c.loop-b.b in
    rw c.in_ok-push.ensures.items
    (rw c.loop-b.invariant (rw c.block.ensures (sym (map-range_with_len_more (block_in a.attachments.now a.row.now a.own) 0 b b (omega arith)))))
