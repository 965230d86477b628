use Rattle.std.proofs.Common.{sym, arith}
use Rattle.std.proofs.lemmas.List.FromFn.{map-range_with_len_more}
use Rattle.lft_blocks.specs.Attachment.{table_in}
use Rattle.lft_blocks.proofs.updown_table.tables.Goals as goal

pub loop-own-preserved : goal.loop-own-preserved
loop-own-preserved c =
    let a = c.args in
    let own = c.loop-own.own in
    rw c.in_ok-push.ensures.items (rw c.loop-own.invariant (rw c.in_ok-table_at.ensures
    (sym (map-range_with_len_more (table_in a.attachments.now a.routes.now a.guids.now a.count) 0 own own (omega arith)))))
