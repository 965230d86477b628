use Rattle.std.proofs.Common.{◌+◌, ◌*◌, rules}
use Rattle.std.proofs.lemmas.List.FromFn.{fill_by_all}
use Rattle.lft_blocks.specs.Attachment.{entry_in}
use Rattle.lft_blocks.proofs.block.block.Goals as goal

pub returns : goal.returns
returns c =
    let a = c.args in
    fill_by_all (λ i. entry_in a.attachments.now a.row.now a.own (64 * a.b + i)) c.loop-i.block 64 0 c.loop-i.invariant.0 (search rules)
