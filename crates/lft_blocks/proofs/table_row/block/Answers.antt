use Rattle.std.proofs.Common.{◌+◌, ◌*◌, arith, get_or}
use Rattle.std.proofs.lemmas.List.FromFn.{fill_by_all}
use Rattle.lft_blocks.proofs.table_row.block.Goals as goal

pub returns : goal.returns
returns c =
    fill_by_all (λ i. get_or c.args.entries.now (64 * c.args.b + i) 0) c.loop-i.block 64 0 c.loop-i.invariant.0
    (λ k h. c.loop-i.invariant.1 k (omega (arith, h, c.loop-i-test.false)))
