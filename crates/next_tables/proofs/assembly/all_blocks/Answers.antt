-- A switch more.
use Rattle.std.proofs.Common.{ℕ, Vec, Global, map}
use Rattle.next_tables.proofs.Assembled.{all_more_at}
use Rattle.next_tables.proofs.assembly.all_blocks.Goals as goal

pub loop-index-preserved : goal.loop-index-preserved
loop-index-preserved c =
    let columns = map (λ (v : Vec ℕ Global). v.items) c.args.columns.now in
    all_more_at columns c.loop-index.index c.args.switches.now c.index-switches-index.result c.loop-index.blocks.items c.add_blocks.new.blocks.items
    c.block_count-count.result c.loop-index-test.true c.index-switches-index.is c.loop-index.invariant c.block_count-count.ensures.count
    c.in_ok-add_blocks.ensures
