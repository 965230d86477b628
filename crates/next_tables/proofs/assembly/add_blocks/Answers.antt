-- A block more.
use Rattle.std.proofs.Common.{ℕ, Vec, Global, map}
use Rattle.next_tables.proofs.Assembled.{some_more_at}
use Rattle.next_tables.proofs.assembly.add_blocks.Goals as goal

pub loop-number-preserved : goal.loop-number-preserved
loop-number-preserved c =
    let columns = map (λ (v : Vec ℕ Global). v.items) c.args.columns.now in
    some_more_at columns c.args.index c.loop-number.number c.args.blocks.now.items c.loop-number.blocks.items c.push.new.self.items c.block.result
    c.loop-number.invariant c.block.ensures c.in_ok-push.ensures.items
