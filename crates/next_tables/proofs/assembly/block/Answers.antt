-- All entries.
use Rattle.std.proofs.Common.{ℕ, ◌+◌, ◌*◌, Vec, Global, map, arith}
use Rattle.std.proofs.lemmas.List.FromFn.{fill_by_all}
use Rattle.next_tables.specs.Assembly.{entry_in}
use Rattle.next_tables.proofs.assembly.block.Goals as goal

pub returns : goal.returns
returns c =
    let columns = map (λ (v : Vec ℕ Global). v.items) c.args.columns.now in
    fill_by_all (λ i. entry_in columns c.args.index (64 * c.args.number + i)) c.loop-i.block 64 0 c.loop-i.invariant.0
    (λ k h. c.loop-i.invariant.1 k (omega (arith, h, c.loop-i-test.false)))
