use Rattle.std.proofs.Common.{◌≡◌, replicate}
use Rattle.lft_blocks.proofs.spread_table.no_ways.Given as goal

-- the rows so far
abbrev pub invariant-loop : goal.invariant-loop
invariant-loop l = l.rows.items ≡ replicate l.counter (replicate l.len 255)
