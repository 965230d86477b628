use Rattle.std.proofs.Common.{◌≡◌, [], map, replicate}
use Rattle.lft_blocks.proofs.table_row.no_lids.Given as goal

-- the lists so far
abbrev pub invariant-loop : goal.invariant-loop
invariant-loop l = map (λ lids. lids.items) l.lists.items ≡ replicate l.counter []
