use Rattle.std.proofs.Common.{◌≡◌, ◌++◌}
use Rattle.lid_assign.specs.LidMap.{marked_from}
use Rattle.lid_assign.proofs.lid_map.rising.Given as goal

-- what was found, and what the rest has, are all that there is
abbrev pub invariant-loop-lid : goal.invariant-loop-lid
invariant-loop-lid l = l.lids.items ++ marked_from l.marks l.lid ≡ marked_from l.marks 0
