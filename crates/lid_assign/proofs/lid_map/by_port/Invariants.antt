use Rattle.std.proofs.Common.{reverse}
use Rattle.lid_assign.specs.LidMap.{ByPort}
use Rattle.lid_assign.proofs.lid_map.by_port.Given as goal

-- the LIDs of those seen
abbrev pub invariant-loop-port : goal.invariant-loop-port
invariant-loop-port l = ByPort (reverse l.yielded) l.lids
