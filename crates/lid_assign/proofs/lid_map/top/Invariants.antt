use Rattle.std.proofs.Common.{◌≡◌, reverse}
use Rattle.lid_assign.specs.Lids.{top_among}
use Rattle.lid_assign.specs.LidMap.{AreBelow}
use Rattle.lid_assign.proofs.lid_map.top.Given as goal

-- the greatest number of those seen; those to come are below the bound
abbrev pub invariant-loop-port : goal.invariant-loop-port
invariant-loop-port l = (l.top ≡ top_among l.lmc (reverse l.yielded)) × AreBelow 0xC000 l.lmc l.port-iterator.iter.iter.rest.now
