use Rattle.std.proofs.Common.{drop, length}
use Rattle.lid_assign.specs.Lids.{hand_out}
use Rattle.lid_assign.proofs.Giving.{IsGiving}
use Rattle.lid_assign.proofs.LidLaws.{ranges_of}
use Rattle.lid_assign.proofs.hand_out.hand_out.Given as goal

-- what is given so far, and what the rest will be given
abbrev pub invariant-loop-port : goal.invariant-loop-port
invariant-loop-port l =
    IsGiving (length l.fn.taken) l.lmc (hand_out (length l.fn.taken) l.lmc (ranges_of l.lmc l.keepers) l.keepers) l.given.items (drop l.port-index l.keepers)
    l.taken l.next
