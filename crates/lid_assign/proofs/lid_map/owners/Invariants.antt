use Rattle.std.proofs.Common.{◌≡◌, reverse, vec_len, map}
use Rattle.lid_assign.specs.LidMap.{AreOwners, AreBelow}
use Rattle.lid_assign.proofs.lid_map.owners.Given as goal

-- the owners of the numbers of those seen; those to come are below the bound too
abbrev pub invariant-loop-one : goal.invariant-loop-one
invariant-loop-one l =
    (vec_len l.owners ≡ l.fn.end) × AreBelow l.fn.end l.lmc l.one-iterator.iter.rest.now
    × AreOwners (record { lmc = l.lmc; ports = reverse (map (λ b. b.now) l.yielded) }) l.owners.items
