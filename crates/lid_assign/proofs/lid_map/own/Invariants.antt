use Rattle.std.proofs.Common.{◌≡◌, ◌-◌, vec_len}
use Rattle.lid_assign.specs.LidMap.{AreOwnersMore}
use Rattle.lid_assign.specs.LidMarks.{from_on}
use Rattle.lid_assign.proofs.lid_map.own.Given as goal

-- the numbers so far have the owner
abbrev pub invariant-loop-n : goal.invariant-loop-n
invariant-loop-n l = AreOwnersMore l.given.0 (from_on (l.n - l.first) l.first) l.fn.owners.items l.owners.items × (vec_len l.owners ≡ vec_len l.fn.owners)
