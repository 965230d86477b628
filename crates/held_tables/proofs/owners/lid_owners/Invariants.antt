use Rattle.std.proofs.Common.{take}
use Rattle.held_tables.specs.Owners.{AreOwners}
use Rattle.held_tables.proofs.owners.lid_owners.Given as goal

-- the lines so far
abbrev pub invariant-loop-line : goal.invariant-loop-line
invariant-loop-line l = AreOwners (take l.line-index l.lines) l.owners.items
