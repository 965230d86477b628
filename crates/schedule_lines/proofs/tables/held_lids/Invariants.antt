use Rattle.std.proofs.Common.{◌≡◌, take}
use Rattle.std.specs.List.{flat_map}
use Rattle.schedule_lines.specs.Tables.{held_by}
use Rattle.schedule_lines.proofs.tables.held_lids.Given as goal

-- the nodes so far
abbrev pub invariant-loop-number : goal.invariant-loop-number
invariant-loop-number l = l.held.items ≡ flat_map held_by (take l.number l.fabric.agents)
