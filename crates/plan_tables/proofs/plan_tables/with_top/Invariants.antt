use Rattle.std.proofs.Common.{◌≡◌, map, take}
use Rattle.plan_tables.specs.PlanTables.{with_top}
use Rattle.plan_tables.proofs.plan_tables.with_top.Given as goal

-- the switches so far
abbrev pub invariant-loop-table : goal.invariant-loop-table
invariant-loop-table l = l.switches.items ≡ map (with_top l.top) (take l.table-index l.tables)
