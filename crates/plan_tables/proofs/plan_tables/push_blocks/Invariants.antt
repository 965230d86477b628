use Rattle.std.proofs.Common.{◌≡◌, ◌++◌, drop}
use Rattle.plan_tables.specs.PlanTables.{blocks_from}
use Rattle.plan_tables.proofs.plan_tables.push_blocks.Given as goal

-- the blocks so far, and those that are left, are all that there are
abbrev pub invariant-loop-number : goal.invariant-loop-number
invariant-loop-number l =
    l.blocks.items ++ blocks_from l.fn.switch l.number (drop l.number l.table) ≡ l.fn.blocks.items ++ blocks_from l.fn.switch 0 l.table
