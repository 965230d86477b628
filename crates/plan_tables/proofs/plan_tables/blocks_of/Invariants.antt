use Rattle.std.proofs.Common.{◌≡◌, ◌++◌, drop}
use Rattle.plan_tables.specs.PlanTables.{blocks_of}
use Rattle.plan_tables.proofs.plan_tables.blocks_of.Given as goal

-- the blocks so far, and those of the switches that are left, are all that there are
abbrev pub invariant-loop-switch : goal.invariant-loop-switch
invariant-loop-switch l = l.blocks.items ++ blocks_of l.switch (drop l.switch l.tables) ≡ blocks_of 0 l.tables
