use Rattle.std.proofs.Common.{◌≡◌}
use Rattle.acting_manager.specs.Acting.{value_of}
use Rattle.acting_manager.specs.Working.{one_overdue, repeated}
use Rattle.acting_manager.proofs.acting_manager.ActingManager.judge_late.Given as goal

-- what so many steps come to
abbrev pub invariant-loop : goal.invariant-loop
invariant-loop l = value_of l.self ≡ repeated l.counter one_overdue (value_of l.initial.self)
