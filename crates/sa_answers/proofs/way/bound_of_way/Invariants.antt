-- What is left to follow decides.
use Rattle.std.proofs.Common.{◌≡◌, ◌-◌}
use Rattle.sa_answers.specs.Told.{value_of}
use Rattle.sa_answers.specs.Way.{bound_of_way, followed}
use Rattle.sa_answers.proofs.way.bound_of_way.Given as goal

abbrev pub invariant-loop : goal.invariant-loop
invariant-loop l =
    bound_of_way (value_of l.told) l.lid l.owner l.source
    ≡ followed (value_of l.told) l.lid l.owner (l.count - l.counter) l.at l.by_wire l.least
