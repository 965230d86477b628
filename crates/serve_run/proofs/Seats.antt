-- A manager of either kind does what a manager of its kind does.
use Rattle.std.proofs.Common.{ℕ, Bool, List, Option, Result, Ok, Err, ap}
use Rattle.schedule_lines.specs.Outcome.{Outcome}
use Rattle.schedule_lines.specs.declared.run_fault.RunFault.{RunFault}
use Rattle.serve_run.specs.Lives.{Lives}
use Rattle.serve_run.specs.Seat.{Seat, seated}

pub lives_seated : {S W : Type 0} (written : W → Option (List ℕ)) (has_failed : W → Bool) (kind : S → Seat) (new : S)
    (result : Result (Unit {0}) RunFault) (sink sink' : W) (o : Outcome S) → Lives written has_failed new result sink sink' o
    → Lives written has_failed (kind new) result sink sink' (seated kind o)
lives_seated written has_failed kind new (Ok u) sink sink' o h = record { leaves = ap kind h.leaves; prints = h.prints }
lives_seated written has_failed kind new (Err fault) sink sink' o h = record { leaves = tt; prints = h.prints }
