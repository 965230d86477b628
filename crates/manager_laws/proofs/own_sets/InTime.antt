-- If nothing times out, the Sets of a plan that is written were answered.
use Rattle.std.proofs.Common.{◌≡◌, Bool, true, false, List, sym, ap, ◌∙◌}
use Rattle.std.proofs.lemmas.Bool.{and_parts, not-true}
use Rattle.std.specs.Prelude.{Option, Some, None, not, ◌&&◌}
use Rattle.std.specs.List.{list_all, list_any}
use Rattle.sm_manager.specs.Manager.{Manager, Writing}
use Rattle.sm_manager.specs.ManagerRequests.{none_counts}
use Rattle.sm_manager.specs.Writing.{is_written, is_written_by}
use Rattle.manager_laws.specs.Managing.{Managing, ManagerEvent, TimeOut}
use Rattle.manager_laws.specs.OwnSetsTaken.{AreCountedOver, GivesUpNone, GiveUpNone, IsAnswered}
use Rattle.manager_laws.specs.WritingPings.{BringsUp}
use Rattle.manager_laws.specs.Written.{at_end, at_first_steps}
use Rattle.manager_laws.proofs.RunParts.{along_tested}

abbrev pub is_in_time : ManagerEvent → Bool
is_in_time (TimeOut transaction) = false
is_in_time event = true

gives_up_none : (w : Managing) (event : ManagerEvent) → is_in_time event ≡ true → GivesUpNone w event
gives_up_none w (TimeOut transaction) e = absurd (cc)
gives_up_none w event e = tt

give_up_none : (events : List ManagerEvent) (w : Managing) → list_all is_in_time events ≡ true → GiveUpNone events w
give_up_none = along_tested GivesUpNone is_in_time gives_up_none

-- once a plan is written, nothing of it that counts is left
written_over : (m : Manager) → is_written m ≡ true → AreCountedOver m
written_over m written =
    record {
      none_waits = by_writing m.writing written;
      none_to_come = λ v e. not-true _ (parts v (ap (is_written_by m.pending) (sym e) ∙ written)).0;
    }
  where
    parts : (v : Writing) → is_written_by m.pending (Some v) ≡ true → (not (list_any (λ p. p.counts) v.later) ≡ true) × (none_counts m.pending ≡ true)
    parts v h =
        and_parts (not (list_any (λ p. p.counts) v.later)) (none_counts m.pending)
        (and_parts (not v.has_failed) (not (list_any (λ p. p.counts) v.later) && none_counts m.pending) h).1

    by_writing : (o : Option Writing) → is_written_by m.pending o ≡ true → none_counts m.pending ≡ true
    by_writing None h = absurd (cc)
    by_writing (Some v) h = (parts v h).1

pub answered_in_time : (w : Managing) (before between after : List ManagerEvent) → BringsUp w before between after → list_all is_in_time after ≡ true
    → IsAnswered w before between after
answered_in_time w before between after b in_time =
    record {
      planned = b.planned;
      answered = record {
        none_given_up = give_up_none after (at_first_steps w before between) in_time;
        over = written_over (at_end w before between after).manager b.written;
      };
    }
