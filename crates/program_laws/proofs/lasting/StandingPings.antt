-- While its plan stands, what a manager has written serves.
use Rattle.std.proofs.Common.{◌≡◌, ◌∙◌, inl, inr, true, false, List, [], ◌∷◌, sym}
use Rattle.sweep.specs.Sweep.{Sweep}
use Rattle.sm_policy.specs.declared.policy.Policy.{Policy}
use Rattle.manager_laws.specs.Complete.{IsWhole}
use Rattle.program_laws.specs.Deciding.{Deciding, DecidingEvent, after_deciding_events}
use Rattle.program_laws.specs.ManagedPings.{BringsUpManaged, managed_at_end, managed_at_writing}
use Rattle.program_laws.specs.ManagedWritings.{IsNew, MayWrite, WritesOneSweep, managing_of}
use Rattle.program_laws.specs.StandingPings.{StandingPingsArrive, StandsManaged}
use Rattle.program_laws.specs.SweepTime.{lines_of}
use Rattle.program_laws.specs.Wakes.{HasDecided}
use Rattle.program_laws.proofs.lasting.Standing.{standing_plans_are_written}
use Rattle.program_laws.proofs.managed.OneSweeps.{writes_what_one_sweep_saw}
use Rattle.program_laws.proofs.managed.Pinged.{managed_pings_arrive}
use Rattle.program_laws.proofs.wakes.AtSeats.{events_acting}
use Rattle.program_laws.proofs.wakes.NextSweep.{has_more}

abbrev pub new_decided : (d : Deciding) → IsNew d → HasDecided d.acting
new_decided d new =
    record {
      port_guid = new.port_guid;
      port = new.port;
      priority = new.priority;
      conduct = new.conduct;
      planning = new.planning;
      timing = new.timing;
      limits = new.limits;
      newest = new.newest;
      lines = [];
      are = sym new.acting;
    }

events_decided : (events : List DecidingEvent) (d : Deciding) → HasDecided d.acting → HasDecided (after_deciding_events events d).acting
events_decided events d h = has_more d.acting (lines_of events d) (after_deciding_events events d).acting (sym (events_acting events d)) h

-- what a strict manager writes has every answer
pub strict_whole : (p : Policy) (x : Sweep) → p.timing.is_strict ≡ true → MayWrite p x → IsWhole x
strict_whole p x strict (inl all) = all
strict_whole p x strict (inr gaps) = let wrong : true ≡ false = sym strict ∙ gaps.0 in absurd (cc)

module _ (d : Deciding) (before : List DecidingEvent) (begins : DecidingEvent) (after : List DecidingEvent)
    (s : StandsManaged d before begins after) where
  abbrev now : Deciding
  now = managed_at_writing d before begins

  abbrev end : Deciding
  end = managed_at_end d before begins after

  decided : HasDecided end.acting
  decided =
      events_decided after now
      (events_decided (begins ∷ []) (after_deciding_events before d) (events_decided before d (new_decided d s.new)))

  one : WritesOneSweep (managing_of d) now
  one = writes_what_one_sweep_saw d before begins s.new s.before_can s.begins_can s.writes

  brings_up : BringsUpManaged d before begins after
  brings_up =
      record {
        new = s.new;
        starts = s.starts;
        before_can = s.before_can;
        begins_can = s.begins_can;
        after_can = s.after_can;
        writes = s.writes;
        sweep = one.sweep;
        is_last = one.is_last;
        whole = strict_whole now.acting.policy one.sweep s.strict one.may;
        keep = s.keep;
        written = (standing_plans_are_written end.acting decided s.stays_on s.stands s.quiet).written;
      }

pub standing_pings_arrive : StandingPingsArrive
standing_pings_arrive d before begins after s = managed_pings_arrive d before begins after (brings_up d before begins after s)
