-- A manager that decides by itself begins to write: that of `some_manager_decides`, once it has swept.
use Rattle.std.proofs.Common.{◌≡◌, ◌∙◌, ℕ, ◌≤◌, Bool, true, false, List, [], ◌∷◌, refl, sym, ap, subst, arith}
use Rattle.std.proofs.lemmas.Bool.{and_parts}
use Rattle.std.specs.Prelude.{Option, Some, None, slice_get, if◌then◌else◌}
use Rattle.std.specs.List.{list_all}
use Rattle.fabric_model.specs.Cables.{is_same_port}
use Rattle.node_agents.specs.Agent.{fresh_agent}
use Rattle.node_agents.specs.Answers.{after_answer, get_of, set_of}
use Rattle.node_agents.specs.PortInfo.{changed_port}
use Rattle.smp_bytes.specs.Field.{with_bytes}
use Rattle.fabric_sim.specs.Changes.{after_inject, cabled_at, after_lose, after_repeat}
use Rattle.fabric_sim.specs.Delivery.{after_deliver}
use Rattle.fabric_sim.specs.PacketOutcome.{outcome_of}
use Rattle.sm_state.specs.declared.conduct.Conduct.TheVariants.{Live}
use Rattle.request_window.specs.declared.limits.Limits.{Limits}
use Rattle.acting_manager.specs.Acting.{Acting, caught_up}
use Rattle.acting_manager.specs.Working.{Told, all_overdue, is_idle, is_writing, stopped}
use Rattle.manager_laws.specs.Scene.{Handed}
use Rattle.manager_laws.proofs.Computed.{in_pairs}
use Rattle.program_laws.specs.Deciding.{Around, Deciding, DecidingEvent, Hear, Send, Tell, after_deciding_event, after_deciding_events, hearing_at, telling}
use Rattle.program_laws.specs.SweepTime.{line_by, line_heard, lines_of}
use Rattle.program_laws.specs.Wakes.{HasDecided, IsNoLeave, Line, NoneLeaves, after_line, before_deciding}
use Rattle.program_laws.specs.WritingTime.{SomeManagerBeginsToWrite}
use Rattle.program_laws.proofs.managed.Example as example
use Rattle.program_laws.proofs.wakes.AtSeats.{events_acting}
use Rattle.program_laws.proofs.wakes.Deciding.{caught_about, sent_about}
use Rattle.program_laws.proofs.lasting.Answered.{none_both}

-- what it is told ----------------------------------------------------------------------------------------

-- whether the event tells the manager nothing but a packet
abbrev is_quiet : DecidingEvent → Bool
is_quiet (Tell time what) = false
is_quiet event = true

heard_stays : (time : ℕ) (d : Deciding) (o : Option Handed) → NoneLeaves (line_heard time d o)
heard_stays time d None = tt
heard_stays time d (Some h) = by (is_same_port h.at d.seat)
  where
    by : (b : Bool) → NoneLeaves (if b then (time, Told.Packet h.packet.bytes (Some h.packet.slid)) ∷ [] else [])
    by true = (tt, tt)
    by false = tt

event_stays : (d : Deciding) (event : DecidingEvent) → is_quiet event ≡ true → NoneLeaves (line_by d event)
event_stays d (Around event) e = tt
event_stays d (Tell time what) e = absurd (cc)
event_stays d (Hear time which) e = heard_stays time d (slice_get d.scene.handed which)
event_stays d (Send which) e = tt

none_leave : (events : List DecidingEvent) (d : Deciding) → list_all is_quiet events ≡ true → NoneLeaves (lines_of events d)
none_leave [] d e = tt
none_leave (event ∷ events) d e =
    let parts = and_parts (is_quiet event) (list_all is_quiet events) e in
    none_both (line_by d event) (lines_of events (after_deciding_event d event)) (event_stays d event parts.0)
    (none_leave events (after_deciding_event d event) parts.1)

-- the line of the packet; that of the time, if there is none
abbrev told_of : Option Handed → Line
told_of None = (2, Told.Time)
told_of (Some h) = (2, Told.Packet h.packet.bytes (Some h.packet.slid))

module _ (d : Deciding) where
  line_is : (o : Option Handed) → example.is_there d o ≡ true → after_line (told_of o) d.acting ≡ (hearing_at 2 o d).acting
  line_is None e = absurd (cc)
  line_is (Some h) e =
      sym (ap (λ (b : Bool). (if b then telling 2 (Told.Packet h.packet.bytes (Some h.packet.slid)) d else d).acting) e)

  before_is : (o : Option Handed) → example.is_there d o ≡ true
      → before_deciding (told_of o) d.acting ≡ caught_up (all_overdue (stopped (caught_up (example.told_with d o))))
  before_is None e = absurd (cc)
  before_is (Some h) e = refl

told_stays : (o : Option Handed) → IsNoLeave (told_of o).1
told_stays None = tt
told_stays (Some h) = tt

-- it begins to write -------------------------------------------------------------------------------------

abbrev handed : Option Handed
handed = slice_get example.swept.scene.handed 11

abbrev before : List DecidingEvent
before = Tell 1 Told.Time ∷ example.between

abbrev decided : HasDecided example.swept.acting
decided =
    record {
      port_guid = 17;
      port = 1;
      priority = 0;
      conduct = Live 1;
      planning = in_pairs;
      timing = example.timing;
      limits = example.limits;
      newest = 0;
      lines = lines_of before example.beginning;
      are = sym (events_acting before example.beginning)
          ∙ ap (λ (d : Deciding). (after_deciding_events example.between d).acting) example.begun;
    }

record Begun : Type 0 where
  busy : is_idle example.writing.acting.window ≡ false
  same : example.writing.acting.window.limits ≡ example.limits
  stays : example.writing.acting.is_leaving ≡ false

begun : Begun
unfolding cabled_at fresh_agent after_inject after_lose after_repeat after_deliver outcome_of after_answer get_of set_of changed_port with_bytes
begun = record { busy = refl; same = refl; stays = refl }

pub some_manager_begins_to_write : SomeManagerBeginsToWrite
some_manager_begins_to_write =
    record {
      first = example.swept.acting;
      line = told_of handed;
      acting = example.writing.acting;
      writing = record {
        decided = decided;
        generations = omega arith;
        none_left = (tt, none_leave example.between (after_deciding_event example.beginning (Tell 1 Told.Time)) refl);
        stays = told_stays handed;
        leads = line_is example.swept handed example.last_there ∙ ap (λ (d : Deciding). d.acting) example.writes;
        decides = ap (λ (a : Acting). is_idle a.window) (before_is example.swept handed example.last_there) ∙ example.judges.idle;
        writes = ap is_writing (sent_about (caught_up example.to_write) ∙ caught_about example.to_write);
        has_requests = begun.busy;
        goes_on = tt;
        tries = subst (λ (l : Limits). 1 ≤ l.tries) (sym begun.same) (omega arith);
        outstanding = subst (λ (l : Limits). 1 ≤ l.outstanding) (sym begun.same) (omega arith);
        stays_on = begun.stays;
        none_leaves = tt;
      };
    }
