-- A process that brought its subnet up.
use Rattle.std.proofs.Common.{◌≡◌, ℕ, true, List, [], ◌∷◌, ◌++◌, sym, ap, ◌∙◌, subst}
use Rattle.std.specs.Prelude.{All, Some, None, map, slice_get}
use Rattle.std.proofs.lemmas.List.Elements.{All-append, All-head, All-tail}
use Rattle.fact_store.specs.View.{cells_of}
use Rattle.lft_blocks.specs.Plan.{PlanValue}
use Rattle.schedule_file.specs.declared.command.Ask.TheVariants as ask
use Rattle.sm_manager.specs.Manager.{outstanding}
use Rattle.sm_manager.specs.PlanFaults.{writing_fault}
use Rattle.sm_manager.specs.Writing.{is_written}
use Rattle.sm_manager.specs.declared.outgoing.Outgoing.{Outgoing}
use Rattle.manager_laws.specs.Managing as managing
use Rattle.manager_laws.specs.Managing.{CanBe, Managing, ManagerEvent, after_manager_event, after_manager_events}
use Rattle.manager_laws.specs.Pings.{EachPingArrives}
use Rattle.manager_laws.specs.Sets.{OwnSets}
use Rattle.manager_laws.specs.WritingPings.{AreNoSweeps, BringsUp}
use Rattle.manager_laws.specs.Written.{AllKeep, at_end, at_writing, own_sets, plan_at}
use Rattle.serve_lines.specs.declared.serve_line.ServeLine.{ServeLine}
use Rattle.serve_lines.specs.declared.serve_line.ServeLine.TheVariants.{Ask, Floor, Packet, Timeout, GiveUp, Show, Managers, Empty, Wrong}
use Rattle.program_laws.specs.Told.{Who}
use Rattle.program_laws.specs.Told.{given_by}
use Rattle.program_laws.specs.Live.{LiveEvent, Around, Tell, Hear, Send, after_live, events_by, events_of, events_of_line, given_heard, takes_of}
use Rattle.program_laws.specs.LivePings.{AllKeepLive, BringsUpLive, IsNoSweepLine, IsNoWriteLine, KeepsLive, LivePingsArrive, TellsNoSweep, all_live, live_after_write, live_at_end, live_at_writing, sweep_line}
use Rattle.program_laws.proofs.serve.Managed.{all_can, takes_can}
use Rattle.manager_laws.proofs.Arrive.{pings_arrive_once_written}
use Rattle.manager_laws.proofs.Rests.{new_managers_sweep_first}
use Rattle.manager_laws.proofs.RunParts.{alone_behind, events_behind, keep_behind}

-- no writing of one's own ---------------------------------------------------------------------------------

module _ (plan : PlanValue) (own : OwnSets) where
  takes_keep : (out : List Outgoing) (w : Managing) → AllKeep plan own (takes_of out) w
  takes_keep [] w = tt
  takes_keep (o ∷ later) w = (tt, takes_keep later (after_manager_event w managing.Take))

  timeouts_keep : (transactions : List ℕ) (w : Managing) → AllKeep plan own (map managing.TimeOut transactions) w
  timeouts_keep [] w = tt
  timeouts_keep (transaction ∷ later) w = (tt, timeouts_keep later (after_manager_event w (managing.TimeOut transaction)))

  told_keep : (w : Managing) (line : ServeLine) → IsNoWriteLine line → AllKeep plan own (events_of_line w.manager line) w
  told_keep w (Ask ask.Write) none = absurd none
  told_keep w (Packet bytes from) none = tt
  told_keep w GiveUp none = timeouts_keep (outstanding w.manager) w
  told_keep w (Show what) none = tt
  told_keep w Managers none = tt
  told_keep w Empty none = tt
  told_keep w Wrong none = tt
  told_keep w line none = (tt, tt)

  event_keep : (w : Managing) (event : LiveEvent) → KeepsLive plan own w event → AllKeep plan own (events_by w event) w
  event_keep w (Around event) keep = (keep, tt)
  event_keep w (Tell line) keep =
      keep_behind plan own (events_of_line w.manager line) (takes_of (given_by w.manager line)) w (told_keep w line keep)
      (takes_keep (given_by w.manager line) (after_manager_events (events_of_line w.manager line) w))
  event_keep w (Hear which) keep =
      (tt, takes_keep (given_heard w (slice_get w.scene.handed which)) (after_manager_event w (managing.Hear which)))
  event_keep w (Send which) keep = (tt, tt)

  all_keep : (w : Managing) (events : List LiveEvent) → AllKeepLive plan own events w → AllKeep plan own (events_of events w) w
  all_keep w [] keep = tt
  all_keep w (event ∷ events) keep =
      keep_behind plan own (events_by w event) (events_of events (after_live w event)) w (event_keep w event keep.0)
      (all_keep (after_live w event) events keep.1)

-- no sweep of one's own -----------------------------------------------------------------------------------

takes_alone : (out : List Outgoing) (w : Managing) → AreNoSweeps (takes_of out) w
takes_alone [] w = tt
takes_alone (o ∷ later) w = (tt, takes_alone later (after_manager_event w managing.Take))

timeouts_alone : (transactions : List ℕ) (w : Managing) → AreNoSweeps (map managing.TimeOut transactions) w
timeouts_alone [] w = tt
timeouts_alone (transaction ∷ later) w = (tt, timeouts_alone later (after_manager_event w (managing.TimeOut transaction)))

told_alone : (w : Managing) (line : ServeLine) → IsNoSweepLine line → AreNoSweeps (events_of_line w.manager line) w
told_alone w (Ask ask.Sweep) none = absurd none
told_alone w (Ask ask.Write) none = (tt, tt)
told_alone w (Ask ask.Handover) none = (tt, tt)
told_alone w (Ask ask.Yield) none = (tt, tt)
told_alone w (Ask ask.Rediscover) none = (tt, tt)
told_alone w (Ask (ask.Poll lid)) none = (tt, tt)
told_alone w (Floor floor) none = absurd none
told_alone w (Timeout transaction) none = (tt, tt)
told_alone w GiveUp none = timeouts_alone (outstanding w.manager) w
told_alone w line none = tt

event_alone : (w : Managing) (event : LiveEvent) → TellsNoSweep event → AreNoSweeps (events_by w event) w
event_alone w (Around event) none = (tt, tt)
event_alone w (Tell line) none =
    alone_behind (events_of_line w.manager line) (takes_of (given_by w.manager line)) w (told_alone w line none)
    (takes_alone (given_by w.manager line) (after_manager_events (events_of_line w.manager line) w))
event_alone w (Hear which) none =
    (tt, takes_alone (given_heard w (slice_get w.scene.handed which)) (after_manager_event w (managing.Hear which)))
event_alone w (Send which) none = (tt, tt)

all_alone : (w : Managing) (events : List LiveEvent) → All TellsNoSweep events → AreNoSweeps (events_of events w) w
all_alone w [] none = tt
all_alone w (event ∷ events) none =
    alone_behind (events_by w event) (events_of events (after_live w event)) w
    (event_alone w event (All-head TellsNoSweep event events none))
    (all_alone (after_live w event) events (All-tail TellsNoSweep event events none))

-- the run -------------------------------------------------------------------------------------------------

module _ (who : Who) (w : Managing) (before between after : List LiveEvent) (b : BringsUpLive who w before between after)
  where
    abbrev at_sweep : Managing
    at_sweep = all_live before w

    abbrev swept : Managing
    swept = after_live at_sweep sweep_line

    abbrev writes : Managing
    writes = live_at_writing w before between

    abbrev began : Managing
    began = live_after_write w before between

    abbrev first : List ManagerEvent
    first = events_of before w

    abbrev second : List ManagerEvent
    second = takes_of (given_by at_sweep.manager (Ask ask.Sweep)) ++ events_of between swept

    abbrev third : List ManagerEvent
    third = takes_of (given_by writes.manager (Ask ask.Write)) ++ events_of after began

    at_writing_so : at_writing w first second ≡ writes
    at_writing_so =
        events_behind (takes_of (given_by at_sweep.manager (Ask ask.Sweep))) (events_of between swept)
        (after_manager_event at_sweep managing.Begin)

    at_end_so : at_end w first second third ≡ live_at_end w before between after
    at_end_so =
        ap (λ x. after_manager_events third (after_manager_event x managing.Write)) at_writing_so
        ∙ events_behind (takes_of (given_by writes.manager (Ask ask.Write))) (events_of after began)
        (after_manager_event writes managing.Write)

    keeps : AllKeep (plan_at writes) (own_sets w writes) third (after_manager_event writes managing.Write)
    keeps =
        keep_behind (plan_at writes) (own_sets w writes) (takes_of (given_by writes.manager (Ask ask.Write)))
        (events_of after began) (after_manager_event writes managing.Write)
        (takes_keep (plan_at writes) (own_sets w writes) (given_by writes.manager (Ask ask.Write))
        (after_manager_event writes managing.Write))
        (all_keep (plan_at writes) (own_sets w writes) began after b.keep)

    brings_up : BringsUp w first second third
    brings_up =
        record {
          planned = record {
            writes = record {
              run = record {
                starts = b.starts;
                before_can = all_can w.seat w before b.before_can;
                between_can = All-append (CanBe w.seat) (takes_of (given_by at_sweep.manager (Ask ask.Sweep)))
                    (events_of between swept)
                    (takes_can w.seat (given_by at_sweep.manager (Ask ask.Sweep))) (all_can w.seat swept between b.between_can);
                after_can = All-append (CanBe w.seat) (takes_of (given_by writes.manager (Ask ask.Write)))
                    (events_of after began)
                    (takes_can w.seat (given_by writes.manager (Ask ask.Write))) (all_can w.seat began after b.after_can);
                sweeps_first = new_managers_sweep_first who.port_guid who.port who.priority who.conduct who.planning w first b.new;
                sweep_begins = b.sweep_begins;
                writing_begins = subst (λ (x : Managing). writing_fault x.manager ≡ None) (sym at_writing_so) b.writing_begins;
                keep = subst (λ (x : Managing). AllKeep (plan_at x) (own_sets w x) third (after_manager_event x managing.Write))
                    (sym at_writing_so) keeps;
              };
              knew_nothing = b.knew_nothing;
              alone = alone_behind (takes_of (given_by at_sweep.manager (Ask ask.Sweep))) (events_of between swept)
                  (after_manager_event at_sweep managing.Begin)
                  (takes_alone (given_by at_sweep.manager (Ask ask.Sweep)) (after_manager_event at_sweep managing.Begin))
                  (all_alone swept between b.alone);
            };
            sweep = b.sweep;
            is_last = subst (λ (x : Managing). x.manager.sweep ≡ Some b.sweep) (sym at_writing_so) b.is_last;
            whole = b.whole;
          };
          written = subst (λ (x : Managing). is_written x.manager ≡ true) (sym at_end_so) b.written;
        }

    pings : EachPingArrives writes.manager.planning.rule (cells_of writes.manager.store) (plan_at writes)
        (live_at_end w before between after).scene.fabric w.seat
    pings =
        subst (λ (x : Managing). EachPingArrives writes.manager.planning.rule (cells_of writes.manager.store) (plan_at writes)
        x.scene.fabric w.seat) at_end_so
        (subst (λ (x : Managing). EachPingArrives x.manager.planning.rule (cells_of x.manager.store) (plan_at x)
        (at_end w first second third).scene.fabric w.seat) at_writing_so
        (pings_arrive_once_written w first second third brings_up))

pub live_pings_arrive : LivePingsArrive
live_pings_arrive = pings
