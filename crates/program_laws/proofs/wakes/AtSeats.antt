-- A sweep of a manager that decides by itself, at its seat, is over in time.
use Rattle.std.proofs.Common.{◌≡◌, ◌∙◌, ℕ, ◌+◌, ◌-◌, ◌*◌, ◌≤◌, Bool, true, false, cond, List, [], ◌∷◌, ◌++◌, refl, sym, ap, subst, arith}
use Rattle.std.proofs.lemmas.Nat.{mul-le}
use Rattle.std.specs.Prelude.{Option, Some, None, slice_get}
use Rattle.fabric_model.specs.Cables.{is_same_port}
use Rattle.fabric_sim.specs.Simulation.{fabric_of}
use Rattle.sm_manager.specs.Manager.{Manager}
use Rattle.sm_manager.specs.declared.outgoing.Outgoing.{Outgoing}
use Rattle.acting_manager.specs.Acting.{Acting, new_acting}
use Rattle.acting_manager.specs.Working.{Told}
use Rattle.manager_laws.specs.Scene.{Handed}
use Rattle.manager_laws.specs.SweepEnds.{most_requests}
use Rattle.program_laws.specs.Deciding.{Around, CanDecide, Deciding, DecidingEvent, Hear, Send, Tell, after_deciding_event, after_deciding_events}
use Rattle.program_laws.specs.Deciding.{deciding_at, hearing_at, sending_from, telling}
use Rattle.program_laws.specs.SweepTime.{SweepsEndInTime, line_by, line_heard, lines_of, most_turns}
use Rattle.program_laws.specs.Wakes.{GetsOn, HasDecided, Line, after_lines, chances_in, controls_in, longest_turn, next_in, sets_to_come, turns_until}
use Rattle.program_laws.proofs.managed.Managed.{new_ones_stand}
use Rattle.program_laws.proofs.managed.Moves.{both}
use Rattle.program_laws.proofs.wakes.Asking.{managed_sweeps_ask_few}
use Rattle.program_laws.proofs.wakes.Sweeping.{managed_sweeps_end}

-- lines of events ---------------------------------------------------------------------------------------

pub lines_both : (first later : List Line) (a : Acting) → after_lines (first ++ later) a ≡ after_lines later (after_lines first a)
lines_both [] later a = refl
lines_both (line ∷ first) later a = lines_both first later _

pub events_both : (first later : List DecidingEvent) (d : Deciding) → after_deciding_events (first ++ later) d
    ≡ after_deciding_events later (after_deciding_events first d)
events_both [] later d = refl
events_both (event ∷ first) later d = events_both first later (after_deciding_event d event)

heard_acting : (time : ℕ) (d : Deciding) (o : Option Handed) → (hearing_at time o d).acting ≡ after_lines (line_heard time d o) d.acting
heard_acting time d None = refl
heard_acting time d (Some h) = by (is_same_port h.at d.seat)
  where
    what : Told
    what = Told.Packet h.packet.bytes (Some h.packet.slid)

    by : (b : Bool) → (cond b (telling time what d) d).acting ≡ after_lines (cond b ((time, what) ∷ []) []) d.acting
    by true = refl
    by false = refl

sent_acting : (d : Deciding) (o : Option Outgoing) → (sending_from o d).acting ≡ d.acting
sent_acting d None = refl
sent_acting d (Some out) = refl

pub event_acting : (d : Deciding) (event : DecidingEvent) → (after_deciding_event d event).acting ≡ after_lines (line_by d event) d.acting
event_acting d (Around event) = refl
event_acting d (Tell time what) = refl
event_acting d (Hear time which) = heard_acting time d (slice_get d.scene.handed which)
event_acting d (Send which) = sent_acting d (slice_get d.printed which)

pub events_acting : (events : List DecidingEvent) (d : Deciding) → (after_deciding_events events d).acting ≡ after_lines (lines_of events d) d.acting
events_acting [] d = refl
events_acting (event ∷ events) d =
    events_acting events (after_deciding_event d event)
    ∙ ap (after_lines (lines_of events (after_deciding_event d event))) (event_acting d event)
    ∙ sym (lines_both (line_by d event) (lines_of events (after_deciding_event d event)) d.acting)

-- a sweep at a seat ---------------------------------------------------------------------------------------

more_turns : (x p s n m c k : ℕ) → n ≤ k → x + p * (s + (n - m) + c) + c ≤ x + p * (s + k + c) + c
more_turns x p s n m c k few =
    let more = mul-le p (s + (n - m) + c) p (s + k + c) (omega arith) (omega (arith, few)) in omega (arith, more)

pub longer : (t n k d end : ℕ) → n ≤ k → end ≤ t + (n + 1) * d → end ≤ t + (k + 1) * d
longer t n k d end few h = let more = mul-le (n + 1) d (k + 1) d (omega (arith, few)) (omega arith) in omega (arith, h, more)

pub sweeps_end_in_time : SweepsEndInTime
sweeps_end_in_time w before during d s =
    record {
      few = let few = gets.few in let more = turns in omega (arith, few, more);
      soon = λ late prompt.
          longer d.acting.time (turns_until lines d.acting) most (longest_turn late d.acting.window.limits) (after_deciding_events during d).acting.time turns
          (subst (λ (a : Acting). a.time ≤ d.acting.time + (turns_until lines d.acting + 1) * longest_turn late d.acting.window.limits)
          (sym (events_acting during d)) (gets.soon late prompt));
    }
  where
    lines : List Line
    lines = lines_of during d

    most : ℕ
    most = most_turns (fabric_of w.scene.fabric) (controls_in lines) d.acting

    first : Deciding
    first = deciding_at w s.timing s.limits s.newest

    decided : HasDecided d.acting
    decided =
        record {
          port_guid = s.port_guid;
          port = s.port;
          priority = s.priority;
          conduct = s.conduct;
          planning = s.planning;
          timing = s.timing;
          limits = s.limits;
          newest = s.newest;
          lines = lines_of before first;
          are = ap (λ (m : Manager). after_lines (lines_of before first) (new_acting m s.timing s.limits s.newest)) (sym s.new)
              ∙ sym (events_acting before first) ∙ ap (λ (x : Deciding). x.acting) s.leads;
        }

    gets : GetsOn lines d.acting
    gets = managed_sweeps_end d.acting lines decided s.tries s.outstanding s.stays_on s.none_leaves s.sweeps s.goes_on

    asked : next_in (after_lines lines d.acting).manager.sweep ≤ 1 + most_requests (fabric_of w.scene.fabric)
    asked =
        subst (λ (a : Acting). next_in a.manager.sweep ≤ 1 + most_requests (fabric_of w.scene.fabric))
        (ap (λ (x : Deciding). x.acting) (events_both before during first ∙ ap (after_deciding_events during) s.leads) ∙ events_acting during d)
        (managed_sweeps_ask_few s.port_guid s.port s.priority s.conduct s.planning w first (before ++ during) s.starts s.new
        (new_ones_stand w s.timing s.limits s.newest s.generations) (both (CanDecide w.seat) before during s.before_can s.during_can))

    turns : turns_until lines d.acting ≤ most
    turns =
        more_turns (chances_in d.acting.window) d.acting.window.limits.tries (sets_to_come d.acting.manager)
        (next_in (after_lines lines d.acting).manager.sweep) (next_in d.acting.manager.sweep) (controls_in lines)
        (1 + most_requests (fabric_of w.scene.fabric)) asked
