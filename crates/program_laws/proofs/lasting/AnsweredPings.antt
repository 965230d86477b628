-- At a seat, a writing of which nothing was given up is written; so pings arrive.
use Rattle.std.proofs.Common.{◌≡◌, ◌∙◌, ℕ, ◌<◌, ◌^◌, Bool, true, false, not, List, [], ◌∷◌, ◌++◌, refl, sym, ap, subst}
use Rattle.std.proofs.lemmas.Bool.{and_parts, both_ways, cond_both}
use Rattle.std.proofs.lemmas.List.{append_assoc, append-nil}
use Rattle.std.specs.List.{AllByRecursion}
use Rattle.std.specs.Prelude.{Contains, Option, Some, None, slice_get}
use Rattle.fabric_model.specs.Cables.{is_same_port}
use Rattle.lft_blocks.specs.Plan.{PlanValue}
use Rattle.sm_manager.specs.CallLists.{Call}
use Rattle.sm_manager.specs.Manager.{Manager}
use Rattle.sm_manager.specs.Writing.{is_written}
use Rattle.sm_manager.specs.declared.outgoing.Outgoing.{Outgoing}
use Rattle.acting_manager.specs.Acting.{Acting}
use Rattle.acting_manager.specs.Working.{Told, is_writing}
use Rattle.manager_laws.specs.Managing as managing
use Rattle.manager_laws.specs.Managing.{Managing, ManagerEvent, after_manager_event, after_manager_events, hearing, sending}
use Rattle.manager_laws.specs.Scene.{Handed, Scene}
use Rattle.manager_laws.specs.Sets.{OwnSets}
use Rattle.manager_laws.specs.Written.{AllKeep, Keeps, at_end, own_sets, plan_at}
use Rattle.manager_laws.proofs.own_sets.Answered.{answers_are_done}
use Rattle.program_laws.specs.AnsweredPings.{WritesManaged}
use Rattle.program_laws.specs.AnsweredWritings.{AllAnswerWell, AnswersWell, KeepsWriting}
use Rattle.program_laws.specs.Deciding.{Around, CanDecide, Deciding, DecidingEvent, Hear, IsNoPacket, Send, StandsFor, Tell}
use Rattle.program_laws.specs.Deciding.{after_deciding_event, after_deciding_events}
use Rattle.program_laws.specs.ManagedEnds.{StaysAbout}
use Rattle.program_laws.specs.ManagedPings.{AllKeepManaged, managed_at_end, managed_at_writing}
use Rattle.program_laws.specs.ManagedWritings.{managing_of}
use Rattle.program_laws.specs.SweepTime.{line_by, line_heard, lines_of}
use Rattle.program_laws.specs.Wakes.{AtEachLine, HasDecided, Line, NoneLeaves, after_line, after_lines}
use Rattle.program_laws.specs.WholeSweeps.{NothingGivenUp}
use Rattle.program_laws.proofs.lasting.AnsweredWritings.{answered_writings_are_written}
use Rattle.program_laws.proofs.lasting.Counted.{still_written}
use Rattle.program_laws.proofs.lasting.EventLines.{lines_of_both, some_line}
use Rattle.program_laws.proofs.managed.Keeping.{Kept, run_kept}
use Rattle.program_laws.proofs.managed.Moves.{first_of, later_of}
use Rattle.program_laws.proofs.managed.Pinged.{ends as stands_in_end, its_sweep, third, w, x}
use Rattle.program_laws.proofs.managed.Staged.{seat_stays, seats_stay}
use Rattle.program_laws.proofs.wakes.AtSeats.{event_acting, events_acting, events_both}
use Rattle.program_laws.proofs.wakes.NextSweep.{about_last, none_first, none_later}
use Rattle.program_laws.proofs.wakes.Lines.{so_both}

-- a part of a run -----------------------------------------------------------------------------------------------------------

keep_first : (plan : PlanValue) (own : OwnSets) (some rest : List DecidingEvent) (d : Deciding) → AllKeepManaged plan own (some ++ rest) d
    → AllKeepManaged plan own some d
keep_first plan own [] rest d keep = tt
keep_first plan own (event ∷ some) rest d keep = (keep.0, keep_first plan own some rest (after_deciding_event d event) keep.1)

pub first_part : (d : Deciding) (before : List DecidingEvent) (begins : DecidingEvent) (some rest : List DecidingEvent)
    → WritesManaged d before begins (some ++ rest) → WritesManaged d before begins some
first_part d before begins some rest b =
    record {
      new = b.new;
      starts = b.starts;
      before_can = b.before_can;
      begins_can = b.begins_can;
      after_can = first_of (CanDecide d.seat) some rest b.after_can;
      writes = b.writes;
      keep = keep_first _ _ some rest (managed_at_writing d before begins) b.keep;
    }

-- answers ---------------------------------------------------------------------------------------------------------------------

module _ (d : Deciding) (before : List DecidingEvent) (begins : DecidingEvent) where
  abbrev now : Deciding
  now = managed_at_writing d before begins

  -- an answer that is heard in the end
  heard_well : (after : List DecidingEvent) → WritesManaged d before begins after → (which : ℕ) (h : Handed)
      → slice_get (after_deciding_events after now).scene.handed which ≡ Some h
      → is_same_port h.at (after_deciding_events after now).seat ≡ true
      → AnswersWell (Told.Packet h.packet.bytes (Some h.packet.slid)) (after_deciding_events after now).acting.manager
  heard_well after b which h there here p waits is counted answered no_sweep =
      let s = x d before begins after b in
      let end = stands_in_end d before begins after b in
      answers_are_done (w d before begins after b) s.before s.between (third d before begins after b) (its_sweep d before begins after b) which h
      (ap (λ (scene : Scene). slice_get scene.handed which) end.scene ∙ there) (ap (is_same_port h.at) end.seat ∙ here) p
      (subst (λ (m : Manager). Contains m.pending p) (sym end.manager) waits) is counted answered no_sweep

  -- so it is of all that is told
  module _ (some : List DecidingEvent) (b : WritesManaged d before begins some) where
    abbrev at : Deciding
    at = after_deciding_events some now

    told_well : (time : ℕ) (what : Told) → IsNoPacket what → AllAnswerWell ((time, what) ∷ []) at.acting
    told_well time Told.Time can = (tt, tt)
    told_well time (Told.Packet bytes from) can = absurd can
    told_well time Told.Look can = (tt, tt)
    told_well time Told.Leave can = (tt, tt)

    handed_well : (time which : ℕ) (o : Option Handed) → slice_get at.scene.handed which ≡ o → AllAnswerWell (line_heard time at o) at.acting
    handed_well time which None there = tt
    handed_well time which (Some h) there =
        cond_both (is_same_port h.at at.seat) _ [] (λ (ls : List Line). AllAnswerWell ls at.acting)
        (λ here. (heard_well some b which h there here, tt)) (λ _. tt)

    event_well : (event : DecidingEvent) → CanDecide d.seat event → AllAnswerWell (line_by at event) at.acting
    event_well (Around event) can = tt
    event_well (Tell time what) can = told_well time what can
    event_well (Hear time which) can = handed_well time which (slice_get at.scene.handed which) refl
    event_well (Send which) can = tt

  all_well : (some rest : List DecidingEvent) → WritesManaged d before begins (some ++ rest)
      → AllAnswerWell (lines_of rest (after_deciding_events some now)) (after_deciding_events some now).acting
  all_well some [] b = tt
  all_well some (event ∷ rest) b =
      let at = after_deciding_events some now in
      let next = after_deciding_event at event in
      let later = all_well (some ++ event ∷ []) rest
      (subst (WritesManaged d before begins) (sym (append_assoc some (event ∷ []) rest)) b) in
      so_both (λ line a. AnswersWell line.1 a.manager) (line_by at event) (lines_of rest next) at.acting
      (event_well some (first_part d before begins some (event ∷ rest) b) event (later_of (CanDecide d.seat) some (event ∷ rest) b.after_can).0)
      (subst (AllAnswerWell (lines_of rest next)) (event_acting at event)
      (subst (λ (y : Deciding). AllAnswerWell (lines_of rest y) y.acting) (events_both some (event ∷ []) now) later))

  -- the end of the writing ------------------------------------------------------------------------------------------------------

  module _ (during : List DecidingEvent) (ends : DecidingEvent) (b : WritesManaged d before begins (during ++ ends ∷ []))
      (decided : HasDecided (after_deciding_events before d).acting) (generations : decided.newest < 2 ^ 32) (none_left : NoneLeaves decided.lines)
      (none_leaves : NoneLeaves (lines_of (begins ∷ (during ++ ends ∷ [])) (after_deciding_events before d)))
      (none_lost : NothingGivenUp (lines_of (during ++ ends ∷ []) now) now.acting)
      (kept_on : AtEachLine KeepsWriting (lines_of (during ++ ends ∷ []) now) now.acting)
      (goes_on : StaysAbout is_writing (lines_of during now) now.acting)
      (over : is_writing (managed_at_end d before begins (during ++ ends ∷ [])).acting.policy.activity ≡ false) where
    abbrev first : Deciding
    first = after_deciding_events before d

    abbrev last : Deciding
    last = after_deciding_events during now

    parts : (not (is_writing first.acting.policy.activity) ≡ true) × (is_writing now.acting.policy.activity ≡ true)
    parts = and_parts (not (is_writing first.acting.policy.activity)) (is_writing now.acting.policy.activity) b.writes

    quiet : is_writing first.acting.policy.activity ≡ false
    quiet = by (is_writing first.acting.policy.activity) parts.0
      where
        by : (b : Bool) → not b ≡ true → b ≡ false
        by false e = refl
        by true e = absurd (cc)

    last_writes : is_writing last.acting.policy.activity ≡ true
    last_writes =
        ap (λ (a : Acting). is_writing a.policy.activity) (events_acting during now) ∙ about_last is_writing (lines_of during now) now.acting parts.1 goes_on

    over_then : is_writing (after_deciding_event last ends).acting.policy.activity ≡ false
    over_then = ap (λ (y : Deciding). is_writing y.acting.policy.activity) (sym (events_both during (ends ∷ []) now)) ∙ over

    first_line : (line : Line) × (line_by first begins ≡ line ∷ [])
    first_line =
        some_line first begins
        (λ same. both_ways (is_writing first.acting.policy.activity) quiet (ap (λ (a : Acting). is_writing a.policy.activity) (sym same) ∙ parts.1))

    last_line : (line : Line) × (line_by last ends ≡ line ∷ [])
    last_line =
        some_line last ends
        (λ same. both_ways (is_writing last.acting.policy.activity)
        (ap (λ (a : Acting). is_writing a.policy.activity) (sym same) ∙ over_then) last_writes)

    abbrev begins_line : Line
    begins_line = first_line.0

    abbrev ends_line : Line
    ends_line = last_line.0

    leads : after_line begins_line first.acting ≡ now.acting
    leads = sym (event_acting first begins ∙ ap (λ ls. after_lines ls first.acting) first_line.1)

    lines_are : lines_of (during ++ ends ∷ []) now ≡ lines_of during now ++ ends_line ∷ []
    lines_are =
        lines_of_both during (ends ∷ []) now
        ∙ ap (λ ls. lines_of during now ++ ls) (lines_one ∙ last_line.1)
      where
        lines_one : lines_of (ends ∷ []) last ≡ line_by last ends
        lines_one = append-nil (line_by last ends)

    leaves_none : NoneLeaves (begins_line ∷ (lines_of during now ++ ends_line ∷ []))
    leaves_none =
        subst NoneLeaves (ap (λ ls. begins_line ∷ ls) lines_are)
        (subst (λ ls. NoneLeaves (ls ++ lines_of (during ++ ends ∷ []) now)) first_line.1 none_leaves)

    end_is : after_line ends_line (after_lines (lines_of during now) now.acting) ≡ (managed_at_end d before begins (during ++ ends ∷ [])).acting
    end_is =
        ap (after_line ends_line) (sym (events_acting during now))
        ∙ sym (event_acting last ends ∙ ap (λ ls. after_lines ls last.acting) last_line.1)
        ∙ ap (λ (y : Deciding). y.acting) (sym (events_both during (ends ∷ []) now))

    pub ends_written : is_written (managed_at_end d before begins (during ++ ends ∷ [])).acting.manager ≡ true
    ends_written =
        subst (λ (a : Acting). is_written a.manager ≡ true) end_is
        (answered_writings_are_written first.acting begins_line now.acting (lines_of during now) ends_line
        (record {
          decided = decided;
          generations = generations;
          none_left = none_left;
          stays = leaves_none.0;
          leads = leads;
          quiet = quiet;
          writes = parts.1;
          goes_on = goes_on;
          none_leaves = none_first (lines_of during now) (ends_line ∷ []) leaves_none.1;
          remains = (none_later (lines_of during now) (ends_line ∷ []) leaves_none.1).0;
          over = ap (λ (a : Acting). is_writing a.policy.activity) end_is ∙ over;
        })
        (subst (λ ls. NothingGivenUp ls now.acting) lines_are none_lost)
        (subst (λ ls. AtEachLine KeepsWriting ls now.acting) lines_are kept_on)
        (subst (λ ls. AllAnswerWell ls now.acting) lines_are (all_well [] (during ++ ends ∷ []) b)))

-- what is written stays so ------------------------------------------------------------------------------------------------------

module _ (plan : PlanValue) (own : OwnSets) where
  heard_written : (v : Managing) (o : Option Handed) → is_written v.manager ≡ true → is_written (hearing v o).manager ≡ true
  heard_written v None e = e
  heard_written v (Some h) e =
      cond_both (is_same_port h.at v.seat) _ v (λ (y : Managing). is_written y.manager ≡ true)
      (λ _. still_written v.manager (Call.Packet h.packet.bytes (Some h.packet.slid)) tt e) (λ _. e)

  sent_written : (v : Managing) (o : Option Outgoing) → is_written v.manager ≡ true → is_written (sending v o).manager ≡ true
  sent_written v None e = e
  sent_written v (Some out) e = e

  event_written : (v : Managing) (event : ManagerEvent) → Keeps plan own v event → is_written v.manager ≡ true
      → is_written (after_manager_event v event).manager ≡ true
  event_written v (managing.Around event) keeps e = e
  event_written v managing.Begin keeps e = still_written v.manager Call.BeginSweep tt e
  event_written v managing.Write keeps e = still_written v.manager Call.WriteSteps keeps e
  event_written v managing.Take keeps e = still_written v.manager Call.Take tt e
  event_written v (managing.Send which) keeps e = sent_written v (slice_get v.out which) e
  event_written v (managing.Hear which) keeps e = heard_written v (slice_get v.scene.handed which) e
  event_written v (managing.TimeOut transaction) keeps e = still_written v.manager (Call.Timeout transaction) tt e
  event_written v (managing.Raise floor) keeps e = still_written v.manager (Call.Raise floor) tt e
  event_written v (managing.Merge floor sightings) keeps e = still_written v.manager (Call.Merge floor sightings) tt e
  event_written v (managing.Poll lid) keeps e = still_written v.manager (Call.Poll lid) tt e
  event_written v managing.HandOver keeps e = still_written v.manager Call.Handover tt e
  event_written v managing.Yield keeps e = still_written v.manager Call.Yield tt e
  event_written v managing.Rediscover keeps e = still_written v.manager Call.Rediscover tt e

  events_written : (events : List ManagerEvent) (v : Managing) → AllKeep plan own events v → is_written v.manager ≡ true
      → is_written (after_manager_events events v).manager ≡ true
  events_written [] v keep e = e
  events_written (event ∷ events) v keep e = events_written events (after_manager_event v event) keep.1 (event_written v event keep.0 e)

  keep_later : (some rest : List DecidingEvent) (d : Deciding) → AllKeepManaged plan own (some ++ rest) d
      → AllKeepManaged plan own rest (after_deciding_events some d)
  keep_later [] rest d keep = keep
  keep_later (event ∷ some) rest d keep = keep_later some rest (after_deciding_event d event) keep.1

-- through the rest of a run
pub written_on : (d : Deciding) (before : List DecidingEvent) (begins : DecidingEvent) (some rest : List DecidingEvent)
    → WritesManaged d before begins (some ++ rest) → is_written (managed_at_end d before begins some).acting.manager ≡ true
    → is_written (managed_at_end d before begins (some ++ rest)).acting.manager ≡ true
written_on d before begins some rest b written =
    ap (λ (y : Deciding). is_written y.acting.manager) (events_both some rest now) ∙ ap is_written (sym kept.leads.stands.manager)
    ∙ events_written plan own kept.leads.events v kept.keep (ap is_written stands.manager ∙ written)
  where
    now : Deciding
    now = managed_at_writing d before begins

    plan : PlanValue
    plan = plan_at (managing_of now)

    own : OwnSets
    own = own_sets (managing_of d) (managing_of now)

    part : WritesManaged d before begins some
    part = first_part d before begins some rest b

    v : Managing
    v = at_end (w d before begins some part) (x d before begins some part).before (x d before begins some part).between (third d before begins some part)

    stands : StandsFor v (managed_at_end d before begins some)
    stands = stands_in_end d before begins some part

    stays : (after_deciding_events some now).seat ≡ d.seat
    stays = seats_stay some now ∙ seat_stays begins (after_deciding_events before d) ∙ seats_stay before d

    kept : Kept plan own v (after_deciding_events rest (after_deciding_events some now))
    kept =
        run_kept plan own v (after_deciding_events some now) rest stands
        (subst (λ seat. AllByRecursion (CanDecide seat) rest) (sym stays) (later_of (CanDecide d.seat) some rest b.after_can))
        (keep_later plan own some rest now b.keep)
