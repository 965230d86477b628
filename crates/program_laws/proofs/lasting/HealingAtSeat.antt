-- A manager at its seat, if all goes well for long enough, serves its subnet.
use Rattle.std.proofs.Common.{◌≡◌, ◌∙◌, ◌⊎◌, inl, inr, ℕ, ◌+◌, ◌*◌, ◌<◌, Bool, true, false, ◌&&◌, not, List, [], ◌∷◌, ◌++◌, refl, sym, ap, subst}
use Rattle.std.proofs.lemmas.List.{append_assoc}
use Rattle.std.proofs.lemmas.Option.{none-some}
use Rattle.std.specs.List.{AllByRecursion, list_any}
use Rattle.manager_laws.specs.Managing.{Starts}
use Rattle.manager_laws.specs.Written.{own_sets, plan_at}
use Rattle.sm_manager.specs.Writing.{is_written}
use Rattle.sm_policy.specs.Policy.{is_sweeping}
use Rattle.sm_policy.specs.PolicyLaws.{longest_wait}
use Rattle.sm_policy.specs.declared.activity.Activity.{Activity}
use Rattle.sm_policy.specs.declared.activity.Activity.TheVariants as activity
use Rattle.acting_manager.specs.Acting.{Acting}
use Rattle.acting_manager.specs.Working.{after_told, is_writing}
use Rattle.program_laws.specs.AnsweredPings.{WritesManaged}
use Rattle.program_laws.specs.AnsweredWritings.{KeepsWriting}
use Rattle.program_laws.specs.Deciding.{CanDecide, Deciding, DecidingEvent, after_deciding_event, after_deciding_events}
use Rattle.program_laws.specs.FreshWork.{works}
use Rattle.program_laws.specs.HealingAtSeat.{HealsAtSeat, OthersKeep, ServesAt}
use Rattle.program_laws.specs.ManagedEnds.{StaysAbout}
use Rattle.program_laws.specs.ManagedPings.{managed_at_end, managed_at_writing}
use Rattle.program_laws.specs.ManagedWritings.{IsNew, NoneBegins, begins_writing, managing_of}
use Rattle.program_laws.specs.StandingPlans.{KeepsWritten}
use Rattle.program_laws.specs.SweepTime.{lines_of}
use Rattle.program_laws.specs.Wakes.{ArePrompt, AtEachLine, HasDecided, Line, NoneLeaves, after_line, after_lines, longest_turn}
use Rattle.program_laws.specs.WholeSweeps.{NothingGivenUp, tells_loss}
use Rattle.program_laws.proofs.lasting.Answered.{none_both}
use Rattle.program_laws.proofs.lasting.AnsweredPings.{ends_written}
use Rattle.program_laws.proofs.lasting.EventLines.{RunsSince, UpTo, events_to, lines_of_both, none_begins, runs_since}
use Rattle.program_laws.proofs.lasting.EventLines.RunsSince.{Since, Throughout}
use Rattle.program_laws.proofs.lasting.FirstPlans.{IsFirst, LastWriting, events_first, last_writing}
use Rattle.program_laws.proofs.lasting.FirstPlans.LastWriting.{Nothing, Something}
use Rattle.program_laws.proofs.lasting.Healing.{Found, GoesOnBy, IsUndisturbedSo, ends_so, found, sweeps, undisturbed_so}
use Rattle.program_laws.proofs.lasting.StandingPings.{strict_whole}
use Rattle.program_laws.proofs.managed.Moves.{both, first_of, later_of}
use Rattle.program_laws.proofs.managed.OnePlan.{last_keeps}
use Rattle.program_laws.proofs.managed.OneSweeps.{writes_what_one_sweep_saw}
use Rattle.program_laws.proofs.managed.Pinged.{managed_pings_arrive}
use Rattle.program_laws.proofs.wakes.AtSeats.{event_acting, events_acting, events_both, lines_both}
use Rattle.program_laws.proofs.wakes.NextSweep.{has_more, none_first, none_later}
use Rattle.program_laws.proofs.wakes.Lines.{so_later}

-- the manager does not give up what it writes, and no request while it writes
abbrev pub WritesOn : Line → Acting → Type 0
WritesOn line a =
    KeepsWriting line a × (is_writing a.policy.activity ≡ true → list_any tells_loss (after_told line.0 line.1 a).notes ≡ false)

-- nothing that was written is given up
keep_writing : (some : List Line) (line : Line) (rest : List Line) (a : Acting) → AtEachLine (GoesOnBy WritesOn) (some ++ line ∷ rest) a
    → AtEachLine KeepsWriting (some ++ line ∷ []) a
keep_writing [] line rest a w = (w.0.writes.0, tt)
keep_writing (first ∷ some) line rest a w = (w.0.writes.0, keep_writing some line rest (after_line first a) w.1)

none_lost : (some : List Line) (line : Line) (rest : List Line) (a : Acting) → AtEachLine (GoesOnBy WritesOn) (some ++ line ∷ rest) a
    → is_writing a.policy.activity ≡ true → StaysAbout is_writing some a → NothingGivenUp (some ++ line ∷ []) a
none_lost [] line rest a w writes stays = (w.0.writes.1 writes, tt)
none_lost (first ∷ some) line rest a w writes stays = (
  w.0.writes.1 writes,
  none_lost some line rest (after_line first a) w.1 stays.0 stays.1,
)

-- a new manager that decides by itself sits at its seat, and nothing is on its way. After the events `before` nothing disturbs it
-- through the events `events`
pub record IsUndisturbedThere (n : ℕ) (d : Deciding) (before events : List DecidingEvent) : Type 0 where
  pub new : IsNew d
  pub starts : Starts (managing_of d)
  pub before_can : AllByRecursion (CanDecide d.seat) before
  pub events_can : AllByRecursion (CanDecide d.seat) events
  pub undisturbed : IsUndisturbedSo WritesOn n (after_deciding_events before d).acting (lines_of events (after_deciding_events before d))

-- what writes all the time does not begin a sweep
never_sweeps : (some : List Line) (line : Line) (rest : List Line) (a : Acting) → StaysAbout is_writing (some ++ line ∷ rest) a
    → is_sweeping (after_line line (after_lines some a)).policy.activity ≡ true → ⊥
never_sweeps [] line rest a stays sweeps = one_only (after_line line a).policy.activity stays.0 sweeps
  where
    one_only : (what : Activity) → is_writing what ≡ true → is_sweeping what ≡ true → ⊥
    one_only activity.Sweeps w s = absurd (cc)
    one_only activity.Writes w s = absurd (cc)
    one_only activity.Rests w s = absurd (cc)
    one_only activity.Hands w s = absurd (cc)
never_sweeps (first ∷ some) line rest a stays sweeps = never_sweeps some line rest (after_line first a) stays.1 sweeps

module _ (d : Deciding) (before events : List DecidingEvent) (n : ℕ) (r : IsUndisturbedThere n d before events)
    (h : Found (lines_of events (after_deciding_events before d)) (after_deciding_events before d).acting) where
  abbrev start : Deciding
  start = after_deciding_events before d

  abbrev some : List Line
  some = h.before ++ h.begins ∷ h.during

  abbrev up_to : UpTo events start some h.ends
  up_to = events_to events start some h.ends h.after (h.are ∙ sym (append_assoc h.before (h.begins ∷ h.during) (h.ends ∷ h.after)))

  -- the manager before the work ends, and once it has ended
  abbrev last : Deciding
  last = after_deciding_events up_to.first start

  abbrev c : Acting
  c = after_lines h.during (after_line h.begins (after_lines h.before start.acting))

  abbrev end : Acting
  end = after_line h.ends c

  last_is : last.acting ≡ c
  last_is =
      events_acting up_to.first start ∙ ap (λ ls. after_lines ls start.acting) up_to.told
      ∙ lines_both h.before (h.begins ∷ h.during) start.acting

  abbrev first : List DecidingEvent
  first = up_to.first ++ up_to.event ∷ []

  are : events ≡ first ++ up_to.later
  are = up_to.are ∙ sym (append_assoc up_to.first (up_to.event ∷ []) up_to.later)

  event_is : (after_deciding_event last up_to.event).acting ≡ end
  event_is = event_acting last up_to.event ∙ ap (λ ls. after_lines ls last.acting) up_to.tells ∙ ap (after_line h.ends) last_is

  acting_is : (after_deciding_events first start).acting ≡ end
  acting_is = ap (λ (x : Deciding). x.acting) (events_both up_to.first (up_to.event ∷ []) start) ∙ event_is

  whole_is : after_deciding_events (before ++ first) d ≡ after_deciding_events first start
  whole_is = events_both before first d

  can : AllByRecursion (CanDecide d.seat) (before ++ first)
  can =
      both (CanDecide d.seat) before first r.before_can
      (first_of (CanDecide d.seat) first up_to.later (subst (AllByRecursion (CanDecide d.seat)) are r.events_can))

  -- a part of the run that begins a writing
  module _ (earlier : List DecidingEvent) (begins : DecidingEvent) (since : List DecidingEvent) (until : before ++ first ≡ earlier ++ begins ∷ since)
      (writes : begins_writing (after_deciding_events earlier d) begins ≡ true) (none : NoneBegins since (managed_at_writing d earlier begins)) where
    abbrev now : Deciding
    now = managed_at_writing d earlier begins

    all_can : AllByRecursion (CanDecide d.seat) (earlier ++ begins ∷ since)
    all_can = subst (AllByRecursion (CanDecide d.seat)) until can

    later_can : AllByRecursion (CanDecide d.seat) (begins ∷ since)
    later_can = later_of (CanDecide d.seat) earlier (begins ∷ since) all_can

    writing : OthersKeep (plan_at (managing_of now)) (own_sets (managing_of d) (managing_of now)) since now → WritesManaged d earlier begins since
    writing others =
        record {
          new = r.new;
          starts = r.starts;
          before_can = first_of (CanDecide d.seat) earlier (begins ∷ since) all_can;
          begins_can = later_can.0;
          after_can = later_can.1;
          writes = writes;
          keep = last_keeps _ _ since now others none;
        }

    -- its plan serves, if it is written
    serves_then : (WritesManaged d earlier begins since → is_written (managed_at_end d earlier begins since).acting.manager ≡ true)
        → ServesAt d before events
    serves_then written =
        record {
          first = first;
          later = up_to.later;
          are = are;
          earlier = earlier;
          begins = begins;
          since = since;
          until = until;
          writes = writes;
          is_last = none;
          serves = λ strict others.
              let b = writing others in
              let one = writes_what_one_sweep_saw d earlier begins r.new b.before_can b.begins_can writes in
              managed_pings_arrive d earlier begins since (record {
                new = r.new;
                starts = r.starts;
                before_can = b.before_can;
                begins_can = b.begins_can;
                after_can = b.after_can;
                writes = writes;
                sweep = one.sweep;
                is_last = one.is_last;
                whole = strict_whole now.acting.policy one.sweep strict one.may;
                keep = b.keep;
                written = written b;
              });
        }

  -- its plan stood ------------------------------------------------------------------------------------------------------------

  is_first : IsFirst d.acting
  is_first = subst IsFirst (sym r.new.acting) (record { none = refl; quiet = refl })

  module _ (written : KeepsWritten end.kept end.manager) where
    keeps : KeepsWritten (after_deciding_events (before ++ first) d).acting.kept (after_deciding_events (before ++ first) d).acting.manager
    keeps = subst (λ (a : Acting). KeepsWritten a.kept a.manager) (sym (ap (λ (x : Deciding). x.acting) whole_is ∙ acting_is)) written

    by_last : LastWriting (before ++ first) d → ServesAt d before events
    by_last (Nothing none) =
        let f = events_first (before ++ first) d is_first none in
        absurd (none-some keeps.plan (sym f.none ∙ keeps.is_kept))
    by_last (Something earlier begins since until writes none) =
        serves_then earlier begins since until writes none
        (λ b. subst (λ (x : Deciding). is_written x.acting.manager ≡ true)
        (ap (λ es. after_deciding_events es d) until ∙ events_both earlier (begins ∷ since) d) keeps.written)

    stood : ServesAt d before events
    stood = by_last (last_writing (before ++ first) d)

  -- a writing is over -----------------------------------------------------------------------------------------------------------

  -- a part of the events, from some moment on
  module _ (a : List DecidingEvent) (g : DecidingEvent) (since : List DecidingEvent) (is : up_to.first ≡ a ++ g ∷ since)
      (begun : begins_writing (after_deciding_events a start) g ≡ true)
      (stays : StaysAbout is_writing (lines_of since (after_deciding_event (after_deciding_events a start) g))
      (after_deciding_event (after_deciding_events a start) g).acting) where
    abbrev begun_at : Deciding
    begun_at = after_deciding_event (after_deciding_events a start) g

    abbrev earlier : List DecidingEvent
    earlier = before ++ a

    at_is : after_deciding_events earlier d ≡ after_deciding_events a start
    at_is = events_both before a d

    now_is : managed_at_writing d earlier g ≡ begun_at
    now_is = ap (λ (x : Deciding). after_deciding_event x g) at_is

    since_is : after_deciding_events since begun_at ≡ last
    since_is = sym (events_both a (g ∷ since) start) ∙ ap (λ es. after_deciding_events es start) (sym is)

    until : before ++ first ≡ earlier ++ g ∷ (since ++ up_to.event ∷ [])
    until =
        ap (λ es. before ++ (es ++ up_to.event ∷ [])) is ∙ ap (λ es. before ++ es) (append_assoc a (g ∷ since) (up_to.event ∷ []))
        ∙ sym (append_assoc before a (g ∷ (since ++ up_to.event ∷ [])))

    begun_then : begins_writing (after_deciding_events earlier d) g ≡ true
    begun_then = ap (λ (x : Deciding). begins_writing x g) at_is ∙ begun

    writes : is_writing begun_at.acting.policy.activity ≡ true
    writes = by (is_writing (after_deciding_events a start).acting.policy.activity) (is_writing begun_at.acting.policy.activity) begun
      where
        by : (x y : Bool) → not x && y ≡ true → y ≡ true
        by true y e = absurd (cc)
        by false y e = e

    quiet : (what : Activity) → works what ≡ false → is_writing what ≡ false
    quiet activity.Rests e = refl
    quiet activity.Hands e = refl
    quiet activity.Sweeps e = absurd (cc)
    quiet activity.Writes e = absurd (cc)

    over : is_writing (after_deciding_event (after_deciding_events since begun_at) up_to.event).acting.policy.activity ≡ false
    over =
        ap (λ (x : Deciding). is_writing (after_deciding_event x up_to.event).acting.policy.activity) since_is
        ∙ ap (λ (x : Acting). is_writing x.policy.activity) event_is ∙ quiet end.policy.activity h.over

    none : NoneBegins (since ++ up_to.event ∷ []) begun_at
    none = none_begins since up_to.event begun_at writes stays over

    -- all goes well from then on
    lines_are : lines_of events start ≡ lines_of (a ++ g ∷ []) start ++ (lines_of since begun_at ++ h.ends ∷ lines_of up_to.later (after_deciding_event last up_to.event))
    lines_are =
        ap (λ es. lines_of es start) (up_to.are ∙ ap (λ es. es ++ up_to.event ∷ up_to.later) (is ∙ sym (append_assoc a (g ∷ []) since))
        ∙ append_assoc (a ++ g ∷ []) since (up_to.event ∷ up_to.later))
        ∙ lines_of_both (a ++ g ∷ []) (since ++ up_to.event ∷ up_to.later) start
        ∙ ap (λ (x : Deciding). lines_of (a ++ g ∷ []) start ++ lines_of (since ++ up_to.event ∷ up_to.later) x) (events_both a (g ∷ []) start)
        ∙ ap (λ ls. lines_of (a ++ g ∷ []) start ++ ls) (lines_of_both since (up_to.event ∷ up_to.later) begun_at)
        ∙ ap (λ (x : Deciding). lines_of (a ++ g ∷ []) start ++ (lines_of since begun_at ++ lines_of (up_to.event ∷ up_to.later) x)) since_is
        ∙ ap (λ ls. lines_of (a ++ g ∷ []) start ++ (lines_of since begun_at ++ (ls ++ lines_of up_to.later (after_deciding_event last up_to.event))))
        up_to.tells

    well : AtEachLine (GoesOnBy WritesOn) (lines_of since begun_at ++ h.ends ∷ lines_of up_to.later (after_deciding_event last up_to.event)) begun_at.acting
    well =
        subst (AtEachLine (GoesOnBy WritesOn) _)
        (sym (events_acting (a ++ g ∷ []) start) ∙ ap (λ (x : Deciding). x.acting) (events_both a (g ∷ []) start))
        (so_later (GoesOnBy WritesOn) (lines_of (a ++ g ∷ []) start) _ start.acting
        (subst (λ ls. AtEachLine (GoesOnBy WritesOn) ls start.acting) lines_are r.undisturbed.well))

    last_are : lines_of (since ++ up_to.event ∷ []) begun_at ≡ lines_of since begun_at ++ h.ends ∷ []
    last_are =
        lines_of_both since (up_to.event ∷ []) begun_at
        ∙ ap (λ (x : Deciding). lines_of since begun_at ++ lines_of (up_to.event ∷ []) x) since_is
        ∙ ap (λ ls. lines_of since begun_at ++ (ls ++ [])) up_to.tells

    -- nobody tells it to leave
    first_is : (after_deciding_events earlier d).acting ≡ after_lines (lines_of a start) start.acting
    first_is = ap (λ (x : Deciding). x.acting) at_is ∙ events_acting a start

    abbrev decided : HasDecided (after_deciding_events earlier d).acting
    decided = has_more start.acting (lines_of a start) (after_deciding_events earlier d).acting (sym first_is) r.undisturbed.decided

    all_lines : lines_of events start
        ≡ lines_of a start ++ (lines_of (g ∷ (since ++ up_to.event ∷ [])) (after_deciding_events a start)
        ++ lines_of up_to.later (after_deciding_events (g ∷ (since ++ up_to.event ∷ [])) (after_deciding_events a start)))
    all_lines =
        ap (λ es. lines_of es start) (are ∙ ap (λ es. (es ++ up_to.event ∷ []) ++ up_to.later) is
        ∙ ap (λ es. es ++ up_to.later) (append_assoc a (g ∷ since) (up_to.event ∷ []))
        ∙ append_assoc a (g ∷ (since ++ up_to.event ∷ [])) up_to.later)
        ∙ lines_of_both a ((g ∷ (since ++ up_to.event ∷ [])) ++ up_to.later) start
        ∙ ap (λ ls. lines_of a start ++ ls) (lines_of_both (g ∷ (since ++ up_to.event ∷ [])) up_to.later (after_deciding_events a start))

    leaves_none : NoneLeaves (lines_of a start ++ (lines_of (g ∷ (since ++ up_to.event ∷ [])) (after_deciding_events a start)
        ++ lines_of up_to.later (after_deciding_events (g ∷ (since ++ up_to.event ∷ [])) (after_deciding_events a start))))
    leaves_none = subst NoneLeaves all_lines r.undisturbed.none_leaves

    ends_well : ServesAt d before events
    ends_well =
        serves_then earlier g (since ++ up_to.event ∷ []) until begun_then
        (subst (NoneBegins (since ++ up_to.event ∷ [])) (sym now_is) none)
        (λ b. ends_written d earlier g since up_to.event b decided r.undisturbed.generations
        (none_both r.undisturbed.decided.lines (lines_of a start) r.undisturbed.none_left (none_first (lines_of a start) _ leaves_none))
        (subst (λ (x : Deciding). NoneLeaves (lines_of (g ∷ (since ++ up_to.event ∷ [])) x)) (sym at_is)
        (none_first (lines_of (g ∷ (since ++ up_to.event ∷ [])) (after_deciding_events a start)) _ (none_later (lines_of a start) _ leaves_none)))
        (subst (λ (x : Deciding). NothingGivenUp (lines_of (since ++ up_to.event ∷ []) x) x.acting) (sym now_is)
        (subst (λ ls. NothingGivenUp ls begun_at.acting) (sym last_are) (none_lost (lines_of since begun_at) h.ends _ begun_at.acting well writes stays)))
        (subst (λ (x : Deciding). AtEachLine KeepsWriting (lines_of (since ++ up_to.event ∷ []) x) x.acting) (sym now_is)
        (subst (λ ls. AtEachLine KeepsWriting ls begun_at.acting) (sym last_are) (keep_writing (lines_of since begun_at) h.ends _ begun_at.acting well)))
        (subst (λ (x : Deciding). StaysAbout is_writing (lines_of since x) x.acting) (sym now_is) stays)
        (ap (λ (x : Deciding). is_writing x.acting.policy.activity)
        (ap (after_deciding_events (since ++ up_to.event ∷ [])) now_is ∙ events_both since (up_to.event ∷ []) begun_at) ∙ over))

  by_run : RunsSince up_to.first start → ServesAt d before events
  by_run (Throughout about stays) =
      absurd (never_sweeps h.before h.begins h.during start.acting (subst (λ ls. StaysAbout is_writing ls start.acting) up_to.told stays)
      (sweeps WritesOn n start.acting (lines_of events start) r.undisturbed h))
  by_run (Since a g since is begun stays) = ends_well a g since is begun stays

  by_end : KeepsWritten end.kept end.manager ⊎ (is_writing c.policy.activity ≡ true) → ServesAt d before events
  by_end (inl k) = stood k
  by_end (inr writes) = by_run (runs_since up_to.first start (ap (λ (x : Acting). is_writing x.policy.activity) last_is ∙ writes))

-- for so long
pub so_serves : (n : ℕ) (d : Deciding) (before events : List DecidingEvent) (r : IsUndisturbedThere n d before events) (late : ℕ)
    → ArePrompt late (lines_of events (after_deciding_events before d)) (after_deciding_events before d).acting
    → (after_deciding_events before d).acting.time + 2 * longest_wait r.undisturbed.decided.timing
    + (6 * (n + 3)) * longest_turn late (after_deciding_events before d).acting.window.limits
    < (after_deciding_events events (after_deciding_events before d)).acting.time
    → ServesAt d before events
so_serves n d before events r late prompt long =
    let start = after_deciding_events before d in
    let h = found WritesOn n start.acting (lines_of events start) r.undisturbed late prompt
    (subst (λ (a : Acting). start.acting.time + 2 * longest_wait r.undisturbed.decided.timing
    + (6 * (n + 3)) * longest_turn late start.acting.window.limits < a.time) (events_acting events start) long) in
    by_end d before events n r h (ends_so WritesOn n start.acting (lines_of events start) r.undisturbed h)

pub heals_at_seat : HealsAtSeat
heals_at_seat n d before events r late prompt long =
    so_serves n d before events (record {
      new = r.new;
      starts = r.starts;
      before_can = r.before_can;
      events_can = r.events_can;
      undisturbed = undisturbed_so KeepsWriting WritesOn n (after_deciding_events before d).acting (lines_of events (after_deciding_events before d))
          (λ line b w. (w.writes, λ _. w.none_lost)) r.undisturbed;
    }) late prompt long
