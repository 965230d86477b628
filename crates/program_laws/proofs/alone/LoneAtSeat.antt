-- A manager that is alone at its seat, with nothing in its way, serves its subnet in time.
use Rattle.std.proofs.Common.{◌≡◌, ◌∙◌, inl, inr, ℕ, ◌+◌, ◌*◌, ◌<◌, ◌≤◌, List, [], ◌∷◌, ◌++◌, refl, sym, ap, subst, arith}
use Rattle.std.proofs.lemmas.List.{append_assoc}
use Rattle.std.specs.List.{AllByRecursion}
use Rattle.sm_policy.specs.PolicyLaws.{longest_wait}
use Rattle.sm_policy.specs.declared.timing.Timing.{Timing}
use Rattle.request_window.specs.declared.limits.Limits.{Limits}
use Rattle.acting_manager.specs.Acting.{Acting}
use Rattle.acting_manager.specs.Working.{pause}
use Rattle.program_laws.specs.AnsweredWritings.{KeepsWriting}
use Rattle.program_laws.specs.Deciding.{CanDecide, Deciding, DecidingEvent, after_deciding_event, after_deciding_events}
use Rattle.program_laws.specs.HealingAtSeat.{ServesAt}
use Rattle.program_laws.specs.LoneHealing.{HasRoomWhenSwept, IsLoneAt, LoneManagersHealAtSeat, KeepsSets}
use Rattle.program_laws.specs.SweepTime.{line_by, lines_of}
use Rattle.program_laws.specs.WholeSweeps.{SweepsAreWhole}
use Rattle.program_laws.specs.Wakes.{ArePrompt, AtEachLine, Line, after_line, after_lines, longest_turn}
use Rattle.program_laws.proofs.alone.Calm.{IsCalm, calm_later}
use Rattle.program_laws.proofs.alone.Leading.{found_in_time, lone_calm}
use Rattle.program_laws.proofs.alone.LoneHealing.{all_keep_writing, in_time, too_soon, undisturbed, whole_later}
use Rattle.program_laws.proofs.alone.Needs.{IsLed}
use Rattle.program_laws.proofs.alone.Runs.{Found}
use Rattle.program_laws.proofs.alone.Voids.{KeepsOn}
use Rattle.program_laws.proofs.lasting.EventLines.{AtMostOne, lines_of_both, told_one}
use Rattle.program_laws.proofs.lasting.EventLines.AtMostOne.{NoLine, OneLine}
use Rattle.program_laws.proofs.lasting.Healing.{IsUndisturbedSo}
use Rattle.program_laws.proofs.lasting.HealingAtSeat.{WritesOn, so_serves}
use Rattle.program_laws.proofs.managed.Moves.{both, first_of, later_of}
use Rattle.program_laws.proofs.wakes.AtSeats.{events_acting, events_both}
use Rattle.program_laws.proofs.wakes.Lines.{so_later}

-- the events that tell some lines ----------------------------------------------------------------------------------------------------

record AtLines (events : List DecidingEvent) (d : Deciding) (some : List Line) : Type 0 where
  first : List DecidingEvent
  later : List DecidingEvent
  are : events ≡ first ++ later
  told : lines_of first d ≡ some

events_at : (events : List DecidingEvent) (d : Deciding) (some rest : List Line) → lines_of events d ≡ some ++ rest → AtLines events d some
events_at events d [] rest e = record { first = []; later = events; are = refl; told = refl }
events_at [] d (line ∷ some) rest e = absurd (cc)
events_at (event ∷ events) d (line ∷ some) rest e =
    by_one (told_one d event) (λ ls f. events_at events now ls rest f)
  where
    now : Deciding
    now = after_deciding_event d event

    by_one : AtMostOne (line_by d event) → ((ls : List Line) → lines_of events now ≡ ls ++ rest → AtLines events now ls)
        → AtLines (event ∷ events) d (line ∷ some)
    by_one (NoLine none) next =
        let u = next (line ∷ some) (ap (λ l. l ++ lines_of events now) (sym none) ∙ e) in
        record {
          first = event ∷ u.first;
          later = u.later;
          are = ap (λ es. event ∷ es) u.are;
          told = ap (λ l. l ++ lines_of u.first now) none ∙ u.told;
        }
    by_one (OneLine l is) next =
        let whole : l ∷ lines_of events now ≡ line ∷ (some ++ rest) = ap (λ ls. ls ++ lines_of events now) (sym is) ∙ e in
        let same : l ≡ line = cc in
        let more : lines_of events now ≡ some ++ rest = cc in
        let u = next some more in
        record {
          first = event ∷ u.first;
          later = u.later;
          are = ap (λ es. event ∷ es) u.are;
          told = ap (λ ls. ls ++ lines_of u.first now) is ∙ (λ i. same i ∷ u.told i);
        }

-- serving soon -------------------------------------------------------------------------------------------------------------------------

all_write : (lines : List Line) (a : Acting) → AtEachLine KeepsWriting lines a → AtEachLine KeepsSets lines a → AtEachLine WritesOn lines a
all_write [] a keep none = tt
all_write (line ∷ lines) a keep none = ((keep.0, none.0), all_write lines (after_line line a) keep.1 none.1)

-- nothing disturbs the manager any more, by the given time
record IsQuietBy (n late by : ℕ) (timing : Timing) (limits : Limits) (lines : List Line) (a : Acting) : Type 0 where
  undisturbed : IsUndisturbedSo WritesOn n a lines
  timing_is : undisturbed.decided.timing ≡ timing
  limits_is : a.window.limits ≡ limits
  prompt : ArePrompt late lines a
  soon : a.time ≤ by

quiet_then : (n late by : ℕ) (timing : Timing) (limits : Limits) (first rest : List Line) (a : Acting) → IsCalm n late timing limits (first ++ rest) a
    → SweepsAreWhole (first ++ rest) a → AtEachLine HasRoomWhenSwept (first ++ rest) a → AtEachLine KeepsSets (first ++ rest) a
    → IsLed (after_lines first a).manager (after_lines first a).policy → KeepsOn (after_lines first a)
    → (after_lines first a).time ≤ by → IsQuietBy n late by timing limits rest (after_lines first a)
quiet_then n late by timing limits first rest a c whole free none led keeps soon =
    let b = after_lines first a in
    let v = calm_later n late timing limits first rest a c in
    record {
      undisturbed = undisturbed n late timing limits WritesOn rest b v (whole_later first rest a whole) (so_later HasRoomWhenSwept first rest a free)
          (all_write rest b (all_keep_writing n late timing limits rest b v led keeps) (so_later KeepsSets first rest a none)) led;
      timing_is = v.timing_is;
      limits_is = v.limits_is;
      prompt = v.prompt;
      soon = soon;
    }

module _ (n : ℕ) (d : Deciding) (before events : List DecidingEvent) (r : IsLoneAt n d before events) (late : ℕ) (short : late ≤ pause) where
  abbrev start : Deciding
  start = after_deciding_events before d

  abbrev a : Acting
  a = start.acting

  abbrev wait : ℕ
  wait = longest_wait r.lone.decided.timing

  abbrev turn : ℕ
  turn = longest_turn late a.window.limits

  module _ (prompt : ArePrompt late (lines_of events start) a)
      (long : a.time + 19 * wait + (26 * (n + 4)) * turn < (after_deciding_events events start).acting.time)
      (by : ℕ) (few : by ≤ a.time + 17 * wait + (20 * (n + 4)) * turn) (f : Found by (lines_of events start) a) where
    at : AtLines events start f.first
    at = events_at events start f.first f.later f.are

    abbrev now : Deciding
    now = after_deciding_events at.first start

    -- as a part of the whole run
    abbrev then : Deciding
    then = after_deciding_events (before ++ at.first) d

    then_is : then ≡ now
    then_is = events_both before at.first d

    lines_are : lines_of events start ≡ lines_of at.first start ++ lines_of at.later now
    lines_are = ap (λ es. lines_of es start) at.are ∙ lines_of_both at.first at.later start

    first_is : after_lines f.first a ≡ after_lines (lines_of at.first start) a
    first_is = ap (λ ls. after_lines ls a) (sym at.told)

    quiet : IsQuietBy n late by r.lone.decided.timing a.window.limits (lines_of at.later then) then.acting
    quiet =
        subst (λ (z : Deciding). IsQuietBy n late by r.lone.decided.timing a.window.limits (lines_of at.later z) z.acting) (sym then_is)
        (subst (IsQuietBy n late by r.lone.decided.timing a.window.limits (lines_of at.later now)) (sym (events_acting at.first start))
        (quiet_then n late by r.lone.decided.timing a.window.limits (lines_of at.first start) (lines_of at.later now) a
        (subst (λ ls. IsCalm n late r.lone.decided.timing a.window.limits ls a) lines_are (lone_calm n late a (lines_of events start) r.lone short prompt))
        (subst (λ ls. SweepsAreWhole ls a) lines_are r.whole) (subst (λ ls. AtEachLine HasRoomWhenSwept ls a) lines_are r.free)
        (subst (λ ls. AtEachLine KeepsSets ls a) lines_are r.none_lost)
        (subst (λ (b : Acting). IsLed b.manager b.policy) first_is f.led) (subst KeepsOn first_is f.keeps_on)
        (subst (λ (b : Acting). b.time ≤ by) first_is f.soon)))

    end_is : after_deciding_events events start ≡ after_deciding_events at.later then
    end_is =
        ap (λ es. after_deciding_events es start) at.are ∙ events_both at.first at.later start
        ∙ ap (after_deciding_events at.later) (sym then_is)

    can : AllByRecursion (CanDecide d.seat) (at.first ++ at.later)
    can = subst (AllByRecursion (CanDecide d.seat)) at.are r.events_can

    served : ServesAt d (before ++ at.first) at.later
    served =
        so_serves n d (before ++ at.first) at.later (record {
          new = r.new;
          starts = r.starts;
          before_can = both (CanDecide d.seat) before at.first r.before_can (first_of (CanDecide d.seat) at.first at.later can);
          events_can = later_of (CanDecide d.seat) at.first at.later can;
          undisturbed = quiet.undisturbed;
        }) late quiet.prompt
        (in_time a.time then.acting.time (after_deciding_events events start).acting.time (after_deciding_events at.later then).acting.time n wait turn
        (longest_wait quiet.undisturbed.decided.timing) (longest_turn late then.acting.window.limits)
        (let soon = quiet.soon in omega (arith, soon, few)) (ap longest_wait quiet.timing_is) (ap (longest_turn late) quiet.limits_is)
        (ap (λ (z : Deciding). z.acting.time) end_is) long)

    serves : ServesAt d before events
    serves =
        record {
          first = at.first ++ served.first;
          later = served.later;
          are = at.are ∙ ap (λ es. at.first ++ es) served.are ∙ sym (append_assoc at.first served.first served.later);
          earlier = served.earlier;
          begins = served.begins;
          since = served.since;
          until = sym (append_assoc before at.first served.first) ∙ served.until;
          writes = served.writes;
          is_last = served.is_last;
          serves = served.serves;
        }

pub lone_managers_heal_at_seat : LoneManagersHealAtSeat
lone_managers_heal_at_seat n d before events r late short prompt long =
    let start = after_deciding_events before d in
    elim (found_in_time n late start.acting (lines_of events start) r.lone short prompt) [
      | inl f ↦ serves n d before events r late short prompt long _ (omega arith) f
      | inr few ↦
          let end = ap (λ (b : Acting). b.time) (events_acting events start) in
          absurd (too_soon start.acting.time (after_deciding_events events start).acting.time n (longest_wait r.lone.decided.timing)
          (longest_turn late start.acting.window.limits) long (omega (arith, end, few)))
    ]
