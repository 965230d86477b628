-- The plan that a manager keeps is that of its last writing, from the line on that begins it.
use Rattle.std.proofs.Common.{◌≡◌, ◌∙◌, inl, inr, Bool, true, false, cond, ◌&&◌, not, List, [], ◌∷◌, refl, sym, ap, subst}
use Rattle.std.proofs.lemmas.Bool.{both_ways, cond_both, cond-true}
use Rattle.lft_blocks.specs.Plan.{PlanValue}
use Rattle.std.specs.Prelude.{Option}
use Rattle.sm_manager.specs.Writing.{is_written}
use Rattle.sm_policy.specs.Judged.{failed}
use Rattle.sm_policy.specs.Policy.{still}
use Rattle.sm_policy.specs.declared.act.Act.TheVariants as act
use Rattle.sm_policy.specs.declared.activity.Activity.{Activity}
use Rattle.sm_policy.specs.declared.activity.Activity.TheVariants as activity
use Rattle.acting_manager.specs.Acting.{Acting, caught_up, noted}
use Rattle.acting_manager.specs.Acts.{acted, acted_in, decided, left_in}
use Rattle.acting_manager.specs.Planned.{planned}
use Rattle.acting_manager.specs.Working.{acted_if_idle, is_idle, is_writing, sent}
use Rattle.acting_manager.specs.declared.note.Note.TheVariants.{Wrote}
use Rattle.program_laws.specs.Deciding.{Deciding, DecidingEvent, after_deciding_event, after_deciding_events}
use Rattle.program_laws.specs.ManagedWritings.{NoneBegins, begins_writing}
use Rattle.program_laws.specs.SweepTime.{line_by}
use Rattle.program_laws.specs.Wakes.{Line, after_line, after_lines, before_deciding}
use Rattle.program_laws.proofs.lasting.AnsweredWritings.{writes_idle, writes_now}
use Rattle.program_laws.proofs.lasting.EventLines.{AtMostOne, told_one}
use Rattle.program_laws.proofs.lasting.EventLines.AtMostOne.{NoLine, OneLine}
use Rattle.program_laws.proofs.lasting.FirstPlans.{IsKept, KeepsOrWrites, acted_keeps, kept_lasts, leaves_keep}
use Rattle.program_laws.proofs.lasting.Told.{catches_up, lasts_until, sends}
use Rattle.program_laws.proofs.managed.Calm.{Calm, NoMore, is_ready}
use Rattle.program_laws.proofs.managed.Outcomes.{Outcome, acts}
use Rattle.program_laws.proofs.wakes.AtSeats.{event_acting}
use Rattle.program_laws.proofs.wakes.Deciding.{caught_about, sent_about}

-- a line that begins a writing
pub begun_kept : (line : Line) (a : Acting) → is_writing a.policy.activity ≡ false → is_writing (after_line line a).policy.activity ≡ true
    → (after_line line a).kept ≡ planned (before_deciding line a).manager
begun_kept line a quiet begins =
    sends (IsKept plan) (kept_lasts plan) (acted_if_idle x)
    (subst (λ (y : Acting). y.kept ≡ plan) (sym (cond-true (is_idle x.window) (caught_up (acted x)) x (writes_idle line a quiet begins)))
    (catches_up (IsKept plan) (kept_lasts plan) (acted x) (writes_now line a quiet begins).kept))
  where
    x : Acting
    x = before_deciding line a

    plan : Option PlanValue
    plan = planned x.manager

-- one that begins none
over_kept : (b : Bool) (a : Acting) → (decided (cond b (record { policy = record a.policy { activity = activity.Rests; is_wanted = true }; act = act.HandOver })
    (still (failed a.time a.policy))) (noted (Wrote b) a)).kept ≡ a.kept
over_kept true a = refl
over_kept false a = refl

writes_kept : (what : Activity) (a : Acting) → what ≡ activity.Writes → (acted_in what a).kept ≡ a.kept
writes_kept activity.Writes a e = over_kept (is_written a.manager) a
writes_kept activity.Rests a e = absurd (cc)
writes_kept activity.Sweeps a e = absurd (cc)
writes_kept activity.Hands a e = absurd (cc)

is_about_writing : (what : Activity) → is_writing what ≡ true → what ≡ activity.Writes
is_about_writing activity.Writes e = refl
is_about_writing activity.Rests e = absurd (cc)
is_about_writing activity.Sweeps e = absurd (cc)
is_about_writing activity.Hands e = absurd (cc)

module _ (line : Line) (a : Acting) (none : (not (is_writing a.policy.activity) && is_writing (after_line line a).policy.activity) ≡ false) where
  abbrev x : Acting
  x = before_deciding line a

  ready : x.kept ≡ a.kept
  ready = lasts_until (IsKept a.kept) (kept_lasts a.kept) line a refl

  calm : Calm a x
  calm = is_ready line.0 line.1 a

  -- what begins no writing, and writes, wrote before
  wrote_before : is_idle x.window ≡ true → is_writing (acted x).policy.activity ≡ true → is_writing a.policy.activity ≡ true
  wrote_before idle writes = by (is_writing a.policy.activity) (is_writing (after_line line a).policy.activity) after none
    where
      after : is_writing (after_line line a).policy.activity ≡ true
      after =
          ap (λ (y : Acting). is_writing (sent y).policy.activity) (cond-true (is_idle x.window) (caught_up (acted x)) x idle)
          ∙ ap is_writing (sent_about (caught_up (acted x)) ∙ caught_about (acted x)) ∙ writes

      by : (was now : Bool) → now ≡ true → not was && now ≡ false → was ≡ true
      by true now e f = refl
      by false now e f = absurd (cc (sym e ∙ f))

  acted_kept : is_idle x.window ≡ true → KeepsOrWrites x (acted x) → (acted x).kept ≡ a.kept
  acted_kept idle (inl e) = e ∙ ready
  acted_kept idle (inr writes) = by_outcome (acts line.1 x)
    where
      by_writes : x.policy.activity ≡ activity.Writes → (acted x).kept ≡ a.kept
      by_writes is =
          cond_both x.is_leaving (left_in x.policy.activity x) (acted_in x.policy.activity x) (λ (y : Acting). y.kept ≡ a.kept)
          (λ _. leaves_keep x.policy.activity x ∙ ready) (λ _. writes_kept x.policy.activity x is ∙ ready)

      no_sweep : a.policy.activity ≡ activity.Sweeps → (acted x).kept ≡ a.kept
      no_sweep is = absurd (both_ways (is_writing a.policy.activity) (ap is_writing is) (wrote_before idle writes))

      by_outcome : Outcome line.1 x (acted x) → (acted x).kept ≡ a.kept
      by_outcome (Outcome.Quietly goes so) = by_writes (subst (NoMore x.policy.activity) (is_about_writing (acted x).policy.activity writes) so.activity)
      by_outcome (Outcome.Sweeping o) = absurd (both_ways (is_writing (acted x).policy.activity) o.no_writing writes)
      by_outcome (Outcome.Writing o) = no_sweep (subst (NoMore a.policy.activity) o.swept calm.activity)

  pub line_kept : (after_line line a).kept ≡ a.kept
  line_kept =
      sends (IsKept a.kept) (kept_lasts a.kept) (acted_if_idle x)
      (cond_both (is_idle x.window) (caught_up (acted x)) x (λ (y : Acting). y.kept ≡ a.kept)
      (λ idle. catches_up (IsKept a.kept) (kept_lasts a.kept) (acted x) (acted_kept idle (acted_keeps x))) (λ _. ready))

event_kept : (d : Deciding) (event : DecidingEvent) → begins_writing d event ≡ false → (after_deciding_event d event).acting.kept ≡ d.acting.kept
event_kept d event none = by_lines (told_one d event)
  where
    by_lines : AtMostOne (line_by d event) → (after_deciding_event d event).acting.kept ≡ d.acting.kept
    by_lines (NoLine empty) = ap (λ (a : Acting). a.kept) (event_acting d event ∙ ap (λ ls. after_lines ls d.acting) empty)
    by_lines (OneLine line is) =
        let same = event_acting d event ∙ ap (λ ls. after_lines ls d.acting) is in
        ap (λ (a : Acting). a.kept) same
        ∙ line_kept line d.acting (ap (λ (a : Acting). not (is_writing d.acting.policy.activity) && is_writing a.policy.activity) (sym same) ∙ none)

pub events_kept : (events : List DecidingEvent) (d : Deciding) → NoneBegins events d → (after_deciding_events events d).acting.kept ≡ d.acting.kept
events_kept [] d none = refl
events_kept (event ∷ events) d none = events_kept events (after_deciding_event d event) none.1 ∙ event_kept d event none.0
