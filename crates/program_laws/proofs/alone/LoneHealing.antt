-- A manager that is alone, with nothing in its way, sweeps and has its plan written in time.
use Rattle.std.proofs.Common.{◌≡◌, ◌∙◌, inl, inr, ℕ, ◌+◌, ◌*◌, ◌<◌, ◌≤◌, ◌^◌, cond, Bool, true, false, ◌&&◌, ◌||◌, not, List, [], ◌∷◌, ◌++◌, refl, sym, ap, subst, arith}
use Rattle.std.proofs.lemmas.Bool.{cond-true, cond-false, eq-eqb, le-ltb, not-false}
use Rattle.std.proofs.lemmas.List.{append_assoc}
use Rattle.std.specs.Prelude.{Option, Some, None, is_none, max, nat_lt}
use Rattle.fact_store.specs.View.{cells_of}
use Rattle.lft_blocks.specs.Plan.{plan_of}
use Rattle.plan_steps.specs.Bound.{most_steps}
use Rattle.sweep.specs.Sweep.{Sweep, is_done}
use Rattle.sm_state.specs.Standing.{is_in}
use Rattle.sm_state.specs.State.{number_of_state}
use Rattle.sm_state.specs.declared.state.SmState.TheVariants.{Master}
use Rattle.sm_policy.specs.PolicyLaws.{longest_wait}
use Rattle.sm_policy.specs.declared.timing.Timing.{Timing}
use Rattle.request_window.specs.declared.limits.Limits.{Limits}
use Rattle.sm_manager.specs.Manager.{Manager, is_running, progress_of, silent_in}
use Rattle.sm_manager.specs.ManagerRequests.{no_step_waits}
use Rattle.sm_manager.specs.PlanFaults.{number_fault, or_else, plan_fault, writing_fault}
use Rattle.sm_manager.specs.Writing.{write_fault_with}
use Rattle.sm_manager.specs.declared.fault.ManagerFault.TheVariants as fault
use Rattle.sm_policy.specs.Policy.{is_master, is_sweeping}
use Rattle.sm_policy.specs.declared.activity.Activity.{Activity}
use Rattle.acting_manager.specs.Acting.{Acting, caught_up}
use Rattle.acting_manager.specs.Acts.{is_whole, is_whole_by}
use Rattle.acting_manager.specs.Working.{is_given_up, is_idle, is_writing, taken}
use Rattle.program_laws.specs.AnsweredWritings.{KeepsWriting}
use Rattle.program_laws.specs.FreshWork.{works}
use Rattle.program_laws.specs.Healing.{EndsWritten, Heals}
use Rattle.program_laws.specs.LoneHealing.{HasRoom, HasRoomWhenSwept, LoneManagersHeal}
use Rattle.program_laws.specs.ManagedEnds.{StaysAbout}
use Rattle.program_laws.specs.NextSweep.{begins_sweep}
use Rattle.program_laws.specs.RestTime.{sweeps_in}
use Rattle.program_laws.specs.StandingPlans.{KeepsWritten}
use Rattle.program_laws.specs.WholeSweeps.{SweepsAreWhole}
use Rattle.program_laws.specs.Wakes.{AtEachLine, Line, after_line, after_lines, before_deciding, longest_turn}
use Rattle.program_laws.proofs.alone.Acts.{line_led}
use Rattle.program_laws.proofs.alone.Calm.{IsCalm, calm_later, calm_line, info_is, line_awake, line_goes, line_quiet, may_begin, over_then}
use Rattle.program_laws.proofs.alone.InfoOnly.{InfoOnly}
use Rattle.program_laws.proofs.alone.Leading.{found_in_time, has_known, line_knows, lone_calm}
use Rattle.program_laws.proofs.alone.Needs.{IsLed, led_lasts}
use Rattle.program_laws.proofs.alone.Quiet.{LastsQuietly, hears_quietly, lasts_quietly, told_is}
use Rattle.program_laws.proofs.alone.Steady.{knows_then}
use Rattle.program_laws.proofs.alone.SweepEnds.{saw_none}
use Rattle.program_laws.proofs.alone.Voids.{KeepsOn, heard_void, line_keeps_on}
use Rattle.program_laws.proofs.lasting.Healing.{GoesOnBy, IsUndisturbedSo, so_heals}
use Rattle.program_laws.proofs.wakes.AtSeats.{lines_both}
use Rattle.program_laws.proofs.wakes.Awaited.{writings_lose_nothing}
use Rattle.program_laws.proofs.wakes.FreshWork.{GoesOn}
use Rattle.program_laws.proofs.wakes.Load.{moved_about}
use Rattle.program_laws.proofs.wakes.Lines.{so_later}

pub whole_later : (some rest : List Line) (a : Acting) → SweepsAreWhole (some ++ rest) a → SweepsAreWhole rest (after_lines some a)
whole_later some rest a whole before begins during ends after are =
    subst (λ (b : Acting). begins_sweep begins b ≡ true → StaysAbout is_sweeping during (after_line begins b)
    → is_idle (before_deciding ends (after_lines during (after_line begins b))).window ≡ true
    → is_whole (before_deciding ends (after_lines during (after_line begins b))).manager ≡ true)
    (lines_both some before a)
    (whole (some ++ before) begins during ends after
    (ap (λ ls. some ++ ls) are ∙ sym (append_assoc some before (begins ∷ (during ++ ends ∷ after)))))

-- what the manager is about stays the same until it decides
about_lasts : (what : Activity) → LastsQuietly (λ m p. p.activity ≡ what)
about_lasts what =
    record {
      gives = λ m p h. h;
      hears = λ m p bytes from quiet h. h;
      gives_up = λ m p transaction h. h;
      wants = λ m p h. h;
      enters = λ m p now other h. moved_about now m.standing.state p ∙ h;
    }

-- a master whose sweep is whole, and that has room, may write
may_write : (m : Manager) → is_whole m ≡ true → m.standing.state ≡ Master → is_running m.sweep ≡ false → no_step_waits m.pending ≡ true → HasRoom m
    → writing_fault m ≡ None
may_write m whole master over none room =
    ap (λ o. or_else o (or_else (plan_fault m.planning.lmc (cells_of m.store)) (number_fault (m.counter + most_steps (cells_of m.store)))))
    (by_sweep m.sweep refl)
    ∙ ap (λ o. or_else o (number_fault (m.counter + most_steps (cells_of m.store)))) room.lids
    ∙ cond-false (nat_lt (2 ^ 32) (m.counter + most_steps (cells_of m.store))) (Some fault.SequenceSpent) None
    (le-ltb (2 ^ 32) (m.counter + most_steps (cells_of m.store)) (let numbers = room.numbers in omega (arith, numbers)))
  where
    faults : (a b c : Bool) → a ≡ true → b ≡ true → c ≡ true
        → cond (not a) (Some fault.NotMaster) (cond (not b) (Some fault.SweepRunning) (cond (not c) (Some fault.WritingRunning) None)) ≡ None
    faults true true true e f g = refl
    faults true true false e f g = absurd (cc)
    faults true false c e f g = absurd (cc)
    faults false b c e f g = absurd (cc)

    by_sweep : (o : Option Sweep) → m.sweep ≡ o → write_fault_with m o ≡ None
    by_sweep None e =
        let wrong : false ≡ true = ap (λ s. is_whole_by (progress_of s) (silent_in s)) (sym e) ∙ whole in absurd (cc)
    by_sweep (Some s) e =
        faults (is_in Master m.standing) (is_done s) (no_step_waits m.pending)
        (eq-eqb (number_of_state m.standing.state) (number_of_state Master) (ap number_of_state master))
        (not-false (is_done s) (sym (ap is_running e) ∙ over)) none

module _ (n late : ℕ) (timing : Timing) (limits : Limits) where
  abbrev Calm : List Line → Acting → Type 0
  Calm lines a = IsCalm n late timing limits lines a

  -- a master that is alone
  module _ (line : Line) (rest : List Line) (a : Acting) (c : Calm (line ∷ rest) a) (led : IsLed a.manager a.policy) where
    g : GoesOn a (line ∷ [])
    g = line_goes n late timing limits line rest a c

    led_x : IsLed (before_deciding line a).manager (before_deciding line a).policy
    led_x =
        (lasts_quietly (λ m p. InfoOnly m × IsLed m p) led_lasts line a g.none_leaves.0 (line_quiet n late timing limits line rest a c)
        (line_awake n late timing limits line rest a c) (info_is n late timing limits (line ∷ rest) a c, led)).1

    led_b : IsLed (after_line line a).manager (after_line line a).policy
    led_b =
        line_led line a g (line_quiet n late timing limits line rest a c) (line_awake n late timing limits line rest a c)
        (info_is n late timing limits (line ∷ rest) a c) led

    itself : (d : Acting) → d.policy.state ≡ Master → sweeps_in d.policy.state d.policy.master ≡ true
    itself d e = ap (λ s. sweeps_in s d.policy.master) e

    -- all goes well for it
    goes_well : (Writes : Line → Acting → Type 0) → HasRoomWhenSwept line a → Writes line a → GoesOnBy Writes line a
    goes_well Writes free so =
        record {
          to_sweep = record {
            may = λ rests idle. record {
              itself = itself (before_deciding line a) (knows_then line a ∙ led_x.master);
              unrefused = may_begin n late timing limits line rest a c rests idle;
            };
            itself = λ _ _. itself (after_line line a) (line_knows line a ∙ led_b.master);
          };
          swept = λ idle sweeps whole.
              let m = (before_deciding line a).manager in
              let room = free idle sweeps in
              record {
                master = knows_then line a ∙ led_x.master;
                alone = saw_none m led_x.clean;
                fresh = led_x.fresh;
                plan = plan_of m.planning.rule m.planning.lmc (cells_of m.store);
                is_planned = cond-true (is_none (plan_fault m.planning.lmc (cells_of m.store))) _ None (ap is_none room.lids);
                unrefused = may_write m whole led_x.master (over_then n late timing limits line rest a c idle)
                    (writings_lose_nothing a line c.goes.decided c.generations c.none_left c.goes.none_leaves.0 idle
                    (let numbers = room.numbers in omega (arith, numbers))).none_waits room;
              };
          writes = so;
        }

    -- it does not give up what it writes
    keeps_writing : KeepsOn a → KeepsWriting line a
    keeps_writing keeps =
        subst (λ (t : Acting). is_given_up (caught_up (taken line.1 t)) ≡ false) (sym (told_is line a (line_awake n late timing limits line rest a c)))
        (by_writing (is_writing y.policy.activity) refl)
      where
        y : Acting
        y = caught_up (taken line.1 (record a { time = max line.0 a.time }))

        about : y.policy.activity ≡ a.policy.activity
        about =
            hears_quietly (λ m p. p.activity ≡ a.policy.activity) (about_lasts a.policy.activity) line a g.none_leaves.0
            (line_quiet n late timing limits line rest a c) refl

        master : y.manager.standing.state ≡ Master
        master =
            (hears_quietly (λ m p. InfoOnly m × IsLed m p) led_lasts line a g.none_leaves.0 (line_quiet n late timing limits line rest a c)
            (info_is n late timing limits (line ∷ rest) a c, led)).1.master

        void : y.is_void ≡ a.is_void
        void =
            ap (λ (t : Acting). (caught_up (taken line.1 t)).is_void) (sym (told_is line a (line_awake n late timing limits line rest a c)))
            ∙ heard_void line a g.none_leaves.0 (line_awake n late timing limits line rest a c)

        by_writing : (b : Bool) → is_writing y.policy.activity ≡ b → is_given_up y ≡ false
        by_writing false e = ap (λ w. w && (y.is_void || not (is_master y.manager.standing.state))) e
        by_writing true e =
            (λ i. e i && ((void ∙ keeps (ap is_writing (sym about) ∙ e)) i || not (is_master (master i))))

  pub all_go_well : (Writes : Line → Acting → Type 0) (lines : List Line) (a : Acting) → Calm lines a → AtEachLine HasRoomWhenSwept lines a → AtEachLine Writes lines a
      → IsLed a.manager a.policy → AtEachLine (GoesOnBy Writes) lines a
  all_go_well Writes [] a c free all led = tt
  all_go_well Writes (line ∷ rest) a c free all led = (
    goes_well line rest a c led Writes free.0 all.0,
    all_go_well Writes rest (after_line line a) (calm_line n late timing limits line rest a c) free.1 all.1 (led_b line rest a c led),
  )

  pub all_keep_writing : (lines : List Line) (a : Acting) → Calm lines a → IsLed a.manager a.policy → KeepsOn a → AtEachLine KeepsWriting lines a
  all_keep_writing [] a c led keeps = tt
  all_keep_writing (line ∷ rest) a c led keeps = (
    keeps_writing line rest a c led keeps,
    all_keep_writing rest (after_line line a) (calm_line n late timing limits line rest a c) (led_b line rest a c led)
        (line_keeps_on line a (line_goes n late timing limits line rest a c) (line_awake n late timing limits line rest a c) keeps),
  )

  -- from then on nothing disturbs it
  abbrev pub undisturbed : (Writes : Line → Acting → Type 0) (lines : List Line) (a : Acting) → Calm lines a → SweepsAreWhole lines a → AtEachLine HasRoomWhenSwept lines a
      → AtEachLine Writes lines a → IsLed a.manager a.policy → IsUndisturbedSo Writes n a lines
  undisturbed Writes lines a c whole free all led =
      record {
        decided = c.goes.decided;
        generations = c.generations;
        none_left = c.none_left;
        first = λ _ _. ap (λ s. sweeps_in s a.policy.master) (has_known a c.goes.decided ∙ led.master);
        well = all_go_well Writes lines a c free all led;
        whole = whole;
        few = c.few;
        tries = c.goes.tries;
        outstanding = c.goes.outstanding;
        stays_on = c.goes.stays_on;
        none_leaves = c.goes.none_leaves;
        time = c.time;
      }

-- after some lines
heals_later : (some rest lines : List Line) (a : Acting) → lines ≡ some ++ rest → Heals rest (after_lines some a) → Heals lines a
heals_later some rest lines a is h =
    record {
      before = some ++ h.before;
      begins = h.begins;
      during = h.during;
      ends = h.ends;
      after = h.after;
      are = is ∙ ap (λ ls. some ++ ls) h.are ∙ sym (append_assoc some h.before (h.begins ∷ (h.during ++ h.ends ∷ h.after)));
      begun = subst (λ (b : Acting). begins_sweep h.begins b ≡ true) (sym first) h.begun;
      goes_on = subst (λ (b : Acting). StaysAbout works h.during (after_line h.begins b)) (sym first) h.goes_on;
      over = subst (λ (b : Acting). works (after_line h.ends (after_lines h.during (after_line h.begins b))).policy.activity ≡ false) (sym first) h.over;
      written = subst (λ (b : Acting). KeepsWritten (after_line h.ends (after_lines h.during (after_line h.begins b))).kept
          (after_line h.ends (after_lines h.during (after_line h.begins b))).manager) (sym first) h.written;
    }
  where
    first : after_lines (some ++ h.before) a ≡ after_lines h.before (after_lines some a)
    first = lines_both some h.before a

-- time for another sweep and writing is left
pub in_time : (t u end end' m w d w' d' : ℕ) → u ≤ t + 17 * w + (20 * (m + 4)) * d → w' ≡ w → d' ≡ d → end ≡ end'
    → t + 19 * w + (26 * (m + 4)) * d < end → u + 2 * w' + (6 * (m + 3)) * d' < end'
in_time t u end end' m w d w' d' soon same turn is long = let e = ap (λ i. m * i) turn in omega (arith, soon, same, turn, is, long, e)

pub too_soon : (t end m w d : ℕ) → t + 19 * w + (26 * (m + 4)) * d < end → end ≤ t + 17 * w + (20 * (m + 4)) * d → ⊥
too_soon t end m w d long few = omega (arith, long, few)

pub lone_managers_heal : LoneManagersHeal
lone_managers_heal n a lines r whole free written late short prompt long =
    elim (found_in_time n late a lines r short prompt) [
      | inl f ↦
          let timing = r.decided.timing in
          let limits = a.window.limits in
          let b = after_lines f.first a in
          let c = calm_later n late timing limits f.first f.later a
          (subst (λ ls. IsCalm n late timing limits ls a) f.are (lone_calm n late a lines r short prompt)) in
          let w = undisturbed n late timing limits EndsWritten f.later b c
          (whole_later f.first f.later a (subst (λ ls. SweepsAreWhole ls a) f.are whole))
          (so_later HasRoomWhenSwept f.first f.later a (subst (λ ls. AtEachLine HasRoomWhenSwept ls a) f.are free))
          (so_later EndsWritten f.first f.later a (subst (λ ls. AtEachLine EndsWritten ls a) f.are written)) f.led in
          heals_later f.first f.later lines a f.are
          (so_heals n b f.later w late c.prompt
          (in_time a.time b.time (after_lines lines a).time (after_lines f.later b).time n (longest_wait timing) (longest_turn late limits)
          (longest_wait w.decided.timing) (longest_turn late b.window.limits)
          f.soon (ap longest_wait c.timing_is) (ap (longest_turn late) c.limits_is)
          (ap (λ (z : Acting). z.time) (ap (λ ls. after_lines ls a) f.are ∙ lines_both f.first f.later a)) long))
      | inr few ↦ absurd (too_soon a.time (after_lines lines a).time n (longest_wait r.decided.timing) (longest_turn late a.window.limits) long few)
    ]
