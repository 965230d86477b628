-- Lines of an example: each comes in time, and nothing that is asked of a manager that is alone fails at it.
use Rattle.std.proofs.Common.{◌≡◌, ◌≤◌, ◌∙◌, ℕ, ◌+◌, ◌^◌, Bool, true, false, List, [], ◌∷◌, ◌++◌, length, refl, sym, ap, subst, arith}
use Rattle.std.proofs.lemmas.Bool.{both_ways}
use Rattle.std.specs.Prelude.{Option, Some, None, ◌&&◌, not}
use Rattle.fact_store.specs.View.{Facts, cells_of, raised}
use Rattle.plan_steps.specs.Bound.{most_steps}
use Rattle.sm_manager.specs.Manager.{Manager, begin_fault}
use Rattle.sm_manager.specs.PlanFaults.{plan_fault}
use Rattle.sm_manager.specs.declared.fault.ManagerFault.{ManagerFault}
use Rattle.sm_manager.specs.declared.fault.ManagerFault.TheVariants.{GenerationsSpent}
use Rattle.sm_policy.specs.Policy.{is_sweeping}
use Rattle.acting_manager.specs.Acting.{Acting}
use Rattle.acting_manager.specs.Acts.{floor_raised, is_whole}
use Rattle.acting_manager.specs.Working.{Told, is_idle, is_resting, is_writing, wake_of}
use Rattle.manager_laws.specs.WritingEnds.{planned_steps}
use Rattle.program_laws.specs.Alone.{HearsNobody, IsNoWord}
use Rattle.program_laws.specs.FewTurns.{AsksLittle}
use Rattle.program_laws.specs.Healing.{EndsWritten}
use Rattle.program_laws.specs.LoneHealing.{HasRoom, HasRoomWhenSwept}
use Rattle.program_laws.specs.ManagedEnds.{StaysAbout}
use Rattle.program_laws.specs.NextSweep.{begins_sweep}
use Rattle.program_laws.specs.Wakes.{ArePrompt, AtEachLine, IsBy, IsNoLeave, Line, NoneLeaves, after_line, after_lines, before_deciding}
use Rattle.program_laws.specs.Wakes.{control_in, next_in, sets_to_come}
use Rattle.program_laws.specs.WholeSweeps.{SweepsAreWhole}
use Rattle.program_laws.proofs.lasting.LoneAdapter.{tells, cells_at}
use Rattle.program_laws.proofs.lasting.LoneSweeps.{swept_on, IsToBegin, begun, may_begin, HasSwept, known}

-- good lines ---------------------------------------------------------------------------------------------------------------------

-- the line comes in time; the manager is alone, little is asked by it, its sweep is whole if it is over, it has room for what it
-- writes then, and its plan is written if its writing is over
pub record GoodLine (line : Line) (a : Acting) : Type 0 where
  pub prompt : IsBy 0 line.0 (wake_of a)
  pub stays : IsNoLeave line.1
  pub alone : HearsNobody line a
  pub little : AsksLittle 3 1 line a
  pub whole : is_sweeping a.policy.activity ≡ true → is_idle (before_deciding line a).window ≡ true
      → is_whole (before_deciding line a).manager ≡ true
  pub free : HasRoomWhenSwept line a
  pub ends : EndsWritten line a

-- each line is good, and the last one comes at `time`
abbrev pub Goes : ℕ → List Line → Acting → Type 0
Goes time [] a = a.time ≡ time
Goes time (line ∷ lines) a = GoodLine line a × Goes time lines (after_line line a)

module _ (time : ℕ) where
  pub its_prompt : (lines : List Line) (a : Acting) → Goes time lines a → ArePrompt 0 lines a
  its_prompt [] a g = tt
  its_prompt (line ∷ lines) a g = (g.0.prompt, its_prompt lines (after_line line a) g.1)

  pub its_alone : (lines : List Line) (a : Acting) → Goes time lines a → AtEachLine HearsNobody lines a
  its_alone [] a g = tt
  its_alone (line ∷ lines) a g = (g.0.alone, its_alone lines (after_line line a) g.1)

  pub its_little : (lines : List Line) (a : Acting) → Goes time lines a → AtEachLine (AsksLittle 3 1) lines a
  its_little [] a g = tt
  its_little (line ∷ lines) a g = (g.0.little, its_little lines (after_line line a) g.1)

  pub its_free : (lines : List Line) (a : Acting) → Goes time lines a → AtEachLine HasRoomWhenSwept lines a
  its_free [] a g = tt
  its_free (line ∷ lines) a g = (g.0.free, its_free lines (after_line line a) g.1)

  pub its_ends : (lines : List Line) (a : Acting) → Goes time lines a → AtEachLine EndsWritten lines a
  its_ends [] a g = tt
  its_ends (line ∷ lines) a g = (g.0.ends, its_ends lines (after_line line a) g.1)

  pub none_leaves : (lines : List Line) (a : Acting) → Goes time lines a → NoneLeaves lines
  none_leaves [] a g = tt
  none_leaves (line ∷ lines) a g = (g.0.stays, none_leaves lines (after_line line a) g.1)

  pub its_end : (lines : List Line) (a : Acting) → Goes time lines a → (after_lines lines a).time ≡ time
  its_end [] a g = g
  its_end (line ∷ lines) a g = its_end lines (after_line line a) g.1

  pub later : (some rest : List Line) (a : Acting) → Goes time (some ++ rest) a → Goes time rest (after_lines some a)
  later [] rest a g = g
  later (line ∷ some) rest a g = later some rest (after_line line a) g.1

  pub sweeps_on : (during : List Line) (a : Acting) → is_sweeping a.policy.activity ≡ true → StaysAbout is_sweeping during a
      → is_sweeping (after_lines during a).policy.activity ≡ true
  sweeps_on [] a sweeps about = sweeps
  sweeps_on (line ∷ during) a sweeps about = sweeps_on during (after_line line a) about.0 about.1

  pub its_whole : (lines : List Line) (a : Acting) → Goes time lines a → SweepsAreWhole lines a
  its_whole lines a g before begins during ends after are begun about idle =
      let b = after_lines before a in
      let here = later before (begins ∷ (during ++ ends ∷ after)) a (subst (λ (ls : List Line). Goes time ls a) are g) in
      let c = after_line begins b in
      let there = later during (ends ∷ after) c here.1 in
      there.0.whole (sweeps_on during c (begun_sweeps begins b begun) about) idle
    where
      and_second : (x y : Bool) → (x && y) ≡ true → y ≡ true
      and_second true y e = e
      and_second false y e = absurd (cc)

      begun_sweeps : (line : Line) (b : Acting) → begins_sweep line b ≡ true → is_sweeping (after_line line b).policy.activity ≡ true
      begun_sweeps line b e = and_second (not (is_sweeping b.policy.activity)) (is_sweeping (after_line line b).policy.activity) e

-- lines by which it does not begin a sweep ------------------------------------------------------------------------------------------

module _ (line : Line) (a : Acting) where
  -- what is computed of it, if it has a request left
  pub record IsBusy : Type 0 where
    pub prompt : IsBy 0 line.0 (wake_of a)
    pub no_word : IsNoWord line.1 a
    pub no_control : control_in line.1 ≡ 0
    pub few : next_in (after_line line a).manager.sweep ≡ 3
    pub busy : is_idle (before_deciding line a).window ≡ false

  pub busy_good : IsNoLeave line.1 → IsBusy → GoodLine line a
  busy_good stays b =
      record {
        prompt = b.prompt;
        stays = stays;
        alone = record { no_word = b.no_word; left = λ e idle. absurd (both_ways _ b.busy idle) };
        little = record {
          no_control = b.no_control;
          few = let few = b.few in omega (arith, few);
          numbers = λ idle. absurd (both_ways _ b.busy idle);
          plan = λ idle. absurd (both_ways _ b.busy idle);
        };
        whole = λ e idle. absurd (both_ways _ b.busy idle);
        free = λ idle. absurd (both_ways _ b.busy idle);
        ends = λ idle. absurd (both_ways _ b.busy idle);
      }

  -- what is computed of it, if its sweep is over
  pub record IsOver : Type 0 where
    pub prompt : IsBy 0 line.0 (wake_of a)
    pub no_word : IsNoWord line.1 a
    pub no_control : control_in line.1 ≡ 0
    pub awake : is_resting a.policy.activity ≡ false
    pub whole : is_whole (before_deciding line a).manager ≡ true
    pub not_writing : is_writing (before_deciding line a).policy.activity ≡ false

  -- and of what it writes then
  pub record IsRoomy (g lid count : ℕ) : Type 0 where
    pub counter : (before_deciding line a).manager.counter + sets_to_come (before_deciding line a).manager ≡ count
    pub cells : most_steps (cells_at g (tells g lid)) ≡ 49156

  pub over_good : (g lid count : ℕ) → count ≤ 2 → IsNoLeave line.1 → IsOver → HasSwept g lid (before_deciding line a).manager → IsRoomy g lid count
      → next_in (after_line line a).manager.sweep ≡ 3
      → (is_writing (after_line line a).policy.activity ≡ true → length (planned_steps (before_deciding line a).manager) ≤ 1) → GoodLine line a
  over_good g lid count small stays o swept r next plan =
      record {
        prompt = o.prompt;
        stays = stays;
        alone = record { no_word = o.no_word; left = λ e idle. absurd (both_ways _ o.awake e) };
        little = record {
          no_control = o.no_control;
          few = omega (arith, next);
          numbers = λ idle. (let counter = r.counter in omega (arith, counter, small));
          plan = λ idle writes. plan writes;
        };
        whole = λ e idle. o.whole;
        free = λ idle sweeps. room;
        ends = λ idle writes. absurd (both_ways _ o.not_writing writes);
      }
    where
      m : Manager
      m = (before_deciding line a).manager

      room : HasRoom m
      room =
          let counter = r.counter in
          let cells : most_steps (cells_of m.store) ≡ 49156 = ap most_steps (known g lid m swept) ∙ r.cells in
          record {
            lids = (λ i. plan_fault (swept.planning_is i).lmc (known g lid m swept i)) ∙ swept.has_plan;
            numbers = omega (arith, small, counter, cells);
          }

-- a sweep begins ---------------------------------------------------------------------------------------------------------------------

module _ (time g : ℕ) (a : Acting) where
  -- what is computed of it when its sweep has begun
  pub record Begins : Type 0 where
    pub prompt : IsBy 0 time (wake_of a)
    pub few : next_in (swept_on time g a).manager.sweep ≡ 2
    pub quiet : is_writing (swept_on time g a).policy.activity ≡ false
    pub at : (swept_on time g a).time ≡ time

module _ (time g : ℕ) (a : Acting) (h : IsToBegin time g a) where
  pub begins_good : a.manager.counter + sets_to_come a.manager ≤ 2 → Begins time g a → GoodLine (time, Told.Time) a
  begins_good counter b =
      record {
        prompt = b.prompt;
        stays = tt;
        alone = record {
          no_word = tt;
          left = λ e k spent. none_not (begin_fault (floor_raised (before_deciding (time, Told.Time) a)).manager) unrefused spent;
        };
        little = record {
          no_control = refl;
          few = subst (λ (c : Acting). next_in c.manager.sweep ≤ 3) (sym (begun time g a h)) (let few = b.few in omega (arith, few));
          numbers = λ idle.
              subst (λ (c : Acting). c.manager.counter + sets_to_come c.manager ≤ 2 ^ 32) (sym h.before)
              (omega (arith, counter));
          plan = λ idle writes.
              absurd (both_ways _ (ap (λ (c : Acting). is_writing c.policy.activity) (begun time g a h) ∙ b.quiet) writes);
        };
        whole = λ e idle. absurd (both_ways _ (ap is_sweeping h.rests) e);
        free = λ idle e.
            absurd (both_ways _ (ap (λ (c : Acting). is_sweeping c.policy.activity) h.before ∙ ap is_sweeping h.rests) e);
        ends = λ idle e.
            absurd (both_ways _ (ap (λ (c : Acting). is_writing c.policy.activity) h.before ∙ ap is_writing h.rests) e);
      }
    where
      none_not : (o : Option ManagerFault) → o ≡ None → o ≡ Some GenerationsSpent → ⊥
      none_not None e f = absurd (cc)
      none_not (Some fault) e f = absurd (cc)

      unrefused : begin_fault (floor_raised (before_deciding (time, Told.Time) a)).manager ≡ None
      unrefused =
          subst (λ (c : Acting). begin_fault (floor_raised c).manager ≡ None) (sym h.before)
          (ap (λ n. begin_fault (record a.manager { store = raised a.manager.store n })) h.next
          ∙ ap (λ (f : Facts). begin_fault (record a.manager { store = f })) h.forgotten ∙ may_begin time g a h)

  pub goes_on : (end : ℕ) (lines : List Line) → a.manager.counter + sets_to_come a.manager ≤ 2 → Begins time g a → Goes end lines (swept_on time g a)
      → Goes end ((time, Told.Time) ∷ lines) a
  goes_on end lines counter begins goes =
      (begins_good counter begins, subst (Goes end lines) (sym (begun time g a h)) goes)
