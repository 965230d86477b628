-- What is so of a manager that is alone, through lines that come in time.
use Rattle.std.proofs.Common.{◌≡◌, ◌≢◌, ◌∙◌, ℕ, ◌+◌, ◌-◌, ◌<◌, ◌≤◌, ◌^◌, Bool, true, false, cond, List, [], ◌∷◌, ◌++◌, refl, ap, subst, arith}
use Rattle.std.specs.Prelude.{◌==◌, Some, None, max}
use Rattle.sm_manager.specs.Manager.{Manager, begin_fault, is_running, newest_held}
use Rattle.sm_manager.specs.declared.fault.ManagerFault.TheVariants.{GenerationsSpent, SweepRunning}
use Rattle.sm_policy.specs.PolicyLaws.{longest_wait}
use Rattle.sm_policy.specs.declared.activity.Activity.TheVariants as activity
use Rattle.sm_policy.specs.declared.timing.Timing.{Timing}
use Rattle.request_window.specs.declared.limits.Limits.{Limits}
use Rattle.acting_manager.specs.Acting.{Acting}
use Rattle.acting_manager.specs.Acts.{floor_raised}
use Rattle.acting_manager.specs.Working.{is_idle, is_resting, pause}
use Rattle.program_laws.specs.Alone.{HearsNobody, IsNoWord}
use Rattle.program_laws.specs.NextSweep.{HasFewTurns}
use Rattle.program_laws.specs.Wakes.{ArePrompt, AtEachLine, Line, NoneLeaves, after_line, after_lines, before_deciding}
use Rattle.program_laws.proofs.alone.Hearing.{is_awake}
use Rattle.program_laws.proofs.alone.InfoOnly.{InfoOnly, lived_info}
use Rattle.program_laws.proofs.alone.Needs.{IsRest}
use Rattle.program_laws.proofs.alone.Polls.{polls_soon}
use Rattle.program_laws.proofs.alone.Quiet.{IsAwake}
use Rattle.program_laws.proofs.alone.Steady.{AtRest, IsResting}
use Rattle.program_laws.proofs.lasting.Answered.{none_both}
use Rattle.program_laws.proofs.lasting.Standing.{is_sound}
use Rattle.program_laws.proofs.wakes.AtSeats.{lines_both}
use Rattle.program_laws.proofs.wakes.Awaited.{sweeps_lose_nothing}
use Rattle.program_laws.proofs.wakes.DueTimes.{IsDueSoon, first_soon}
use Rattle.program_laws.proofs.wakes.FreshWork.{GoesOn, goes_first, goes_later}
use Rattle.program_laws.proofs.wakes.InTime.{a_line_soon, has_soon}
use Rattle.program_laws.proofs.wakes.News.{has_news, times_rise}
use Rattle.program_laws.proofs.wakes.NextSweep.{few_later, has_more, none_first, prompt_later, same_limits}
use Rattle.program_laws.proofs.wakes.Lines.{so_later}

pub record IsCalm (n late : ℕ) (timing : Timing) (limits : Limits) (lines : List Line) (a : Acting) : Type 0 where
  pub goes : GoesOn a lines
  pub generations : goes.decided.newest < 2 ^ 32
  pub none_left : NoneLeaves goes.decided.lines
  pub timing_is : goes.decided.timing ≡ timing
  pub limits_is : a.window.limits ≡ limits
  pub alone : AtEachLine HearsNobody lines a
  pub few : HasFewTurns n lines a
  pub prompt : ArePrompt late lines a
  pub time : (after_lines lines a).time < 2 ^ 64
  pub short : late ≤ pause

module _ (n late : ℕ) (timing : Timing) (limits : Limits) where
  abbrev Calm : List Line → Acting → Type 0
  Calm lines a = IsCalm n late timing limits lines a

  pub calm_later : (some rest : List Line) (a : Acting) → Calm (some ++ rest) a → Calm rest (after_lines some a)
  calm_later some rest a c =
      record {
        goes =
            let later = goes_later some rest a c.goes in
            record {
              decided = has_more a some (after_lines some a) refl c.goes.decided;
              tries = later.tries;
              outstanding = later.outstanding;
              stays_on = later.stays_on;
              none_leaves = later.none_leaves;
            };
        generations = c.generations;
        none_left = none_both c.goes.decided.lines some c.none_left (none_first some rest c.goes.none_leaves);
        timing_is = c.timing_is;
        limits_is = same_limits some a c.goes.decided ∙ c.limits_is;
        alone = so_later HearsNobody some rest a c.alone;
        few = few_later n some rest a c.few;
        prompt = prompt_later late some rest a c.prompt;
        time = subst (λ (b : Acting). b.time < 2 ^ 64) (lines_both some rest a) c.time;
        short = c.short;
      }

  pub calm_line : (line : Line) (rest : List Line) (a : Acting) → Calm (line ∷ rest) a → Calm rest (after_line line a)
  calm_line line rest a = calm_later (line ∷ []) rest a

  pub later_time : (lines : List Line) (a : Acting) → Calm lines a → a.time ≤ (after_lines lines a).time
  later_time lines a c = times_rise a.window.limits lines a (has_soon a c.goes.decided)

  pub line_time : (line : Line) (rest : List Line) (a : Acting) → Calm (line ∷ rest) a → (after_line line a).time ≡ max line.0 a.time
  line_time line rest a c = (a_line_soon a.window.limits line a (has_soon a c.goes.decided)).time

  -- what is so of the first line
  pub line_goes : (line : Line) (rest : List Line) (a : Acting) → Calm (line ∷ rest) a → GoesOn a (line ∷ [])
  line_goes line rest a c = goes_first (line ∷ []) rest a c.goes

  pub line_awake : (line : Line) (rest : List Line) (a : Acting) → Calm (line ∷ rest) a → IsAwake line a
  line_awake line rest a c =
      let then = later_time rest (after_line line a) (calm_line line rest a c) in
      let now = line_time line rest a c in
      let end = c.time in
      is_awake late line a c.short c.prompt.0 (omega (arith, then, now, end))

  pub line_quiet : (line : Line) (rest : List Line) (a : Acting) → Calm (line ∷ rest) a → IsNoWord line.1 a
  line_quiet line rest a c = c.alone.0.no_word

  pub info_is : (lines : List Line) (a : Acting) → Calm lines a → InfoOnly a.manager
  info_is lines a c = lived_info a.manager (is_sound a c.goes.decided).lived

  -- where the manager decides, no sweep runs
  pub over_then : (line : Line) (rest : List Line) (a : Acting) → Calm (line ∷ rest) a → is_idle (before_deciding line a).window ≡ true
      → is_running (before_deciding line a).manager.sweep ≡ false
  over_then line rest a c idle = sweeps_lose_nothing a line c.goes.decided c.generations c.none_left c.goes.none_leaves.0 idle

  -- and where it rests, a sweep may begin
  pub may_begin : (line : Line) (rest : List Line) (a : Acting) → Calm (line ∷ rest) a → is_resting a.policy.activity ≡ true
      → is_idle (before_deciding line a).window ≡ true → begin_fault (floor_raised (before_deciding line a)).manager ≡ None
  may_begin line rest a c rests idle =
      by (is_running m.sweep) (over_then line rest a c idle) (newest_held m.store == 2 ^ 32 - 1) (c.alone.0.left rests idle)
    where
      m : Manager
      m = (floor_raised (before_deciding line a)).manager

      by : (runs : Bool) → runs ≡ false → (spent : Bool) → cond runs (Some SweepRunning) (cond spent (Some GenerationsSpent) None) ≢ Some GenerationsSpent
          → cond runs (Some SweepRunning) (cond spent (Some GenerationsSpent) None) ≡ None
      by true e spent left = absurd (cc)
      by false e true left = absurd (left refl)
      by false e false left = refl

  pub soon_is : (lines : List Line) (a : Acting) → Calm lines a → a.policy.activity ≡ activity.Rests → IsDueSoon (a.time + longest_wait timing) a.policy
  soon_is lines a c rests =
      let then = later_time lines a c in
      let end = c.time in
      let due = first_soon c.goes.decided.timing a (has_news a c.goes.decided (omega (arith, then, end))) rests in
      let same = ap longest_wait c.timing_is in
      record {
        rests = rests;
        earliest = let s = due.earliest in omega (arith, s, same);
        wanted = let s = due.wanted in omega (arith, s, same);
        regular = λ master wanted. let s = due.regular master wanted in omega (arith, s, same);
      }

  pub next_is : (lines : List Line) (a : Acting) → Calm lines a → a.policy.next_poll ≤ a.time + longest_wait timing
  next_is lines a c =
      let then = later_time lines a c in
      let end = c.time in
      let soon = polls_soon c.goes.decided.timing a (has_news a c.goes.decided (omega (arith, then, end))) in
      let same = ap longest_wait c.timing_is in
      omega (arith, soon, same)

  pub rest_by : (k by last : ℕ) (a : Acting) → IsRest k by a.manager a.policy → a.policy.next_poll ≤ last → IsRest k last a.manager a.policy
  rest_by k by last a r next = record { info = r.info; idle = r.idle; active = r.active; few = r.few; poll = λ e. ((r.poll e).0, next) }

  -- what is next is due in its longest wait
  pub at_rest : (k : ℕ) (lines : List Line) (a : Acting) → Calm lines a → IsResting k a → AtRest k (a.time + longest_wait timing) a
  at_rest k lines a c r =
      record {
        soon = soon_is lines a c r.about;
        idle = r.idle;
        state = rest_by k a.policy.next_poll (a.time + longest_wait timing) a r.state (next_is lines a c);
        knows = r.knows;
        time = omega arith;
      }
