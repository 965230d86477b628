-- From the beginning of a writing on: what is asked, and how many steps end.
use Rattle.std.proofs.Common.{◌≡◌, ◌≤◌, ◌+◌, ◌*◌, ℕ, suc, Bool, true, false, cond, List, [], ◌∷◌, ◌++◌, length, refl}
use Rattle.std.proofs.Common.{sym, ap, ◌∙◌, subst, arith}
use Rattle.std.proofs.lemmas.Bool.{cond-true, eqb-true}
use Rattle.std.proofs.lemmas.List.{length-append}
use Rattle.std.specs.Prelude.{None, Option, Some, is_none, not}
use Rattle.std.specs.List.{AllByRecursion}
use Rattle.fact_store.specs.View.{cells_of}
use Rattle.plan_steps.specs.Bound.{most_steps}
use Rattle.plan_steps.specs.LidSteps.{own_lid}
use Rattle.plan_steps.specs.Phase.{Phase}
use Rattle.plan_steps.specs.Plan.{plan_of}
use Rattle.plan_steps.specs.declared.step.Step.{Step}
use Rattle.plan_steps.specs.PlannedTree.{planned_tree}
use Rattle.plan_steps.proofs.Bounds.{phase_bound_law}
use Rattle.plan_steps.proofs.Trees.{planned_tree_fits}
use Rattle.sweep.specs.Sweep.{Sweep, is_done}
use Rattle.sm_state.specs.Standing.{is_in}
use Rattle.sm_state.specs.declared.state.SmState.TheVariants.{Master}
use Rattle.sm_manager.specs.declared.fault.ManagerFault.{ManagerFault}
use Rattle.sm_manager.specs.declared.fault.ManagerFault.TheVariants.{NotMaster, SweepRunning, WritingRunning}
use Rattle.sm_manager.specs.declared.outgoing.Outgoing.{Outgoing}
use Rattle.sm_manager.specs.declared.pending.Pending.{Pending}
use Rattle.sm_manager.specs.StepsAnswered.{BeginNone}
use Rattle.sm_manager.specs.CallLists.{Call, WriteSteps, after_call, after_calls}
use Rattle.sm_manager.specs.Manager.{Manager, Writing}
use Rattle.sm_manager.specs.ManagerRequests.{how_many, is_step, no_step_waits}
use Rattle.sm_manager.specs.PlanFaults.{writing_fault}
use Rattle.sm_manager.specs.Writing.{numbered, phases_by, steps_out, write_fault, write_fault_with, after_write_steps}
use Rattle.sm_manager.proofs.Begun.{may_begin}
use Rattle.sm_manager.proofs.CountedSteps.{Rising, passed_starts}
use Rattle.manager_laws.specs.WritingEnds.{AreFirst, HasLived, asked_by, ended_by, planned_steps, sets_queued}
use Rattle.manager_laws.specs.WritingEnds.{sets_since, steps_asked, steps_ended, steps_of}
use Rattle.manager_laws.proofs.writing_ends.Attributes.{AreOthers, plan_other}
use Rattle.manager_laws.proofs.writing_ends.Turns.{Goes, Running, begun_turn, call_goes, first_writing, passed_steps, phase_goes}
use Rattle.manager_laws.proofs.writing_ends.Turns.{out_long, turn, turn_rises}

-- numbers rise through a life ---------------------------------------------------------------------------------

calls_rise : (calls : List Call) (m : Manager) → Rising m.counter m.pending
    → Rising (after_calls calls m).counter (after_calls calls m).pending
calls_rise [] m rising = rising
calls_rise (call ∷ calls) m rising =
    calls_rise calls (after_call m call) (turn_rises m call (after_call m call) (turn m call) rising)

pub life_rises : (m : Manager) → HasLived m → Rising m.counter m.pending
life_rises m life = subst (λ (x : Manager). Rising x.counter x.pending) life.are (calls_rise life.calls _ (omega arith))

-- the beginning -------------------------------------------------------------------------------------------------

-- the whole plan, as a writing of which nothing was sent
abbrev pub whole : Manager → Writing
whole m = record { later = phases_by m m.sweep; has_failed = false }

none_waits : (m : Manager) → write_fault m ≡ None → no_step_waits m.pending ≡ true
none_waits m e = by_sweep m.sweep e
  where
    third : (a b c : Bool) (u v w : ManagerFault)
        → cond a (Some u) (cond b (Some v) (cond (not c) (Some w) None)) ≡ None → c ≡ true
    third true b c u v w h = absurd (cc)
    third false true c u v w h = absurd (cc)
    third false false true u v w h = refl
    third false false false u v w h = absurd (cc)

    by_sweep : (o : Option Sweep) → write_fault_with m o ≡ None → no_step_waits m.pending ≡ true
    by_sweep None h = absurd (cc)
    by_sweep (Some s) h =
        third (not (is_in Master m.standing)) (not (is_done s))
        (no_step_waits m.pending) NotMaster SweepRunning WritingRunning h

module _ (m : Manager) (rising : Rising m.counter m.pending) (may : writing_fault m ≡ None) where
  pub no_step_before : how_many is_step m.pending ≡ 0
  no_step_before = eqb-true (how_many is_step m.pending) 0 (none_waits m (may_begin m may).may)

  pub begun_goes : Goes (whole m) m (after_call m WriteSteps)
  unfolding begun_turn
  begun_goes =
      subst (Goes (whole m) m) (sym (cond-true (is_none (writing_fault m)) (after_write_steps m) m (ap is_none may)))
      (phase_goes m WriteSteps m (first_writing m) (begun_turn m WriteSteps) rising refl refl refl
      (passed_starts (phases_by m m.sweep)) (subst AreOthers (sym (passed_steps (phases_by m m.sweep))) (plan_other m))
      (planned_steps m) (passed_steps (phases_by m m.sweep)) (whole m) refl)

-- the plan's steps: so many for each phase
abbrev room_for : ℕ → List Phase → ℕ
room_for most [] = 0
room_for most (p ∷ phases) = most + room_for most phases

long : (most : ℕ) (phases : List Phase) → AllByRecursion (λ (p : Phase). length p.steps ≤ most) phases
    → length (steps_of phases) ≤ room_for most phases
long most [] all = omega arith
long most (p ∷ phases) all =
    let rest = long most phases all.1 in
    let first = all.0 in
    let both = length-append p.steps (steps_of phases) in
    omega (arith, first, rest, both)

seven : (most : ℕ) → most + (most + (most + (most + (most + (most + (most + 0)))))) ≡ 7 * most
seven most = omega arith

pub plan_bound : (m : Manager) → writing_fault m ≡ None → length (planned_steps m) ≤ 7 * most_steps (cells_of m.store)
plan_bound m may = by_sweep m.sweep
  where
    by_sweep : (o : Option Sweep) → length (steps_of (phases_by m o)) ≤ 7 * most_steps (cells_of m.store)
    by_sweep None = omega arith
    by_sweep (Some s) =
        let cells = cells_of m.store in
        let most_then =
        long (most_steps cells) (phases_by m (Some s)) (phase_bound_law m.planning.rule m.planning.lmc m.store s
        (own_lid cells (plan_of m.planning.rule m.planning.lmc cells).given.ports m.standing.guid m.port)
        (may_begin m may).has_room (planned_tree m.planning cells) (planned_tree_fits m.planning cells)) in
        let whole : room_for (most_steps cells) (phases_by m (Some s)) ≡ 7 * most_steps cells =
        seven (most_steps cells) in
        omega (arith, most_then, whole)

-- what is asked -------------------------------------------------------------------------------------------------

lower : (low least : ℕ) (asked : List Pending) (sets : List Outgoing) (steps : List Step) → low ≤ least
    → AreFirst least asked sets steps
    → AreFirst low asked sets steps
lower low least [] [] steps le first = tt
lower low least [] (out ∷ sets) steps le first = absurd first
lower low least (p ∷ asked) [] steps le first = absurd first
lower low least (p ∷ asked) (out ∷ sets) [] le first = absurd first
lower low least (p ∷ asked) (out ∷ sets) (s ∷ steps) le first =
    let high = first.3 in (first.0, first.1, first.2, omega (arith, le, high), first.4)

first_more : (least n then : ℕ) (c : Bool) (sent later : List Step) (rest : List Pending) (sets : List Outgoing)
    → least ≤ n → n + length sent ≤ then
    → AreFirst then rest sets later
    → AreFirst least (numbered c n sent ++ rest) (steps_out n sent ++ sets) (sent ++ later)
first_more least n then c [] later rest sets le most first =
    lower least then rest sets later (omega (arith, le, most)) first
first_more least n then c (s ∷ sent) later rest sets le most first = (
  c,
  refl,
  refl,
  le,
  first_more (n + 1) (suc n) then c sent later rest sets (omega arith)
      (omega (arith, most)) first,
)

pub first_few : (least : ℕ) (asked : List Pending) (sets : List Outgoing) (steps : List Step)
    → AreFirst least asked sets steps → length sets ≤ length steps
first_few least [] [] steps first = omega arith
first_few least [] (out ∷ sets) steps first = absurd first
first_few least (p ∷ asked) [] steps first = absurd first
first_few least (p ∷ asked) (out ∷ sets) [] first = absurd first
first_few least (p ∷ asked) (out ∷ sets) (s ∷ steps) first =
    let rest = first_few (p.number + 1) asked sets steps first.4 in omega (arith, rest)

goes_first : (w : Writing) (m : Manager) (call : Call) (rest : List Pending) (sets : List Outgoing)
    (g : Goes w m (after_call m call))
    → AreFirst (after_call m call).counter rest sets (steps_of g.going.later)
    → AreFirst m.counter (asked_by m call ++ rest) (sets_since m (after_call m call) ++ sets) (steps_of w.later)
goes_first w m call rest sets g first =
    subst (λ steps. AreFirst m.counter (asked_by m call ++ rest) (sets_since m (after_call m call) ++ sets) steps) g.all
    (subst (λ out. AreFirst m.counter (asked_by m call ++ rest) (out ++ sets) (g.sent ++ steps_of g.going.later))
    (sym g.queued)
    (subst (λ ps. AreFirst m.counter (ps ++ rest) (steps_out m.counter g.sent ++ sets)
    (g.sent ++ steps_of g.going.later)) (sym g.asked)
    (first_more m.counter m.counter (after_call m call).counter g.counts g.sent (steps_of g.going.later) rest sets
    (omega arith) g.upto first)))

asked_first : (calls : List Call) (w : Writing) (m : Manager) → Running w m → BeginNone calls m
    → AreFirst m.counter (steps_asked calls m) (sets_queued calls m) (steps_of w.later)
asked_first [] w m r none = tt
asked_first (call ∷ calls) w m r none =
    let g = call_goes w m r call none.0 in
    goes_first w m call (steps_asked calls (after_call m call)) (sets_queued calls (after_call m call)) g
    (asked_first calls g.going (after_call m call) g.running none.1)

pub all_first : (m : Manager) (after : List Call) → Rising m.counter m.pending → writing_fault m ≡ None
    → BeginNone after (after_call m WriteSteps)
    → AreFirst m.counter (steps_asked (WriteSteps ∷ after) m) (sets_queued (WriteSteps ∷ after) m) (planned_steps m)
all_first m after rising may none =
    let g = begun_goes m rising may in
    goes_first (whole m) m WriteSteps (steps_asked after (after_call m WriteSteps))
    (sets_queued after (after_call m WriteSteps)) g
    (asked_first after g.going (after_call m WriteSteps) g.running none)

-- what ends ------------------------------------------------------------------------------------------------------

-- how many steps of the writing wait or are still to come
abbrev pub left_of : Writing → Manager → ℕ
left_of w m = how_many is_step m.pending + length (steps_of w.later)

-- the writing after some calls, by which so many of its Sets were queued, and so many of its steps ended
pub record Later (queued steps ended total : ℕ) (m : Manager) : Type 0 where
  pub going : Writing
  pub running : Running going m
  pub sent : queued + length (steps_of going.later) ≡ steps
  pub sum : ended + left_of going m ≡ total

goes_later : (w : Writing) (m : Manager) (call : Call) (sets : List Outgoing) (ended : ℕ) (end : Manager)
    (g : Goes w m (after_call m call))
    → Later (length sets) (length (steps_of g.going.later)) ended (left_of g.going (after_call m call)) end
    → Later (length (sets_since m (after_call m call) ++ sets)) (length (steps_of w.later)) (ended_by m call + ended)
    (left_of w m) end
goes_later w m call sets ended end g later =
    record {
      going = later.going;
      running = later.running;
      sent =
          let more = length-append (sets_since m (after_call m call)) sets in
          let here = ap length g.queued ∙ out_long g.sent m.counter in
          let sent = later.sent in
          omega (arith, more, here, sent, long);
      sum =
          let many = g.many in
          let rest = later.sum in
          omega (arith, many, rest, long);
    }
  where
    long : length g.sent + length (steps_of g.going.later) ≡ length (steps_of w.later)
    long = sym (length-append g.sent (steps_of g.going.later)) ∙ ap length g.all

pub ended_later : (calls : List Call) (w : Writing) (m : Manager) → Running w m → BeginNone calls m
    → Later (length (sets_queued calls m)) (length (steps_of w.later)) (steps_ended calls m) (left_of w m)
    (after_calls calls m)
ended_later [] w m r none = record { going = w; running = r; sent = omega arith; sum = omega arith }
ended_later (call ∷ calls) w m r none =
    let g = call_goes w m r call none.0 in
    goes_later w m call (sets_queued calls (after_call m call)) (steps_ended calls (after_call m call))
    (after_calls calls (after_call m call)) g
    (ended_later calls g.going (after_call m call) g.running none.1)

pub all_later : (m : Manager) (after : List Call) → Rising m.counter m.pending → writing_fault m ≡ None
    → BeginNone after (after_call m WriteSteps)
    → Later (length (sets_queued (WriteSteps ∷ after) m)) (length (planned_steps m))
    (steps_ended (WriteSteps ∷ after) m) (length (planned_steps m)) (after_calls (WriteSteps ∷ after) m)
all_later m after rising may none =
    let g = begun_goes m rising may in
    let all =
    goes_later (whole m) m WriteSteps (sets_queued after (after_call m WriteSteps))
    (steps_ended after (after_call m WriteSteps)) (after_calls after (after_call m WriteSteps)) g
    (ended_later after g.going (after_call m WriteSteps) g.running none) in
    let nothing = no_step_before m rising may in
    let sum = all.sum in
    record { going = all.going; running = all.running; sent = all.sent; sum = omega (arith, sum, nothing) }
