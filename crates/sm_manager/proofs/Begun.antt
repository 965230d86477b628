-- If a writing may begin, there are numbers for its first phase.
use Rattle.std.proofs.Common.{◌≡◌, ◌≤◌, ◌+◌, ◌-◌, ◌^◌, ℕ, Bool, true, false, cond, List, [], ◌∷◌, length, refl, sym, ap, ◌∙◌, arith}
use Rattle.std.proofs.lemmas.Bool.Decides.{nat_tests}
use Rattle.std.specs.Prelude.{Option, Some, None, min, not, nat_le, ◌==◌, if◌then◌else◌}
use Rattle.std.specs.List.{AllByRecursion}
use Rattle.fact_store.specs.View.{cells_of}
use Rattle.lid_assign.specs.declared.lid_fault.NoRoom.{NoRoom}
use Rattle.lid_assign.specs.LidFault.{no_room}
use Rattle.lid_assign.specs.Lids.{IsNoRoom, is_no_room}
use Rattle.plan_steps.specs.Bound.{most_steps}
use Rattle.plan_steps.specs.LidSteps.{own_lid}
use Rattle.plan_steps.specs.Phase.{Phase}
use Rattle.plan_steps.proofs.Bounds.{phase_bound_law}
use Rattle.plan_steps.proofs.Trees.{planned_tree_fits}
use Rattle.plan_steps.specs.PlannedTree.{planned_tree}
use Rattle.plan_steps.specs.Plan.{plan_of}
use Rattle.request_table.proofs.Indices.{some_is}
use Rattle.sm_state.specs.declared.state.SmState.TheVariants.{Master}
use Rattle.sm_state.specs.Standing.{is_in}
use Rattle.sweep.specs.Sweep.{Sweep, is_done}
use Rattle.sm_manager.specs.declared.fault.ManagerFault.{ManagerFault}
use Rattle.sm_manager.specs.declared.fault.ManagerFault.TheVariants.{NotMaster, SweepRunning, WritingRunning}
use Rattle.sm_manager.specs.Fault.{is_memory}
use Rattle.sm_manager.specs.Manager.{Manager}
use Rattle.sm_manager.specs.ManagerRequests.{no_step_waits}
use Rattle.sm_manager.specs.PlanFaults.{number_fault, or_else, plan_fault, room_fault, unless_numbers, writing_fault}
use Rattle.sm_manager.specs.Writing.{next_phase, without_empty_phases, phases_by, write_fault, write_fault_with}
use Rattle.sm_manager.proofs.Over.{numbers_there}

pub or_none : (a b : Option ManagerFault) → or_else a b ≡ None → (a ≡ None) × (b ≡ None)
or_none None b e = (refl, e)
or_none (Some x) b e = absurd (cc)

pub room_there : (lmc : ℕ) (m : Manager) → plan_fault lmc (cells_of m.store) ≡ None → ¬ (IsNoRoom lmc (cells_of m.store))
room_there lmc m h none = absurd (cc (sym none ∙ no_room_there (is_no_room lmc (cells_of m.store)) _ (no_why (no_room lmc (cells_of m.store)) h)))
  where
    no_why : (why : Option NoRoom) → room_fault why ≡ None → why ≡ None
    no_why None h = refl
    no_why (Some why) h = absurd (cc)

    no_room_there : (b : Bool) (why : NoRoom) → cond b (Some why) None ≡ None → b ≡ false
    no_room_there true why h = absurd (cc)
    no_room_there false why h = refl

-- numbers are lacking exactly if `n` + `most` is over 2^32, also if `most` does not fit 64 bits
pub unless_so_many : (n most : ℕ) → unless_numbers (nat_le (n + min most (2 ^ 64 - 1)) (2 ^ 32)) ≡ number_fault (n + most)
unless_so_many n most = grind (arith, nat_tests)

-- if nothing forbids a writing, it is refused if its plan is, or if numbers are lacking
pub fault_of_plan : (before m : Manager) (count : ℕ) (are_numbers : Bool) → before ≡ m → count ≡ min (most_steps (cells_of before.store)) (2 ^ 64 - 1)
    → are_numbers ≡ nat_le (before.counter + count) (2 ^ 32) → write_fault m ≡ None
    → or_else (plan_fault m.planning.lmc (cells_of m.store)) (unless_numbers are_numbers) ≡ writing_fault m
fault_of_plan before m count are_numbers same most enough may =
    let plan = plan_fault m.planning.lmc (cells_of m.store) in
    let most_then = λ (x : Manager). min (most_steps (cells_of x.store)) (2 ^ 64 - 1) in
    let needed : before.counter + count ≡ m.counter + most_then m = (λ i. before.counter + most i) ∙ ap (λ (x : Manager). x.counter + most_then x) same in
    ap (λ (b : Bool). or_else plan (unless_numbers b)) (enough ∙ ap (λ n. nat_le n (2 ^ 32)) needed)
    ∙ ap (or_else plan) (unless_so_many m.counter (most_steps (cells_of m.store)))
    ∙ sym (ap (λ w. or_else w (or_else plan (number_fault (m.counter + most_steps (cells_of m.store))))) may)

-- what forbids a writing is no want of memory
pub fault_first : (m : Manager) (why : ManagerFault) → write_fault m ≡ Some why → writing_fault m ≡ (if is_memory why then None else Some why)
fault_first m why e =
    by_sweep m.sweep (or_else (plan_fault m.planning.lmc (cells_of m.store)) (number_fault (m.counter + most_steps (cells_of m.store)))) e
  where
    first : (a : ManagerFault) (rest : Option ManagerFault) → is_memory a ≡ false → Some a ≡ Some why
        → or_else (Some a) rest ≡ cond (is_memory why) None (Some why)
    first a rest other same =
        ap (λ b. cond b None (Some a)) (sym other) ∙ ap (λ (x : ManagerFault). cond (is_memory x) None (Some x)) (some_is a why same)

    by_tests : (a b c : Bool) (rest : Option ManagerFault)
        → cond a (Some NotMaster) (cond b (Some SweepRunning) (cond c (Some WritingRunning) None)) ≡ Some why
        → or_else (cond a (Some NotMaster) (cond b (Some SweepRunning) (cond c (Some WritingRunning) None))) rest
        ≡ cond (is_memory why) None (Some why)
    by_tests true b c rest same = first NotMaster rest refl same
    by_tests false true c rest same = first SweepRunning rest refl same
    by_tests false false true rest same = first WritingRunning rest refl same
    by_tests false false false rest same = absurd (cc)

    by_sweep : (o : Option Sweep) (rest : Option ManagerFault) → write_fault_with m o ≡ Some why
        → or_else (write_fault_with m o) rest ≡ cond (is_memory why) None (Some why)
    by_sweep None rest same = first NotMaster rest refl same
    by_sweep (Some s) rest same = by_tests (not (is_in Master m.standing)) (not (is_done s)) (not (no_step_waits m.pending)) rest same

-- what may begin: nothing forbids it, there are numbers, and there is room
pub record MayBegin (m : Manager) : Type 0 where
  pub may : write_fault m ≡ None
  pub numbers : m.counter + most_steps (cells_of m.store) ≤ 2 ^ 32
  pub has_room : ¬ (IsNoRoom m.planning.lmc (cells_of m.store))

pub may_begin : (m : Manager) → writing_fault m ≡ None → MayBegin m
may_begin m e =
    let outer = or_none (write_fault m) (or_else (plan_fault m.planning.lmc (cells_of m.store)) (number_fault (m.counter + most_steps (cells_of m.store)))) e in
    let inner = or_none (plan_fault m.planning.lmc (cells_of m.store)) (number_fault (m.counter + most_steps (cells_of m.store))) outer.1 in
    record {
      may = outer.0;
      numbers = numbers_there (m.counter + most_steps (cells_of m.store)) inner.1;
      has_room = room_there m.planning.lmc m inner.0;
    }

first_at_most : (most : ℕ) (phases : List Phase) → AllByRecursion (λ (p : Phase). length p.steps ≤ most) phases
    → length (next_phase (without_empty_phases phases)).steps ≤ most
first_at_most most [] all = omega arith
first_at_most most (p ∷ phases) all = by_test (length p.steps == 0) (first_at_most most phases all.1)
  where
    by_test : (b : Bool) → length (next_phase (without_empty_phases phases)).steps ≤ most
        → length (next_phase (cond b (without_empty_phases phases) (p ∷ phases))).steps ≤ most
    by_test true rest = rest
    by_test false rest = all.0

-- so there are as many as the first phase has steps
pub first_phase_fits : (m : Manager) → writing_fault m ≡ None → m.counter + length (next_phase (without_empty_phases (phases_by m m.sweep))).steps ≤ 2 ^ 32
first_phase_fits m e =
    let may = may_begin m e in
    let few = by_sweep m.sweep may.has_room in
    let numbers = may.numbers in
    omega (arith, few, numbers)
  where
    by_sweep : (o : Option Sweep) → ¬ (IsNoRoom m.planning.lmc (cells_of m.store))
        → length (next_phase (without_empty_phases (phases_by m o))).steps ≤ most_steps (cells_of m.store)
    by_sweep None has_room = omega arith
    by_sweep (Some s) has_room =
        let cells = cells_of m.store in
        first_at_most (most_steps cells) (phases_by m (Some s))
        (phase_bound_law m.planning.rule m.planning.lmc m.store s
        (own_lid cells (plan_of m.planning.rule m.planning.lmc cells).given.ports m.standing.guid m.port) has_room
        (planned_tree m.planning cells) (planned_tree_fits m.planning cells))
