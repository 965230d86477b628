-- The phases are those of the store's plan, over the last sweep.
use Rattle.std.proofs.Common.{◌≡◌, List, Result, Ok, false, sym, ap, ◌∙◌, subst}
use Rattle.std.proofs.lemmas.Result.{err_from_is_err_and}
use Rattle.std.specs.Prelude.{IfOk}
use Rattle.plan_steps.specs.Plan.{plan_of}
use Rattle.fact_store.specs.View.{cells_of}
use Rattle.plan_steps.specs.Phase.{Phase, phases_of}
use Rattle.plan_steps.specs.PlannedTree.{planned_tree}
use Rattle.sm_manager.specs.Manager.{Manager, Writing}
use Rattle.sm_manager.specs.Writing.{without_empty_phases, phases_by}
use Rattle.sm_manager.specs.PlanFaults.{plan_fault}
use Rattle.sm_manager.proofs.Begun.{fault_first, fault_of_plan}
use Rattle.sm_manager.proofs.manager.Manager.planned.Goals as goal

-- what is so of all that is found is so of this
found_is : {T F : Type 0} (r : Result T F) (x : T) (P : T → Type 0) → r ≡ Ok x → IfOk r P → P x
found_is r x P e all = subst (λ (it : Result _ _). IfOk it P) e all

begins : List Phase → Writing
begins phases = record { later = without_empty_phases phases; has_failed = false }

pub returns-clause-writing : goal.returns-clause-writing
unfolding begins
returns-clause-writing c =
    let m = c.args.self.now in
    let store : c.self.inside.store ≡ m.store = ap (λ (x : Manager). x.store) c.self.view_is in
    let guid : c.self.inside.standing.guid ≡ m.standing.guid = ap (λ (x : Manager). x.standing.guid) c.self.view_is in
    let port : c.self.inside.port ≡ m.port = ap (λ (x : Manager). x.port) c.self.view_is in
    let plan : c.in_ok-plan.plan ≡ plan_of m.planning.rule m.planning.lmc (cells_of m.store) =
    found_is c.plan.result c.in_ok-plan.plan (λ it. it
    ≡ plan_of m.planning.rule m.planning.lmc (cells_of m.store)) c.in_ok-plan.ensures.found c.plan.ensures.plan in
    let planning : c.self.inside.planning ≡ m.planning = ap (λ (x : Manager). x.planning) c.self.view_is in
    let tree : c.deref.result.now ≡ planned_tree m.planning (cells_of m.store) =
    c.deref.ensures.value ∙ c.in_ok-tree.ensures ∙ (λ i. planned_tree (planning i) (cells_of (store i))) in
    c.new.ensures
    ∙ ap begins
    (c.in_ok-phases.ensures
    ∙ (λ i. phases_of (plan i) (tree i) (cells_of (store i)) c.in_ok-sweep.sweep.now (guid i) (port i))
    ∙ ap (phases_by m) (sym c.in_ok-sweep.ensures.sweep))

pub returns-in_err-sweep-clause-judged : goal.returns-in_err-sweep-clause-judged
returns-in_err-sweep-clause-judged c =
    let q = err_from_is_err_and c.from_residual.result c.from_residual.ensures.1 in
    rw (q.1, q.2) (fault_first c.args.self.now c.in_err-sweep.field-0.0 c.in_err-sweep.ensures.judged)

pub returns-in_err-plan-clause-judged : goal.returns-in_err-plan-clause-judged
returns-in_err-plan-clause-judged c =
    let m = c.args.self.now in
    let q = err_from_is_err_and c.from_residual-in_err-plan.result c.from_residual-in_err-plan.ensures.1 in
    let planned = fault_of_plan _ m c.most_steps.result c.has_numbers-are_numbers.result c.self.view_is c.most_steps.ensures
    c.has_numbers-are_numbers.ensures.enough c.in_ok-sweep.ensures.judged in
    rw (q.1, q.2, ← planned) (c.in_err-plan.ensures.judged (plan_fault m.planning.lmc (cells_of m.store)) c.plan.ensures.judged)

pub returns-in_err-phases-clause-judged : goal.returns-in_err-phases-clause-judged
returns-in_err-phases-clause-judged c =
    let m = c.args.self.now in
    let q = err_from_is_err_and c.from_residual-in_err-phases.result c.from_residual-in_err-phases.ensures.1 in
    let planned = fault_of_plan _ m c.most_steps.result c.has_numbers-are_numbers.result c.self.view_is c.most_steps.ensures
    c.has_numbers-are_numbers.ensures.enough c.in_ok-sweep.ensures.judged in
    rw (q.1, q.2) (sym planned ∙ c.in_ok-plan.ensures.judged (plan_fault m.planning.lmc (cells_of m.store)) c.plan.ensures.judged)

pub returns-clause-judged : goal.returns-clause-judged
returns-clause-judged c =
    let m = c.args.self.now in
    let planned = fault_of_plan _ m c.most_steps.result c.has_numbers-are_numbers.result c.self.view_is c.most_steps.ensures
    c.has_numbers-are_numbers.ensures.enough c.in_ok-sweep.ensures.judged in
    sym planned ∙ c.in_ok-plan.ensures.judged (plan_fault m.planning.lmc (cells_of m.store)) c.plan.ensures.judged
