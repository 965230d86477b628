-- All was made of the same facts and tables.
use Rattle.std.proofs.Common.{◌≡◌, ◌∙◌, ℕ, None, ap, refl, subst, sym}
use Rattle.std.specs.Io.KnownBytes.{Appends}
use Rattle.fact_store.specs.View.{Facts, cells_of}
use Rattle.lid_assign.specs.Lids.{Given}
use Rattle.lid_assign.specs.LidFault.{lid_fault, no_room}
use Rattle.lft_blocks.specs.Plan.{PlanValue, plan_of}
use Rattle.lft_blocks.specs.Rule.{RuleValue, value_of}
use Rattle.plan_order.specs.PlanOrder.{positions_by}
use Rattle.plan_tables.specs.PlanTables.{held_plan, planned}
use Rattle.sm_cli.specs.declared.fault.Fault.{Fault}
use Rattle.sm_cli.specs.declared.fault.Fault.TheVariants.{Memory}
use Rattle.sm_cli.proofs.HandedOn.{handed_on}
use Rattle.sm_cli.proofs.Plans.{has_room}
use Rattle.tables_file.specs.PrintedTables.{next_text}
use Rattle.next_tables.specs.NextTables.{first_moved}
use Rattle.next_run.specs.NextRun.{IsMade, IsSaid, StopsStep, fault_of_step, texts_before}
use Rattle.next_run.specs.StepOrderText.{items_of}
use Rattle.next_run.specs.StepLoops.{IsLoopInStep}
use Rattle.next_run.proofs.StepIs.{not_written, step_is, stops, stops_by, was_said}
use Rattle.next_run.proofs.next_run.step.Goals as goal

-- the plan of equal facts
plan_there : (lmc : ℕ) (rule : RuleValue) (own facts : Facts) (plan : PlanValue) → own ≡ facts → plan ≡ plan_of rule lmc (cells_of own)
    → plan ≡ plan_of rule lmc (cells_of facts)
plan_there lmc rule own facts plan is e = e ∙ ap (λ (x : Facts). plan_of rule lmc (cells_of x)) is

-- equal facts have room alike
judged_there : (lmc : ℕ) (own facts : Facts) → own ≡ facts → lid_fault (no_room lmc (cells_of own)) ≡ None → lid_fault (no_room lmc (cells_of facts)) ≡ None
judged_there lmc own facts is = subst (λ (x : Facts). lid_fault (no_room lmc (cells_of x)) ≡ None) is

pub returns-clause-done : goal.returns-clause-done
returns-clause-done g c =
    let rule = value_of c.args.rule.now in
    let asked = c.args.asked in
    let found = c.args.found.now in
    let store = found.read.store in
    let made = c.in-Ok.made in
    let last = items_of found.text in
    let Printed : Given → Type 0 = λ given. Appends (g.W.Sink.written c.args.sink.now) (g.W.Sink.written c.write_next.new.sink)
    (next_text given made.next) in
    let subnet_is = c.in_ok-planned.ensures.subnet in
    let own_is = c.in_ok-from.ensures.facts ∙ c.in_ok-wired.ensures in
    let facts_is = own_is ∙ subnet_is in
    let positions_are = c.deref.ensures.value ∙ c.in_ok-plan.ensures.positions ∙ ap (λ (x : Facts). positions_by rule (cells_of x)) (sym own_is) in
    let Made : Facts → Type 0 =
    λ x. IsMade rule last x c.in_ok-from.from.held (held_plan c.in_ok-plan.plan) made.next (items_of made.order) in
    let is_made = subst Made facts_is (c.in-Ok.ensures.made rule positions_are) in
    let cycle = c.in_ok-cycle.cycle in
    let Found : Facts → Type 0 = λ x. IsLoopInStep (cells_of x) c.in_ok-from.from.held made.next cycle.channels.items cycle.lids.items in
    step_is asked.lmc rule last
    store found.read.held c.in_ok-plan.plan (plan_there asked.lmc rule c.in_ok-planned.planned.subnet store c.in_ok-plan.plan subnet_is c.in_ok-plan.ensures.plan) c.in_ok-from.from.held made.next (items_of made.order)
    c.in_ok-from.ensures.held is_made
    (Appends (g.W.Sink.written c.args.sink.now) (g.W.Sink.written c.write_next.new.sink))
    (IsSaid g.E.Sink.written g.E.Sink.has_failed c.args.told.now c.write_loop_and_order.new.told)
    c.is_none.result c.in_ok-from.from.facts cycle.channels.items cycle.lids.items facts_is (judged_there asked.lmc c.in_ok-planned.planned.subnet store subnet_is c.in_ok-plan.ensures.judged)
    (c.in-Ok.ensures.still rule positions_are) (subst Found facts_is c.in_ok-cycle.ensures)
    (subst Printed c.lids.ensures c.in_ok-write_next.ensures.writes.ok)
    (was_said g.E.Sink.written g.E.Sink.has_failed c.write_loop_and_order.result _ _ _ c.write_loop_and_order.ensures)
    c.is_none.ensures

pub returns-in-Err-clause-refused : goal.returns-in-Err-clause-refused
returns-in-Err-clause-refused g c =
    let rule = value_of c.args.rule.now in
    let read = c.args.found.now.read in
    let fault = c.in-Err.fault in
    let subnet_is = c.in_ok-planned.ensures.subnet in
    let own_is = c.in_ok-from.ensures.facts ∙ c.in_ok-wired.ensures in
    let facts_is = own_is ∙ subnet_is in
    let positions_are = c.deref.ensures.value ∙ c.in_ok-plan.ensures.positions ∙ ap (λ (x : Facts). positions_by rule (cells_of x)) (sym own_is) in
    let plan_is = plan_there c.args.asked.lmc rule c.in_ok-planned.planned.subnet read.store c.in_ok-plan.plan subnet_is c.in_ok-plan.ensures.plan in
    let moved : first_moved c.in_ok-from.from.held (held_plan c.in_ok-plan.plan) ≡ first_moved read.held (planned c.args.asked.lmc rule read.store) =
    λ i. first_moved (c.in_ok-from.ensures.held i) (held_plan (plan_is i)) in
    let is_fault = c.fault_of_step.ensures ∙ ap (λ (at : ℕ). fault_of_step at fault) c.texts_before.ensures in
    subst (StopsStep (texts_before c.args.asked) c.args.asked.lmc rule read.store read.held (g.W.Sink.has_failed c.args.sink.now)) (sym is_fault)
    (stops_by c.args.asked.lmc rule read.store read.held (g.W.Sink.has_failed c.args.sink.now) (texts_before c.args.asked)
    (first_moved c.in_ok-from.from.held (held_plan c.in_ok-plan.plan)) fault (judged_there c.args.asked.lmc c.in_ok-planned.planned.subnet read.store subnet_is c.in_ok-plan.ensures.judged) moved (c.in-Err.ensures.refused rule positions_are))

pub returns-in_err-wired-clause-refused : goal.returns-in_err-wired-clause-refused
returns-in_err-wired-clause-refused g c =
    let rule = value_of c.args.rule.now in
    let read = c.args.found.now.read in
    let asked = c.args.asked in
    let Stops : Fault → Type 0 = StopsStep (texts_before asked) asked.lmc rule read.store read.held (g.W.Sink.has_failed c.args.sink.now) in
    handed_on c.from_residual-in_err-wired.result Memory Stops c.from_residual-in_err-wired.ensures.1
    (has_room asked.lmc read.store (judged_there asked.lmc c.in_ok-planned.planned.subnet read.store c.in_ok-planned.ensures.subnet c.in_ok-plan.ensures.judged))

pub returns-in_err-from-clause-refused : goal.returns-in_err-from-clause-refused
returns-in_err-from-clause-refused g c =
    let rule = value_of c.args.rule.now in
    let read = c.args.found.now.read in
    let asked = c.args.asked in
    let Stops : Fault → Type 0 = StopsStep (texts_before asked) asked.lmc rule read.store read.held (g.W.Sink.has_failed c.args.sink.now) in
    handed_on c.from_residual-in_err-from.result Memory Stops c.from_residual-in_err-from.ensures.1
    (has_room asked.lmc read.store (judged_there asked.lmc c.in_ok-planned.planned.subnet read.store c.in_ok-planned.ensures.subnet c.in_ok-plan.ensures.judged))

pub returns-in_err-cycle-clause-refused : goal.returns-in_err-cycle-clause-refused
returns-in_err-cycle-clause-refused g c =
    let rule = value_of c.args.rule.now in
    let read = c.args.found.now.read in
    let asked = c.args.asked in
    let Stops : Fault → Type 0 = StopsStep (texts_before asked) asked.lmc rule read.store read.held (g.W.Sink.has_failed c.args.sink.now) in
    handed_on c.from_residual-in_err-cycle.result Memory Stops c.from_residual-in_err-cycle.ensures.1
    (has_room asked.lmc read.store (judged_there asked.lmc c.in_ok-planned.planned.subnet read.store c.in_ok-planned.ensures.subnet c.in_ok-plan.ensures.judged))

pub returns-in_err-write_next-clause-refused : goal.returns-in_err-write_next-clause-refused
returns-in_err-write_next-clause-refused g c =
    let read = c.args.found.now.read in
    let Stops : Fault → Type 0 = λ fault. StopsStep (texts_before c.args.asked) c.args.asked.lmc (value_of c.args.rule.now) read.store read.held
    (g.W.Sink.has_failed c.write_next.new.sink) fault in
    stops c.from_residual-in_err-write_next.result Stops c.from_residual-in_err-write_next.ensures.1 (c.in_err-write_next.ensures.writes.failed.0 refl)

pub returns-in_err-write_next-clause-nothing_written : goal.returns-in_err-write_next-clause-nothing_written
returns-in_err-write_next-clause-nothing_written g c =
    not_written c.from_residual-in_err-write_next.result _ c.from_residual-in_err-write_next.ensures.1
