-- The step nearest to the last order counts, unless it goes by an order and changes nothing.
use Rattle.std.proofs.Common.{◌≡◌, ◌∙◌, true, None, subst, sym}
use Rattle.std.specs.Option.{is_some}
use Rattle.std.proofs.lemmas.Result.{IfOk-weaker}
use Rattle.held_tables.specs.Held.{HeldPlan}
use Rattle.plan_tables.specs.PlanTables.{held_plan}
use Rattle.std.specs.Prelude.{IfErr, OnOk}
use Rattle.next_tables.specs.NextTables.{first_moved}
use Rattle.sm_cli.proofs.HandedOn.{handed_on}
use Rattle.next_run.specs.NextRun.{IsMadeNear, StopsBy}
use Rattle.next_run.specs.StepOrderText.{items_of}
use Rattle.next_run.proofs.GoalLids.{made_again, made_first, some_items}
use Rattle.next_run.proofs.next_run.made_step.Goals as goal
use Rattle.next_run.proofs.next_run.made_step.Goals.{else-is_some-via-then-is_some+then-is_some-2+else-are_same_tables, else-is_some-via-then-is_some+else-is_some-2, else-is_some-via-else-is_some}

pub returns-then-are_same_tables-clause-made : goal.returns-then-are_same_tables-clause-made
returns-then-are_same_tables-clause-made c = λ rule is.
    let last = items_of c.args.last.now in
    let facts = c.args.from.now.facts in
    let held = c.args.from.now.held in
    let plan = held_plan c.args.plan.now in
    let plan_is = c.in_ok-to.ensures.held ∙ c.in_ok-planned.ensures in
    let tried = c.in_ok-made.made in
    let first = subst (λ (p : HeldPlan). IsMadeNear rule last facts held p tried.next (items_of tried.order)) plan_is (c.in_ok-made.ensures.made rule is) in
    let has_last : is_some last ≡ true = some_items c.args.last.now ∙ sym c.is_some.ensures ∙ c.if-is_some.true in
    let has_order : is_some (items_of tried.order) ≡ true = some_items tried.order ∙ sym c.is_some-then-is_some.ensures ∙ c.if-is_some-2.true in
    let same : tried.next ≡ held = c.are_same_tables.ensures.0 c.if-are_same_tables.true ∙ c.held.ensures in
    IfOk-weaker c.step_near-then-are_same_tables.result _ _
    (λ made near. made_again rule last facts held plan tried.next made.next (items_of tried.order) (items_of made.order) first has_last has_order same
    (subst (λ (p : HeldPlan). IsMadeNear rule None facts held p made.next (items_of made.order)) plan_is near))
    (c.step_near-then-are_same_tables.ensures.made rule is)

pub returns-then-are_same_tables-clause-still : goal.returns-then-are_same_tables-clause-still
returns-then-are_same_tables-clause-still c = λ rule is.
    let plan_is = c.in_ok-to.ensures.held ∙ c.in_ok-planned.ensures in
    subst (λ (p : HeldPlan). OnOk c.step_near-then-are_same_tables.result (first_moved c.args.from.now.held p ≡ None)) plan_is
    (c.step_near-then-are_same_tables.ensures.still rule is)

pub returns-then-are_same_tables-clause-refused : goal.returns-then-are_same_tables-clause-refused
returns-then-are_same_tables-clause-refused c = λ rule is.
    let plan_is = c.in_ok-to.ensures.held ∙ c.in_ok-planned.ensures in
    subst (λ (p : HeldPlan). IfErr c.step_near-then-are_same_tables.result (StopsBy (first_moved c.args.from.now.held p))) plan_is
    (c.step_near-then-are_same_tables.ensures.refused rule is)

pub returns-in_err-made-clause-refused : goal.returns-in_err-made-clause-refused
returns-in_err-made-clause-refused c = λ rule is.
    let fault = c.in_err-made.field-0.0 in
    let plan_is = c.in_ok-to.ensures.held ∙ c.in_ok-planned.ensures in
    handed_on c.from_residual-in_err-made.result fault _ c.from_residual-in_err-made.ensures.1
    (subst (λ (p : HeldPlan). StopsBy (first_moved c.args.from.now.held p) fault) plan_is (c.in_err-made.ensures.refused rule is))

pub returns-clause-still : goal.returns-clause-still
returns-clause-still c = λ rule is.
    let plan_is = c.in_ok-to.ensures.held ∙ c.in_ok-planned.ensures in
    subst (λ (p : HeldPlan). first_moved c.args.from.now.held p ≡ None) plan_is (c.in_ok-made.ensures.still rule is)

pub returns-clause-made : goal.returns-clause-made
returns-clause-made c = λ rule is.
    let last = items_of c.args.last.now in
    let facts = c.args.from.now.facts in
    let held = c.args.from.now.held in
    let plan_is = c.in_ok-to.ensures.held ∙ c.in_ok-planned.ensures in
    let made = c.in_ok-made.made in
    let near = subst (λ (p : HeldPlan). IsMadeNear rule last facts held p made.next (items_of made.order)) plan_is (c.in_ok-made.ensures.made rule is) in
    let has_last : is_some last ≡ c.is_some.result = some_items c.args.last.now ∙ sym c.is_some.ensures in
    let order_is = some_items made.order in
    let changes : is_some last ≡ true → is_some (items_of made.order) ≡ true → made.next ≡ held → ⊥ =
    elim c.else-is_some.branch [
      | else-is_some-via-then-is_some+then-is_some-2+else-are_same_tables w ↦ λ first order same.
          cc (sym w.if-are_same_tables.false ∙ w.are_same_tables.ensures.1 (same ∙ sym w.held.ensures))
      | else-is_some-via-then-is_some+else-is_some-2 w ↦ λ first order same.
          cc (sym w.if-is_some-2.false ∙ w.is_some-then-is_some.ensures ∙ sym order_is ∙ order)
      | else-is_some-via-else-is_some w ↦ λ first order same. cc (sym w.if-is_some.false ∙ sym has_last ∙ first)
    ] in
    made_first rule facts held (held_plan c.args.plan.now) made.next (items_of made.order) last near changes
