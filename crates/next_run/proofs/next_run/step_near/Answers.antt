-- The goal moves the LIDs that the plan moves.
use Rattle.std.proofs.Common.{◌∙◌, ℕ, Option, subst, sym}
use Rattle.sm_cli.proofs.HandedOn.{handed_on}
use Rattle.held_tables.specs.Held.{HeldPlan}
use Rattle.next_run.specs.NextRun.{IsMadeNear, StopsBy, choice_of}
use Rattle.next_run.specs.StepOrderText.{items_of}
use Rattle.next_run.proofs.GoalLids.{choice_made, moved_same}
use Rattle.next_run.proofs.next_run.step_near.Goals as goal

pub returns-clause-made : goal.returns-clause-made
returns-clause-made c = λ rule is.
    let facts = c.args.step.now.from.now.facts in
    let held = c.args.step.now.from.now.held in
    let plan = c.args.step.now.plan.now.held in
    let last = items_of c.args.last.now in
    let choice = choice_of c.in_ok-choice.choice in
    let Made : HeldPlan → Type 0 = λ next. IsMadeNear rule last facts held plan next choice.order in
    subst Made (sym c.in_ok-next.ensures.tables) (choice_made rule last facts held plan choice (c.in_ok-choice.ensures rule is))

pub returns-clause-still : goal.returns-clause-still
returns-clause-still c = λ rule is.
    sym (moved_same rule (items_of c.args.last.now) c.args.step.now.from.now.facts c.args.step.now.from.now.held c.args.step.now.plan.now.held
    (choice_of c.in_ok-choice.choice) (c.in_ok-choice.ensures rule is)) ∙ c.in_ok-next.ensures.still

pub returns-in_err-next-clause-refused : goal.returns-in_err-next-clause-refused
returns-in_err-next-clause-refused c = λ rule is.
    let fault = c.in_err-next.field-0.0 in
    handed_on c.from_residual-in_err-next.result fault _ c.from_residual-in_err-next.ensures.1
    (subst (λ (m : Option ℕ). StopsBy m fault)
    (moved_same rule (items_of c.args.last.now) c.args.step.now.from.now.facts c.args.step.now.from.now.held c.args.step.now.plan.now.held
    (choice_of c.in_ok-choice.choice) (c.in_ok-choice.ensures rule is)) c.in_err-next.ensures.refused)
