-- The text and the line that were written are those of the step from the facts, the held tables and the plan.
use Rattle.std.proofs.Common.{◌≡◌, ◌∙◌, ◌==◌, ◌↔◌, ◌++◌, ℕ, Bool, List, [], Option, None, Result, Ok, Err, IsTrue, length, ap, arith, inl, inr, refl, subst, sym}
use Rattle.std.proofs.lemmas.Bool.{eqb-true}
use Rattle.std.proofs.lemmas.List.{nil_from_length}
use Rattle.std.specs.Prelude.{◌⊎◌, IfErr, OnErr}
use Rattle.std.specs.Result.{IsErrAnd}
use Rattle.byte_io.specs.Writes.{Writes}
use Rattle.byte_io.specs.declared.sink.WriteFault.{WriteFault}
use Rattle.fact_store.specs.View.{Facts, cells_of}
use Rattle.subnet_view.specs.Reading.{Cells}
use Rattle.lid_assign.specs.LidFault.{lid_fault, no_room}
use Rattle.lft_blocks.specs.Plan.{PlanValue, plan_of}
use Rattle.lft_blocks.specs.Rule.{RuleValue}
use Rattle.held_tables.specs.Held.{HeldPlan}
use Rattle.plan_tables.specs.PlanTables.{held_plan, planned}
use Rattle.tables_file.specs.PrintedTables.{next_text}
use Rattle.next_tables.specs.NextTables.{first_moved}
use Rattle.sm_cli.specs.declared.fault.Fault.{Fault}
use Rattle.sm_cli.specs.declared.fault.Fault.TheVariants.{Write}
use Rattle.next_tables.specs.declared.step_fault.StepFault.{StepFault}
use Rattle.next_tables.specs.declared.step_fault.StepFault.TheVariants as steps
use Rattle.sm_cli.proofs.Plans.{has_room}
use Rattle.next_run.specs.LoopText.{loop_text}
use Rattle.next_run.specs.NextRun.{IsMade, IsSaid, IsStep, StopsBy, StopsStep, fault_of_step}
use Rattle.audit_channels.specs.ChannelOrders.{Rise}
use Rattle.audit_channels.specs.Waiting.{channel_count}
use Rattle.audit_channels.proofs.Orders.{can_rise}
use Rattle.step_loops.specs.StepOrder.{WaitsFor}
use Rattle.next_run.specs.StepLoops.{IsLoopInStep}
use Rattle.next_run.specs.StepOrderText.{step_order_text}

pub is_empty : (xs : List ℕ) → IsTrue (length xs == 0) ↔ (xs ≡ [])
is_empty xs = (λ t. nil_from_length xs (eqb-true _ _ t), λ e. ap (λ ys. length ys == 0) e)

-- no loop was found
pub no_loop : (cells : Cells) (held next : HeldPlan) (numbers channels lids : List ℕ) → Rise (WaitsFor cells held next) (channel_count cells) numbers
    → channels ≡ [] → lids ≡ [] → IsLoopInStep cells held next channels lids
no_loop cells held next numbers channels lids rise none no_lids =
    let blank : IsLoopInStep cells held next [] [] = record {
      waits = can_rise (WaitsFor cells held next) (channel_count cells) numbers rise;
      shortest = λ other waiting. omega arith;
      lids_are = record { as_many = refl; each = λ i less. absurd (omega (arith, less)) };
    } in
    subst (λ (x : List ℕ × List ℕ). IsLoopInStep cells held next x.0 x.1) (λ i. (sym none i, sym no_lids i)) blank

-- a text was written, or that has failed
pub was_said : {W : Type 0} (written : W → Option (List ℕ)) (has_failed : W → Bool) (result : Result (Unit {0}) WriteFault) (old new : W) (text : List ℕ)
    → Writes written has_failed result old new text → IsSaid written has_failed old new text
was_said written has_failed (Ok u) old new text said = inr said.ok
was_said written has_failed (Err fault) old new text said = inl (said.failed.0 refl)

-- a write that fails is told as such
pub not_written : {A : Type 0} (result : Result A Fault) (P : Type 0) → IsErrAnd result (λ fault. fault ≡ Write) → OnErr result ((result ≡ Err Write) ⊎ P)
not_written (Ok a) P gives = tt
not_written (Err fault) P gives = inl (ap Err gives)

pub stops : {A : Type 0} (result : Result A Fault) (Stops : Fault → Type 0) → IsErrAnd result (λ fault. fault ≡ Write) → Stops Write
    → IfErr result Stops
stops (Ok a) Stops gives so = tt
stops (Err fault) Stops gives so = subst Stops (sym gives) so

module _ (lmc : ℕ) (rule : RuleValue) (last : Option (List ℕ)) (facts : Facts) (held : HeldPlan) (plan : PlanValue)
    (is_plan : plan ≡ plan_of rule lmc (cells_of facts)) (from next : HeldPlan) (order : Option (List ℕ)) (is_from : from ≡ held)
    (made : IsMade rule last facts from (held_plan plan) next order) where
  made_is : IsMade rule last facts held (planned lmc rule facts) next order
  made_is =
      subst (λ (x : HeldPlan × PlanValue). IsMade rule last facts x.0 (held_plan x.1) next order) (λ i. (is_from i, is_plan i)) made

  pub step_is : (prints says : List ℕ → Type 0) (passed : Bool) (known : Facts) (cycle lids : List ℕ) → known ≡ facts
      → lid_fault (no_room lmc (cells_of facts)) ≡ None → first_moved from (held_plan plan) ≡ None
      → IsLoopInStep (cells_of facts) from next cycle lids → prints (next_text plan.given next)
      → says (loop_text (cells_of known) cycle lids ++ step_order_text order) → IsTrue passed ↔ (cycle ≡ [])
      → IsStep lmc rule last facts held prints says passed
  step_is prints says passed known cycle lids is_known room still found printed said judged = record {
    has_room = has_room lmc facts room;
    no_move = sym (λ i. first_moved (is_from i) (held_plan (is_plan i))) ∙ still;
    goal = made_is.goal;
    next = next;
    is_next = made_is.is_next;
    written = subst prints (λ i. next_text (is_plan i).given next) printed;
    cycle = cycle;
    lids = lids;
    found = subst (λ (h : HeldPlan). IsLoopInStep (cells_of facts) h next cycle lids) is_from found;
    said =
        let Said : Option (List ℕ) → Type 0 = λ o. says (loop_text (cells_of facts) cycle lids ++ step_order_text o) in
        subst Said made_is.order_is (subst (λ (f : Facts). says (loop_text (cells_of f) cycle lids ++ step_order_text order)) is_known said);
    judged = judged;
  }

-- why there are no next tables towards the plan is why there is no step
pub stops_by : (lmc : ℕ) (rule : RuleValue) (facts : Facts) (held : HeldPlan) (sink_failed : Bool) (at : ℕ) (moved : Option ℕ) (fault : StepFault)
    → lid_fault (no_room lmc (cells_of facts)) ≡ None → moved ≡ first_moved held (planned lmc rule facts) → StopsBy moved fault
    → StopsStep at lmc rule facts held sink_failed (fault_of_step at fault)
stops_by lmc rule facts held sink_failed at moved (steps.Moves lid) room is h = (refl, sym is ∙ h)
stops_by lmc rule facts held sink_failed at moved steps.Memory room is h = has_room lmc facts room
