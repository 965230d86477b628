-- Credit loops in a step, on one lane.
use Rattle.std.specs.Prelude.{ℕ, List}
use Rattle.subnet_view.specs.Reading.{Cells}
use Rattle.held_tables.specs.Held.{HeldPlan}
use Rattle.audit_channels.specs.ChannelOrders.{IsCycleIfAny, NoneShorter}
use Rattle.step_loops.specs.LidsInLoop.{AreLoopLids}
use Rattle.step_loops.specs.StepOrder.{WaitsFor}

-- `cycle` is a shortest credit loop that mixtures of the two tables make; if it is empty, channels have numbers that
-- rise in the step. For each of its channels, `lids` has the least LID for which packets that hold this channel wait
-- for the next one
pub record IsLoopInStep (cells : Cells) (held next : HeldPlan) (cycle lids : List ℕ) : Type 0 where
  pub waits : IsCycleIfAny (WaitsFor cells held next) cycle
  pub shortest : NoneShorter (WaitsFor cells held next) cycle
  pub lids_are : AreLoopLids cells held next cycle lids
