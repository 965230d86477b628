-- What went out so far and what is left are the steps.
use Rattle.std.proofs.Common.{◌≤◌, ◌+◌, length}
use Rattle.std.specs.VecDeque.{deque_capacity, deque_len}
use Rattle.sm_manager.proofs.StepsSent.{AreGoing}
use Rattle.sm_manager.proofs.writing.send_steps.Given as goal

abbrev pub invariant-loop-step : goal.invariant-loop-step
invariant-loop-step l =
    AreGoing l.counts l.step-iterator.rest.items l.requests l.outgoing.items l.fn.steps.items l.fn.requests l.fn.outgoing.items
    × (deque_len l.outgoing + length l.step-iterator.rest.items ≤ deque_capacity l.outgoing)
