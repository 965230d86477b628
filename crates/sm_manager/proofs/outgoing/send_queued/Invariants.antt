-- What went out so far and what is still queued are what was queued; each turn sends one.
use Rattle.std.proofs.Common.{◌≡◌, ◌+◌, ◌≤◌, ◌++◌, length}
use Rattle.std.specs.VecDeque.{deque_capacity, deque_len}
use Rattle.sm_manager.specs.Manager.{requests_out, with_all_sent}
use Rattle.sm_manager.proofs.outgoing.send_queued.Given as goal

abbrev pub invariant-loop-packet : goal.invariant-loop-packet
invariant-loop-packet l =
    (with_all_sent l.sweep ≡ with_all_sent l.fn.sweep)
    × ((l.outgoing.items ++ requests_out l.sweep.generation l.sweep.queued ≡ l.fn.outgoing.items ++ requests_out l.fn.sweep.generation l.fn.sweep.queued)
    × (deque_len l.outgoing + length l.sweep.queued ≤ deque_capacity l.outgoing))

abbrev pub decreases-loop-packet : goal.decreases-loop-packet
decreases-loop-packet l = length l.sweep.queued
