-- As many empty lists as were pushed.
use Rattle.std.proofs.Common.{◌≡◌, [], replicate}
use Rattle.held_order.specs.Turns.{lists_of}
use Rattle.held_order.proofs.turns.no_turns.Given as goal

abbrev pub invariant-loop-switch : goal.invariant-loop-switch
invariant-loop-switch l = lists_of l.turns.items ≡ replicate l._switch []
