-- The turns from the channels so far.
use Rattle.fact_store.specs.View.{cells_of}
use Rattle.held_order.specs.Turns.{lists_of}
use Rattle.held_order.proofs.Noted.{SoFar}
use Rattle.held_order.proofs.turns.turns_over.Given as goal

abbrev pub invariant-loop-channel : goal.invariant-loop-channel
invariant-loop-channel l = SoFar (cells_of l.network.facts) l.waits l.channel (lists_of l.turns.items)
