-- The rule by wires, adapters and an order is one of routing, since the rule is by whatever keys and numbers.
use Rattle.spread_routes.specs.Spread.{SpreadByIsRouting, grading_of, keys_by, number_there, spread_by}
use Rattle.spread_routes.proofs.Routed.{spread_is_routing}

pub spread_by_is_routing : SpreadByIsRouting
unfolding spread_by
spread_by_is_routing graph adapters order good =
    spread_is_routing graph (record { keys = keys_by graph adapters order; number = number_there (grading_of graph adapters order) }) good
