-- What the facts give is a graph.
use Rattle.updown_routes.proofs.graph.Graph.of.Goals as goal

pub invariant_of-result : goal.invariant_of-result
invariant_of-result c = record { is_graph = c.in_ok-ranks.ensures.is_graph; are_ranks = c.in_ok-ranks.ensures.ranks }
