-- A Set keeps the node.
use Rattle.node_agents.proofs.Shapes.{ports-set}
use Rattle.node_agents.proofs.handle.handle.Goals as goal

pub get-requires-then-eq-2 : goal.get-requires-then-eq-2
get-requires-then-eq-2 c = ports-set _ _ _ _ _ c.in_ok-set.ensures c.requires
