-- The edges that are left do the rest.
use Rattle.std.specs.Prelude.{◌≡◌, drop, map}
use Rattle.port_graph.specs.Heads.{edges_at}
use Rattle.spread_labels.specs.Orders.{earliest}
use Rattle.two_orders.specs.Trees.{earliest_beside, is_earlier}
use Rattle.two_orders.proofs.trees.earliest_beside.Given as goal

abbrev pub invariant-loop-edge : goal.invariant-loop-edge
invariant-loop-edge l =
    earliest_beside l.edges l.positions l.vertex
    ≡ earliest (is_earlier l.positions) l.found (map (λ e. e.to) (drop l.edge-index (edges_at l.edges l.vertex)))
