use Rattle.std.proofs.Common.{◌≡◌, drop}
use Rattle.port_graph.specs.Searches.{Search, reach_all}
use Rattle.port_graph.proofs.distance.reach_all.Given as goal

-- what is left to reach leads to the same
abbrev pub invariant-loop-edge : goal.invariant-loop-edge
invariant-loop-edge l =
    let now : Search = (l.distances, l.queue.items) in
    let before : Search = (l.initial.distances, l.initial.queue.items) in
    reach_all l.distance now (drop l.edge-index l.edges) ≡ reach_all l.distance before l.edges
