-- Up/down routing as a rule of routing.
use Rattle.std.specs.Prelude.{List}
use Rattle.port_graph.specs.Slopes.{cost, next_port}
use Rattle.subnet_view.specs.SwitchEdges.{SwitchEdges}
use Rattle.subnet_view.specs.GraphLaws.{IsGraph}
use Rattle.subnet_view.specs.Routing.{Routing, IsRouting}
use Rattle.updown_routes.specs.Ranks.{slopes_of}
use Rattle.updown_routes.specs.Channels.{channel_number}

-- up/down routing. A packet leaves by the next port, which leads down if a walk down leads to the target, and otherwise
-- up. The LID makes no difference
abbrev pub updown : List SwitchEdges → Routing
updown graph = record {
  next = λ lid s t. next_port (slopes_of graph) s t;
  cost = cost (slopes_of graph);
  channel =
      channel_number graph;
}

-- on each graph, up/down routing is a rule of routing (`IsRouting`)
abbrev pub UpdownIsRouting : Type 0
UpdownIsRouting = (graph : List SwitchEdges) → IsGraph graph → IsRouting graph (updown graph)
