-- The numbers of channels in up/down routing. They rise along each way, so packets never wait for each other in a
-- credit loop.
use Rattle.std.specs.Prelude.{ℕ, ◌+◌, ◌-◌, List, ◌++◌, count_by, ◌&&◌, if◌then◌else◌}
use Rattle.std.specs.List.Sorted.{IsStrictlyIncreasing}
use Rattle.port_graph.specs.Routes.{Way}
use Rattle.subnet_view.specs.SwitchEdges.{SwitchEdges}
use Rattle.subnet_view.specs.Graph.{guids_of}
use Rattle.subnet_view.specs.GraphLaws.{IsGraph, IsSwitch}
use Rattle.subnet_view.specs.Components.{in_one_component}
use Rattle.subnet_view.specs.Routing.{numbers_along}
use Rattle.updown_routes.specs.Ranks.{is_before, slopes_of}

-- the number of switches in the component of switch `b`
abbrev pub component_size : List SwitchEdges → ℕ → ℕ
component_size graph b = count_by (in_one_component graph b) (guids_of graph)

-- the number of switches in the component of switch `b` that are before `b`
abbrev pub position_of : List SwitchEdges → ℕ → ℕ
position_of graph b = count_by (λ a. in_one_component graph b a && is_before graph a b) (guids_of graph)

-- the number of the channel from switch `a` to switch `b`. If `b` is before `a`, it is the size of the component of `b`
-- minus the position of `b`; otherwise it is that size plus that position
abbrev pub channel_number : List SwitchEdges → ℕ → ℕ → ℕ
channel_number graph a b =
    if is_before graph b a then component_size graph b - position_of graph b else component_size graph b
    + position_of graph b

-- along each way that goes up and then down from a switch of `graph`, the channel numbers rise
abbrev pub ChannelLaw : Type 0
ChannelLaw = (graph : List SwitchEdges) → IsGraph graph → (s t n : ℕ) → IsSwitch graph s
    → (w : Way (slopes_of graph) s t n)
    → IsStrictlyIncreasing (numbers_along (channel_number graph) s (w.ups ++ w.downs))
