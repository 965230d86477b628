-- By the indices of the two, where both are switches.
use Rattle.std.proofs.Common.{sym, ap, ◌∙◌, List}
use Rattle.port_graph.specs.Slopes.{next_port}
use Rattle.subnet_view.specs.SwitchEdges.{SwitchEdges}
use Rattle.subnet_view.specs.Graph.{guids_of}
use Rattle.subnet_view.proofs.SwitchSearch.{index_in}
use Rattle.updown_routes.specs.Ports.{next_port_at}
use Rattle.updown_routes.specs.Ranks.{slopes_of}
use Rattle.updown_routes.proofs.PositionRoutes.{port_by_index, no_port_from, no_port_to}
use Rattle.updown_routes.proofs.routes.Routes.next_port.Goals as goal

pub returns-in_err-switch : goal.returns-in_err-switch
returns-in_err-switch c =
    let graph = c.self.inside.graph.now in
    let view = ap (λ (g : List SwitchEdges). next_port (slopes_of g) c.args.switch c.args.target) c.self.view_is in
    c.from_residual.ensures ∙ sym (no_port_from graph c.self.invariant.is_graph c.args.switch c.args.target c.in_err-switch.ensures) ∙ view

pub returns-in_err-target : goal.returns-in_err-target
returns-in_err-target c =
    let graph = c.self.inside.graph.now in
    let view = ap (λ (g : List SwitchEdges). next_port (slopes_of g) c.args.switch c.args.target) c.self.view_is in
    let there = index_in (guids_of graph) c.args.switch c.in_ok-switch.switch c.in_ok-switch.ensures in
    c.from_residual-in_err-target.ensures ∙ sym (no_port_to graph c.self.invariant.is_graph c.args.switch c.args.target there c.in_err-target.ensures) ∙ view

pub returns : goal.returns
returns c =
    let graph = c.self.inside.graph.now in
    let view = ap (λ (g : List SwitchEdges). next_port (slopes_of g) c.args.switch c.args.target) c.self.view_is in
    let at = sym (ap (λ (g : List SwitchEdges). next_port_at g c.in_ok-switch.switch c.in_ok-target.target) c.self.view_is) in
    c.next_port_at.ensures ∙ at
    ∙ port_by_index graph c.args.switch c.args.target c.in_ok-switch.switch c.in_ok-target.target c.in_ok-switch.ensures c.in_ok-target.ensures ∙ view
