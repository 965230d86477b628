-- A port of the table.
use Rattle.std.proofs.Common.{◌≡◌, sym, ap, ◌∙◌, List, ℕ, Vec, Global}
use Rattle.std.proofs.lemmas.Option.{slice_get-map}
use Rattle.std.specs.Prelude.{Option, Some, option_map, option_and_then, slice_get}
use Rattle.std.specs.Option.{option_copied, option_flatten}
use Rattle.subnet_view.specs.SwitchEdges.{SwitchEdges}
use Rattle.subnet_view.proofs.Walked.{copied_item}
use Rattle.updown_routes.specs.Ports.{ports_of, next_port_at}
use Rattle.updown_routes.proofs.PositionRoutes.{port_in_rows}
use Rattle.updown_routes.proofs.routes.Routes.next_port_at.Goals as goal

pub returns : goal.returns
returns c =
    let graph = c.self.inside.graph.now in
    let items : Vec (Option ℕ) Global → List (Option ℕ) = λ v. v.items in
    let towards = c.self.inside.towards.items in
    let ports = c.in_ok-ports.ports.now in
    let there : slice_get towards c.args.target ≡ Some ports =
    sym (ap (λ xs. slice_get xs c.args.target) c.deref.ensures.value) ∙ sym (copied_item c.deref.result.now c.args.target c.get.result c.get.ensures.lookup)
    ∙ ap option_copied c.in_ok-ports.was in
    let row : slice_get (ports_of graph) c.args.target ≡ Some ports.items =
    sym (ap (λ xs. slice_get xs c.args.target) c.self.invariant.are_ports) ∙ slice_get-map items towards c.args.target ∙ ap (option_map items) there in
    let port : c.flatten.result ≡ option_flatten (slice_get ports.items c.args.switch) =
    c.flatten.ensures ∙ ap option_flatten (c.copied.ensures ∙ copied_item c.deref-2.result.now c.args.switch c.get-2.result c.get-2.ensures.lookup
    ∙ ap (λ xs. slice_get xs c.args.switch) c.deref-2.ensures.value) in
    port ∙ sym (port_in_rows graph c.args.switch c.args.target ∙ ap (option_and_then (λ xs. option_flatten (slice_get xs c.args.switch))) row)
    ∙ ap (λ (g : List SwitchEdges). next_port_at g c.args.switch c.args.target) c.self.view_is
