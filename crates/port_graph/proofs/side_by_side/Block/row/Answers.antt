-- By the lane, or else by the ports of all vertices.
use Rattle.std.proofs.Common.{◌≡◌, ◌∙◌, ap, subst, List, ℕ, map}
use Rattle.std.specs.Prelude.{Option, None, IfOk, slice_index, slice_index_or}
use Rattle.port_graph.specs.ByteLanes.{at, port_in}
use Rattle.port_graph.proofs.Rows.{row_to, row_in_lane, row_at}
use Rattle.port_graph.proofs.side_by_side.Block.row.Goals as goal

pub returns-then-self : goal.returns-then-self
returns-then-self c =
    let ups = c.args.ups.now in
    let downs = c.args.downs.now in
    let vertices = c.args.vertices.now in
    let lane = c.args.lane in
    let target = slice_index c.args.self.now.targets lane in
    let row : map (λ a. port_in (at c.deref.result.now a lane) (at c.deref-then-self.result.now a lane)) vertices ≡ row_to ups downs vertices target =
    (λ i. map (λ a. port_in (at (c.deref.ensures.value i) a lane) (at (c.deref-then-self.ensures.value i) a lane)) vertices)
    ∙ row_in_lane ups downs vertices c.requires.vertices target lane c.args.self.now.numbers.items c.args.self.now.ports.items
    (c.requires.routed.routed c.if-self.true lane c.requires.lane) in
    subst (λ (xs : List (Option ℕ)). IfOk c.ports_in_lane.result (λ found. found.items ≡ xs)) row c.ports_in_lane.ensures

pub returns-in_ok-next_ports : goal.returns-in_ok-next_ports
returns-in_ok-next_ports c =
    let ups = c.args.ups.now in
    let downs = c.args.downs.now in
    let vertices = c.args.vertices.now in
    let target = slice_index c.args.self.now.targets c.args.lane in
    let row : map (λ a. slice_index_or c.deref-else-self.result.now a None) vertices ≡ row_to ups downs vertices target =
    ap (λ xs. map (λ a. slice_index_or xs a None) vertices) c.deref-else-self.ensures.value
    ∙ row_at ups downs vertices c.requires.vertices target c.in_ok-next_ports.field-0.items c.in_ok-next_ports.ensures in
    subst (λ (xs : List (Option ℕ)). IfOk c.ports_at.result (λ found. found.items ≡ xs)) row c.ports_at.ensures
