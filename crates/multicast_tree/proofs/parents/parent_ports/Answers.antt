use Rattle.std.proofs.Common.{◌≡◌, ◌<◌, ◌++◌, ℕ, [], ◌∷◌, length, sym, ◌∙◌, arith}
use Rattle.std.proofs.lemmas.List.{map_more}
use Rattle.std.specs.Prelude.{Option, slice_index}
use Rattle.port_graph.proofs.Counts.{length_map}
use Rattle.subnet_view.specs.SwitchEdges.{SwitchEdges}
use Rattle.subnet_view.specs.Graph.{guids_of}
use Rattle.multicast_tree.specs.Tree.{parent_port, position_in}
use Rattle.multicast_tree.proofs.ParentPorts.{parent_by_index}
use Rattle.multicast_tree.proofs.parents.parent_ports.Goals as goal

pub loop-index-preserved : goal.loop-index-preserved
loop-index-preserved c =
    let graph = c.args.graph.now in
    let positions = c.args.positions.now in
    let i = c.loop-index.index in
    let ports = c.loop-index.ports.items in
    let f : ℕ → Option ℕ = parent_port graph (position_in (guids_of graph) positions) in
    let less : i < length graph = omega (arith, c.loop-index-test.true, c.len-index-end.ensures.count) in
    let port : c.parent_port.result ≡ f (slice_index (guids_of graph) i) =
    c.parent_port.ensures ∙ parent_by_index graph positions i c.edges.result.now c.len-index-end.ensures.is_graph less c.edges.ensures.to_switches c.edges.ensures.edges in
    c.in_ok-push.ensures.items ∙ (λ j. c.loop-index.invariant j ++ port j ∷ [])
    ∙ sym (map_more f (guids_of graph) i 0 (omega (arith, less, length_map (λ (c : SwitchEdges). c.guid) graph)))
