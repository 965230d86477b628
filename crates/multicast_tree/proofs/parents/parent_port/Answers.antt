use Rattle.std.proofs.Common.{◌<◌, length, sym, subst, rules}
use Rattle.std.proofs.lemmas.List.Elements.{Contains-get_or}
use Rattle.std.specs.Prelude.{Contains}
use Rattle.port_graph.specs.declared.edge.Edge.{Edge}
use Rattle.multicast_tree.proofs.parents.parent_port.Goals as goal

pub offset_bounds-positions-edge : goal.offset_bounds-positions-edge
offset_bounds-positions-edge c =
    let es = c.args.edges.now in
    let e = c.edge-item.result in
    let below : e.to < length c.args.positions.now =
    c.requires.to_switches e (subst (λ (x : Edge). Contains es x) (sym c.edge-item.is) (Contains-get_or es c.loop-edge.edge-index e c.loop-edge-test.true)) in
    search rules

pub bounds-positions-edge : goal.bounds-positions-edge
bounds-positions-edge c =
    let es = c.args.edges.now in
    let e = c.edge-item.result in
    c.requires.to_switches e (subst (λ (x : Edge). Contains es x) (sym c.edge-item.is) (Contains-get_or es c.loop-edge.edge-index e c.loop-edge-test.true))
