-- Position by position.
use Rattle.std.proofs.Common.{◌≡◌, ◌<◌, ◌+◌, ◌++◌, ◌∷◌, [], List, sym, ap, ◌∙◌, subst, arith, map, length}
use Rattle.port_graph.specs.declared.edge.Edge.{Edge}
use Rattle.port_graph.proofs.Counts.{length_map}
use Rattle.subnet_view.proofs.Taken.{all_from}
use Rattle.subnet_view.specs.SwitchEdges.{SwitchEdges}
use Rattle.subnet_view.specs.Graph.{guids_of}
use Rattle.updown_routes.specs.Ranks.{rank_of}
use Rattle.updown_routes.specs.Positions.{at_position, ups_from, downs_from}
use Rattle.updown_routes.proofs.PositionLists.{AreAtPositionsTo, row_at_position, one_more_position}
use Rattle.updown_routes.proofs.up_down_edges.UpDownEdges.of.Goals as goal

pub to_positions-requires : goal.to_positions-requires
to_positions-requires c =
    let graph = c.args.graph.now in
    let many = length_map (rank_of graph) (guids_of graph) ∙ length_map (λ (x : SwitchEdges). x.guid) graph in
    all_from (λ (e : Edge). e.to < length c.args.positions.now) c.edges.result.now
    (λ e h. omega (arith, c.edges.ensures.to_switches e h, c.requires.positions.all, c.requires.order.all, many))

pub loop-position-preserved : goal.loop-position-preserved
loop-position-preserved c =
    let graph = c.args.graph.now in
    let order = c.args.order.now in
    let positions = c.args.positions.now in
    let position = c.loop-position.position in
    let es = c.edges.result.now in
    let row = row_at_position graph c.edges.ensures.is_graph order positions c.requires.order c.requires.positions position es c.loop-position-test.true
    c.edges.ensures.to_switches c.edges.ensures.edges in
    let up : c.deref-in-loop-position.result.now ≡ ups_from position (map (at_position positions) es) =
    c.deref-in-loop-position.ensures.value ∙ c.in_ok-ups_from.ensures ∙ ap (ups_from position) (c.deref.ensures.value ∙ c.in_ok-edges.ensures) in
    let down : c.deref-in-loop-position-3.result.now ≡ downs_from position (map (at_position positions) es) =
    c.deref-in-loop-position-3.ensures.value ∙ c.in_ok-downs_from.ensures
    ∙ ap (downs_from position) (c.deref-in-loop-position-2.ensures.value ∙ c.in_ok-edges.ensures) in
    let ups = c.in_ok-push_vertex.ensures.added ∙ ap (λ x. c.loop-position.ups ++ x ∷ []) up in
    let downs = c.in_ok-push_vertex-2.ensures.added ∙ ap (λ x. c.loop-position.downs ++ x ∷ []) down in
    let Are : List (List Edge) × List (List Edge) → Type 0 = λ x. AreAtPositionsTo graph order (position + 1) x.0 x.1 in
    subst Are (λ i. (sym ups i, sym downs i))
    (one_more_position graph order position c.loop-position.ups c.loop-position.downs (ups_from position (map (at_position positions) es))
    (downs_from position (map (at_position positions) es)) c.loop-position.invariant row)
