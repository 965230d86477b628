use Rattle.std.proofs.Common.{◌≡◌, ◌<◌, ◌++◌, ◌∷◌, [], List, ℕ, sym, ap, ◌∙◌, subst, arith, map, length, get_or, take}
use Rattle.std.specs.Prelude.{Contains}
use Rattle.port_graph.specs.declared.edge.Edge.{Edge}
use Rattle.port_graph.specs.Heads.{edges_at}
use Rattle.port_graph.proofs.SearchSteps.{all_from_contained}
use Rattle.spread_labels.specs.Orders.{positioned_edge}
use Rattle.spread_labels.specs.VertexPositions.{to_position}
use Rattle.spread_labels.proofs.Numbers.{mapped_more}
use Rattle.spread_labels.proofs.PositionSteps.{edges_positioned}
use Rattle.spread_labels.proofs.vertex_positions.by_positions.Goals as goal

pub to_positions-requires : goal.to_positions-requires
to_positions-requires c =
    all_from_contained (λ (e : Edge). e.to < length c.args.positions.now) c.at.result.now
    (λ e h. omega (
      arith,
      c.requires.positions.all,
      c.requires.lead (get_or c.args.vertices.now c.loop-vertex.vertex-index 0) e
          (subst (λ (xs : List Edge). Contains xs e) c.at.ensures h),
    ))

pub loop-vertex-preserved : goal.loop-vertex-preserved
loop-vertex-preserved c =
    let edges = c.args.edges.now in
    let vs = c.args.vertices.now in
    let i = c.loop-vertex.vertex-index in
    let v = get_or vs i 0 in
    let f = λ (s : ℕ). map (positioned_edge vs) (edges_at edges s) in
    let row : c.deref.result.now ≡ f v =
    c.deref.ensures.value ∙ c.in_ok-row.ensures ∙ ap (map (to_position c.args.positions.now)) c.at.ensures
    ∙ edges_positioned (length edges) vs c.args.positions.now c.requires.positions (edges_at edges v) (λ e h. c.requires.all e.to (c.requires.lead v e h)) in
    c.in_ok-push_vertex.ensures.added ∙ ap (λ xs. xs ++ c.deref.result.now ∷ []) c.loop-vertex.invariant
    ∙ ap (λ x. map f (take i vs) ++ x ∷ []) row ∙ sym (mapped_more f vs i 0 c.loop-vertex-test.true)
