-- One more vertex, or none.
use Rattle.std.proofs.Common.{◌≡◌, ap, ap₂, ◌∙◌, ◌+◌, ◌++◌, ◌∷◌, [], arith, length}
use Rattle.std.proofs.lemmas.Result.{err_from_is_err_and}
use Rattle.port_graph.specs.Spans.{cut}
use Rattle.port_graph.proofs.Cuts.{cut_kept, cut_pushed}
use Rattle.port_graph.proofs.adjacency.Adjacency.push_vertex.Goals as goal

pub returns-in_err-push-clause-unchanged : goal.returns-in_err-push-clause-unchanged
returns-in_err-push-clause-unchanged c =
    let p = err_from_is_err_and c.from_residual-in_err-push.result c.from_residual-in_err-push.ensures.1 in
    rw p.1
    (ap₂ cut c.in_ok-extend_from_slice.ensures.items c.in_err-push.ensures.items
    ∙ cut_kept c.self.inside.edges.items c.args.edges.now c.self.inside.spans.items c.self.invariant ∙ c.self.view_is)

pub returns-clause-added : goal.returns-clause-added
returns-clause-added c =
    let end : c.len-end.result ≡ length c.self.inside.edges.items + length c.args.edges.now = omega (arith, c.in_ok-extend_from_slice.ensures.len) in
    ap₂ cut c.in_ok-extend_from_slice.ensures.items c.in_ok-push.ensures.items
    ∙ cut_pushed c.self.inside.edges.items c.args.edges.now c.self.inside.spans.items _ c.self.invariant (omega arith) end
    ∙ ap (λ lists. lists ++ c.args.edges.now ∷ []) c.self.view_is
