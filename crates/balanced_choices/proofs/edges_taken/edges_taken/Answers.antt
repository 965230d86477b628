use Rattle.std.proofs.Common.{◌++◌, List, [], ◌∷◌, sym, ap, ◌∙◌}
use Rattle.std.specs.Prelude.{Option}
use Rattle.port_graph.specs.declared.edge.Edge.{Edge}
use Rattle.balanced_choices.specs.Ways.{edge_taken}
use Rattle.balanced_choices.proofs.InOrder.{made_next}
use Rattle.balanced_choices.proofs.edges_taken.edges_taken.Goals as goal

pub loop-position-preserved : goal.loop-position-preserved
loop-position-preserved c =
    let p = c.loop-position.position in
    let old : List (Option Edge) = c.loop-position.taken.items in
    c.in_ok-push.ensures.items ∙ ap (λ e. old ++ e ∷ []) c.edge_taken.ensures
    ∙ ap (λ (es : List (Option Edge)). es ++ edge_taken c.args.ways.now c.args.choices.now p ∷ []) c.loop-position.invariant
    ∙ sym (made_next (edge_taken c.args.ways.now c.args.choices.now) p)
