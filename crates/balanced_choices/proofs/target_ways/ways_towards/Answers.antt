use Rattle.std.proofs.Common.{◌≡◌, ◌++◌, ℕ, List, [], ◌∷◌, sym, ◌∙◌}
use Rattle.port_graph.specs.declared.edge.Edge.{Edge}
use Rattle.port_graph.specs.Heads.{edges_at}
use Rattle.spread_labels.specs.MarkSets.{picked, sets_at}
use Rattle.balanced_choices.proofs.InOrder.{made_next}
use Rattle.balanced_choices.proofs.target_ways.ways_towards.Goals as goal

pub loop-position-preserved : goal.loop-position-preserved
loop-position-preserved c =
    let f : ℕ → List Edge = λ p. picked c.args.k (sets_at c.args.sets.now p) (edges_at c.args.graph.now p) in
    let p = c.loop-position.position in
    let is : c.deref.result.now ≡ f p =
    c.deref.ensures.value ∙ c.in_ok-find_having.ensures ∙ (λ i. picked c.args.k (c.at-in-loop-position.ensures i) (c.at.ensures i)) in
    c.in_ok-push_vertex.ensures.added ∙ (λ i. c.loop-position.invariant i ++ is i ∷ []) ∙ sym (made_next f p)
