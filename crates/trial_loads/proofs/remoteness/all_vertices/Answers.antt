use Rattle.std.proofs.Common.{◌<◌, ◌+◌, ◌++◌, ℕ, [], ◌∷◌, All, sym, ap, ◌∙◌, subst, arith}
use Rattle.std.proofs.lemmas.List.Elements.{All-push}
use Rattle.trial_loads.proofs.Remote.{numbers_to}
use Rattle.trial_loads.proofs.remoteness.all_vertices.Goals as goal

pub loop-vertex-preserved : goal.loop-vertex-preserved
loop-vertex-preserved c =
    let v = c.loop-vertex.vertex in
    let i = c.loop-vertex.invariant in
    let P : ℕ → Type 0 = λ u. u < v + 1 in
    record {
      numbers = c.in_ok-push.ensures.items ∙ ap (λ xs. xs ++ v ∷ []) i.numbers ∙ sym (numbers_to v);
      below = subst (All P) (sym c.in_ok-push.ensures.items)
          (All-push P c.loop-vertex.vertices.items v (λ k d h. let below = i.below k d h in omega (arith, below)) (omega arith));
    }
