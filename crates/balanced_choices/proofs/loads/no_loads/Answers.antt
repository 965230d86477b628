use Rattle.std.proofs.Common.{◌≡◌, ◌+◌, ◌*◌, ◌++◌, ℕ, List, replicate, ap, ◌∙◌, arith}
use Rattle.std.proofs.lemmas.List.{replicate-append-replicate}
use Rattle.balanced_choices.proofs.loads.no_loads.Goals as goal

pub loop-preserved : goal.loop-preserved
loop-preserved c =
    let k = c.loop.counter in
    let more : 256 * k + 256 ≡ 256 * (k + 1) = omega arith in
    c.in_ok-extend_from_slice.ensures.items ∙ ap (λ (xs : List ℕ). xs ++ replicate 256 0) c.loop.invariant
    ∙ replicate-append-replicate (256 * k) 256 0 ∙ ap (λ n. replicate n 0) more
