use Rattle.std.proofs.Common.{◌++◌, ℕ, length, drop, replicate, ap, ◌∙◌}
use Rattle.std.proofs.lemmas.List.{drop-replicate}
use Rattle.fabric_sim.proofs.build.padded.Goals as goal

pub returns : goal.returns
returns c =
    ap (λ xs. xs ++ drop (length c.args.name.now) (replicate {A = ℕ} 64 0)) c.copy_from_slice.ensures.after
    ∙ ap (λ xs. c.args.name.now ++ xs) (drop-replicate (length c.args.name.now) 64 0)
