use Rattle.std.proofs.Common.{◌≡◌, ◌||◌, ◌==◌, ℕ, refl, ap, ◌∙◌, arith, get_or}
use Rattle.std.proofs.lemmas.List.{get_or_default}
use Rattle.trial_loads.specs.NearTargets.{has_target}
use Rattle.trial_loads.proofs.NearTargets.{left_more, there_more}
use Rattle.trial_loads.proofs.near_targets.at_targets.Goals as goal

pub loop-k-preserved : goal.loop-k-preserved
loop-k-preserved c =
    let targets = c.args.targets.now in
    let k = c.loop-k.k in
    let t = get_or targets k 0 in
    let within = c.requires.vertices k 0 c.loop-k-test.true in
    let i = c.loop-k.invariant in
    let near = c.loop-k.near.items in
    let was : c.index.result.now ≡ get_or near t 0 =
    c.index.ensures ∙ get_or_default near t c.index.result.now 0 (omega (arith, within, i.done.all)) in
    let with = λ (j : ℕ). c.with_target.ensures j ∙ ap (λ x. (j == k) || has_target x j) was in
    record {
      done = there_more c.args.count targets near k t c.with_target.result refl within with i.done i.left;
      left = left_more c.args.count targets near k t c.with_target.result refl within with i.done i.left;
    }
