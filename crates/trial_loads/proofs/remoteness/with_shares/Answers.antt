use Rattle.std.proofs.Common.{◌+◌, ℕ, sym, ap, ◌∙◌, arith, cond, get_or}
use Rattle.trial_loads.specs.NearTargets.{has_target}
use Rattle.trial_loads.specs.Starts.{capped}
use Rattle.trial_loads.proofs.Shares.{capped_more, capped_same, no_shares}
use Rattle.trial_loads.proofs.remoteness.with_shares.Goals as goal
use Rattle.trial_loads.proofs.remoteness.with_shares.Goals.{then-has_target, else-has_target}

pub returns-then-set-eq0 : goal.returns-then-set-eq0
returns-then-set-eq0 c = no_shares c.args.shares.now c.args.sum c.args.set c.if-set-eq0.true (omega (arith, c.ranges.sum.fits))

pub loop-k-preserved : goal.loop-k-preserved
loop-k-preserved c =
    let shares = c.args.shares.now in
    let k = c.loop-k.k in
    let f : ℕ → ℕ = λ j. cond (has_target c.args.set j) (get_or shares j 0) 0 in
    elim c.if-has_target.branch [
      | then-has_target w ↦
          let is = ap (λ b. cond b (get_or shares k 0) 0) (sym c.has_target.ensures ∙ w.if-has_target.true) in
          w.sum-is ∙ w.saturating_add-sum.ensures ∙ ap (λ x. capped (c.loop-k.sum + x)) (sym is)
          ∙ capped_more f c.args.sum k c.loop-k.sum c.loop-k.invariant
      | else-has_target w ↦
          let none = ap (λ b. cond b (get_or shares k 0) 0) (sym c.has_target.ensures ∙ w.if-has_target.false) in
          w.sum-is ∙ capped_same f c.args.sum k c.loop-k.sum none c.loop-k.invariant
    ]
