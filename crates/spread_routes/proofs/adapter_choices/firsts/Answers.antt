use Rattle.std.proofs.Common.{◌≡◌, ◌+◌, ◌-◌, ◌^◌, ◌++◌, ℕ, [], ◌∷◌, sym, ap, ◌∙◌, get_or}
use Rattle.std.proofs.lemmas.List.Sums.{sum_by_more}
use Rattle.std.specs.Prelude.{min}
use Rattle.spread_labels.proofs.Earlier.{mapped_grown}
use Rattle.spread_routes.specs.AdapterChoices.{first_at}
use Rattle.spread_routes.proofs.PastEnds.{stopped}
use Rattle.spread_routes.proofs.adapter_choices.firsts.Goals as goal

pub loop-count-preserved : goal.loop-count-preserved
loop-count-preserved c =
    let counts = c.args.adapters.now in
    let i = c.loop-count.count-index in
    let count : c.from.result ≡ get_or counts i 0 = c.from.ensures in
    let first : ℕ → ℕ = λ q. min (first_at counts q) (2 ^ 64 - 1) in (
      c.saturating_add-first.ensures ∙ (λ j. min (c.loop-count.invariant.0 j + count j) (2 ^ 64 - 1))
          ∙ stopped (first_at counts i) (get_or counts i 0) (2 ^ 64 - 1)
          ∙ ap (λ n. min n (2 ^ 64 - 1)) (sym (sum_by_more (λ n. n) counts i 0 c.loop-count-test.true)),
      c.in_ok-push.ensures.items ∙ (λ j. c.loop-count.invariant.1 j ++ c.loop-count.invariant.0 j ∷ []) ∙ sym (mapped_grown first i),
    )
