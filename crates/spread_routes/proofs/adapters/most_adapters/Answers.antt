use Rattle.std.proofs.Common.{max, sym, ap, ◌∙◌, take, get_or}
use Rattle.std.proofs.lemmas.List.{take_more}
use Rattle.spread_labels.specs.Level.{greatest}
use Rattle.spread_labels.proofs.Widths.{greatest_more, max_turned}
use Rattle.spread_routes.proofs.adapters.most_adapters.Goals as goal

pub loop-count-preserved : goal.loop-count-preserved
loop-count-preserved c =
    let ns = c.args.adapters.now in
    let i = c.loop-count.count-index in
    c.max-most.ensures ∙ max_turned (get_or ns i 0) c.loop-count.most ∙ ap (λ n. max n (get_or ns i 0)) c.loop-count.invariant
    ∙ sym (ap (greatest 0) (take_more ns i 0 c.loop-count-test.true) ∙ greatest_more 0 (take i ns) (get_or ns i 0))
