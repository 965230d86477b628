use Rattle.std.proofs.Common.{max, sym, ap, ◌∙◌, take, get_or}
use Rattle.std.proofs.lemmas.List.{take_more}
use Rattle.spread_labels.specs.Level.{greatest}
use Rattle.spread_labels.proofs.Widths.{greatest_more, max_turned}
use Rattle.spread_labels.proofs.level.greatest_of.Goals as goal

pub loop-level-preserved : goal.loop-level-preserved
loop-level-preserved c =
    let hs = c.args.levels.now in
    let i = c.loop-level.level-index in
    c.max-found.ensures ∙ max_turned (get_or hs i 0) c.loop-level.found ∙ ap (λ n. max n (get_or hs i 0)) c.loop-level.invariant
    ∙ sym (ap (greatest 0) (take_more hs i 0 c.loop-level-test.true) ∙ greatest_more 0 (take i hs) (get_or hs i 0))
