use Rattle.std.proofs.Common.{◌≡◌, ◌++◌, sym, ap, ◌∙◌, arith, get_or, replicate, take}
use Rattle.balanced_choices.specs.Loads.{repeated}
use Rattle.balanced_choices.proofs.FirstLoads.{repeated_more}
use Rattle.balanced_choices.proofs.first_choice_loads.repeat.Goals as goal

pub loop-number-preserved : goal.loop-number-preserved
loop-number-preserved c =
    let list = c.args.list.now in
    let count = c.args.count in
    let i = c.loop-number.number-index in
    let ended : c.loop.counter ≡ count = omega (arith, c.loop-test.false, c.loop.auto.counter-end) in
    c.loop.invariant ∙ ap (λ n. repeated count (take i list) ++ replicate n (get_or list i 0)) ended
    ∙ sym (repeated_more count list i c.loop-number-test.true)
