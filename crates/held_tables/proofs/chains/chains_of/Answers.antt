-- A number more, and all of them.
use Rattle.std.proofs.Common.{◌∙◌, ◌<◌, ◌-◌, arith, length, refl}
use Rattle.std.proofs.lemmas.Grind.{get_or_default_zero}
use Rattle.held_tables.proofs.Chained.{all_chained, chained_at, none_chained}
use Rattle.held_tables.proofs.chains.chains_of.Goals as goal

pub loop-index-init : goal.loop-index-init
loop-index-init c =
    none_chained c.args.numbers.now c.in_ok-firsts.firsts.items c.in_ok-nexts.nexts.items (length c.args.numbers.now) c.in_ok-firsts.ensures
    c.in_ok-nexts.ensures refl

pub loop-index-preserved : goal.loop-index-preserved
loop-index-preserved c =
    let some = c.loop-index-test.true in
    let fits = c.type_inv.numbers (c.loop-index.index - 1) in
    let is = c.from-number.ensures in
    let small : c.from-number.result < 65536 = omega (arith, fits, is) in
    let all = c.loop-index.invariant.all_numbers in
    chained_at c.args.numbers.now c.loop-index.firsts.items c.loop-index.nexts.items c.loop-index.index (c.loop-index.index - 1) c.from-number.result
    c.index.result.now c.loop-index.invariant (omega arith) c.from-number.ensures small
    (c.index.ensures ∙ get_or_default_zero c.loop-index.firsts.items c.from-number.result c.index.result.now (omega arith))

pub returns : goal.returns
returns c =
    all_chained c.args.numbers.now c.loop-index.firsts c.loop-index.nexts c.loop-index.index c.loop-index.invariant (omega arith)
