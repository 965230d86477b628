-- Where it is found, or that it is not.
use Rattle.std.proofs.Common.{◌∙◌, ◌<◌, length, sym, arith}
use Rattle.std.proofs.lemmas.Bool.{eqb-true}
use Rattle.std.proofs.lemmas.List.{get_or_default}
use Rattle.spread_labels.proofs.Found.{found_at, not_found}
use Rattle.plan_order.proofs.positions.position_of.Goals as goal

pub returns-then-eq : goal.returns-then-eq
returns-then-eq c =
    let ordered = c.args.ordered.now in
    let less : c.loop-index.index < length ordered = c.loop-index-test.true in
    let here = sym (get_or_default ordered c.loop-index.index c.index-ordered-index.result 0 less) ∙ sym c.index-ordered-index.is in
    found_at ordered c.args.switch c.loop-index.index less (here ∙ eqb-true c.index-ordered-index.result c.args.switch (sym c.if-eq.ensures)) c.loop-index.invariant

pub returns : goal.returns
returns c =
    not_found c.args.ordered.now c.args.switch (λ i less. c.loop-index.invariant i (omega (arith, less, c.loop-index-test.false)))
