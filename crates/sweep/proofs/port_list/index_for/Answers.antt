use Rattle.std.proofs.Common.{◌≡◌, ℕ, ◌+◌, ◌-◌, ◌/◌, ◌∙◌, ap, sym, true, false, arith}
use Rattle.std.specs.Prelude.{Some, slice_get}
use Rattle.std.proofs.lemmas.Option.{slice_get_within}
use Rattle.sweep.specs.Order.{is_before}
use Rattle.sweep.proofs.Indices.{fall_above, fall_below}
use Rattle.sweep.proofs.port_list.index_for.Goals as goal

pub loop-low-preserved-then-is_before : goal.loop-low-preserved-then-is_before
loop-low-preserved-then-is_before g c =
    let middle : ℕ = c.loop-low.low + (c.loop-low.high - c.loop-low.low) / 2 in
    let at : slice_get c.args.items.now.items middle ≡ Some c.unwrap-item.result = sym c.get.ensures ∙ c.unwrap-item.ensures in
    let before : is_before (g.T.OfPort.key c.unwrap-item.result) (c.args.guid, c.args.port) ≡ true =
    ap (λ k. is_before k (c.args.guid, c.args.port)) (sym c.key.ensures) ∙ sym c.is_before.ensures ∙ c.if-is_before.true in
    record {
      ends = omega (arith, c.loop-low-test.true);
      within = c.loop-low.invariant.within;
      below = fall_below g.T.OfPort.key (c.args.guid, c.args.port) c.args.items.now.items c.requires middle c.unwrap-item.result at before;
      above = c.loop-low.invariant.above;
    }

pub loop-low-preserved : goal.loop-low-preserved
loop-low-preserved g c =
    let middle : ℕ = c.loop-low.low + (c.loop-low.high - c.loop-low.low) / 2 in
    let at : slice_get c.args.items.now.items middle ≡ Some c.unwrap-item.result = sym c.get.ensures ∙ c.unwrap-item.ensures in
    let behind : is_before (g.T.OfPort.key c.unwrap-item.result) (c.args.guid, c.args.port) ≡ false =
    ap (λ k. is_before k (c.args.guid, c.args.port)) (sym c.key.ensures) ∙ sym c.is_before.ensures ∙ c.if-is_before.false in
    let there = slice_get_within c.args.items.now.items middle c.unwrap-item.result at in
    record {
      ends = omega (arith, c.loop-low-test.true);
      within = omega (arith, there);
      below = c.loop-low.invariant.below;
      above = fall_above g.T.OfPort.key (c.args.guid, c.args.port) c.args.items.now.items c.requires middle c.unwrap-item.result at behind;
    }
