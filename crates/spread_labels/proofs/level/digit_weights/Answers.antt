use Rattle.std.proofs.Common.{◌≡◌, ◌<◌, ◌++◌, ◌∷◌, [], suc, sym, ap, ◌∙◌, arith, map, length, get_or, take}
use Rattle.std.proofs.lemmas.List.{get_or_default}
use Rattle.spread_labels.specs.Level.{greatest, digit_weight_of}
use Rattle.spread_labels.proofs.Numbers.{made_at, mapped_more, numbers_long}
use Rattle.spread_labels.proofs.Widths.{greatest_all}
use Rattle.spread_labels.proofs.level.digit_weights.Goals as goal

pub index-requires : goal.index-requires
index-requires c =
    let hs = c.args.levels.now in
    omega (
      arith,
      greatest_all 0 hs c.loop-level.level-index 0 c.loop-level-test.true,
      numbers_long (digit_weight_of c.args.edges.now hs) 0 (suc (greatest 0 hs)),
      ap length c.in_ok-by_level.ensures,
      c.in_ok-by_level.by_level.ok.0,
    )

pub loop-level-preserved : goal.loop-level-preserved
loop-level-preserved c =
    let hs = c.args.levels.now in
    let i = c.loop-level.level-index in
    let h = get_or hs i 0 in
    let f = digit_weight_of c.args.edges.now hs in
    let below : h < suc (greatest 0 hs) = omega (arith, greatest_all 0 hs i 0 c.loop-level-test.true) in
    let long : length c.in_ok-by_level.by_level.items ≡ suc (greatest 0 hs) = ap length c.in_ok-by_level.ensures ∙ numbers_long f 0 (suc (greatest 0 hs)) in
    let digit_weight : c.index.result.now ≡ f h =
    c.index.ensures ∙ sym (get_or_default c.in_ok-by_level.by_level.items h 0 c.index.result.now (omega (arith, long)))
    ∙ ap (λ us. get_or us h 0) c.in_ok-by_level.ensures ∙ made_at f (suc (greatest 0 hs)) h 0 below in
    c.in_ok-push.ensures.items ∙ ap (λ us. us ++ c.index.result.now ∷ []) c.loop-level.invariant
    ∙ ap (λ x. map f (take i hs) ++ x ∷ []) digit_weight ∙ sym (mapped_more f hs i 0 c.loop-level-test.true)
