use Rattle.std.proofs.Common.{◌≡◌, ◌<◌, ◌+◌, ◌-◌, ◌∙◌, ap, arith, length, sym, get_or, replicate, slice_set}
use Rattle.std.proofs.lemmas.List.{get_or_default}
use Rattle.spread_labels.specs.declared.key_order.VertexKey.{VertexKey}
use Rattle.spread_routes.proofs.NamedKeys.{keys_behind, none_named, passed_over, placed}
use Rattle.spread_routes.proofs.switch_order.keys_as_named.Goals as goal

pub loop-number-init : goal.loop-number-init
loop-number-init c = (
  omega arith,
  c.in_ok-keys.ensures.items_if_clones_equal (λ y same. same)
      ∙ ap (λ (x : VertexKey). replicate (length c.switches.result.now) x) c.key_at.ensures
      ∙ none_named c.args.graph.now c.args.switches.now (length c.switches.result.now) (sym (ap length c.switches.ensures)),
)

pub loop-number-preserved-in-Some : goal.loop-number-preserved-in-Some
loop-number-preserved-in-Some c =
    let graph = c.args.graph.now in
    let switches = c.args.switches.now in
    let number = c.loop-number.number in
    let k = number - 1 in
    let some = c.loop-number-test.true in
    let next : k + 1 ≡ number = omega (arith, some) in
    let within : k < length switches = omega (arith, some, c.loop-number.invariant.0) in
    let named : get_or switches k 0 ≡ c.index-switches-number.result =
    get_or_default switches k 0 c.index-switches-number.result within ∙ sym c.index-switches-number.is in (
      omega (arith, c.loop-number.invariant.0),
      (λ i. slice_set ((c.loop-number.invariant.1 ∙ ap (keys_behind graph switches) (sym next)) i) c.in-Some.index (c.key_at-in-Some.ensures i))
          ∙ placed switches k c.index-switches-number.result within named graph c.requires c.in-Some.index c.in-Some.ensures,
    )

pub loop-number-preserved : goal.loop-number-preserved
loop-number-preserved c =
    let graph = c.args.graph.now in
    let switches = c.args.switches.now in
    let number = c.loop-number.number in
    let k = number - 1 in
    let some = c.loop-number-test.true in
    let next : k + 1 ≡ number = omega (arith, some) in
    let within : k < length switches = omega (arith, some, c.loop-number.invariant.0) in
    let named : get_or switches k 0 ≡ c.index-switches-number.result =
    get_or_default switches k 0 c.index-switches-number.result within ∙ sym c.index-switches-number.is in (
      omega (arith, c.loop-number.invariant.0),
      c.loop-number.invariant.1 ∙ ap (keys_behind graph switches) (sym next)
          ∙ passed_over switches k c.index-switches-number.result within named graph c.in_default.ensures,
    )
