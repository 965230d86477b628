-- First by first.
use Rattle.std.proofs.Common.{◌≡◌, ◌<◌, ◌+◌, ℕ, refl, sym, ap, ap₂, ◌∙◌, subst, arith, length, replicate, get_or, true}
use Rattle.std.proofs.lemmas.List.{with_items_is, get_or_default}
use Rattle.std.specs.Prelude.{Option, None, Some, is_some}
use Rattle.std.specs.Option.{option_or}
use Rattle.spread_labels.specs.GrowthKeys.{AreFar}
use Rattle.spread_labels.proofs.FromFirst.{far_more, far_passed, none_far}
use Rattle.spread_labels.proofs.growth_keys.far.Goals as goal
use Rattle.spread_labels.proofs.growth_keys.far.Goals.{then-is_none+in_ok-found, else-is_none}

-- what follows if a clone of nothing is nothing
filled : {X P : Type 0} (C : Option X → Type 0) → (((y : Option X) → C y → y ≡ None) → P) → ((x : X) → C (Some x) → ⊥) → P
filled {X} C follows not_some = follows same
  where
    same : (y : Option X) → C y → y ≡ None
    same None h = refl
    same (Some x) h = absurd (not_some x h)

pub loop-vertex-init : goal.loop-vertex-init
loop-vertex-init c = none_far c.args.edges.now c.requires.lead c.requires.symmetric c.args.keys.now c.requires.all c.in_ok-far.far.items
    (filled _ c.in_ok-far.ensures.items_if_clones_equal (λ x k. k) ∙ ap (λ m. replicate m None) c.len.ensures)

pub loop-vertex-preserved : goal.loop-vertex-preserved
loop-vertex-preserved c =
    let edges = c.args.edges.now in
    let keys = c.args.keys.now in
    let v = c.loop-vertex.vertex in
    let far = c.loop-vertex.far.items in
    let below : v < length edges = omega (arith, c.loop-vertex-test.true, c.len-vertex-end.ensures) in
    elim c.if-is_none.branch [
      | then-is_none+in_ok-found w ↦
          let same : length w.fill.new.far ≡ length far = omega (arith, w.fill.auto.far, w.deref_mut.ensures.len) in
          let items : c.if-is_none.far.items ≡ w.fill.new.far = ap (λ v. v.items) w.far-is ∙ with_items_is c.loop-vertex.far w.fill.new.far (omega arith) in
          subst (AreFar edges keys (v + 1)) (sym items)
          (far_more edges c.requires.lead c.requires.symmetric keys c.requires.all v far w.in_ok-found.found.items w.fill.new.far below w.in_ok-found.ensures
          same
          (λ k l. w.fill.ensures k (omega (arith, same, c.loop-vertex.invariant.all))
          ∙ ap₂ (λ xs ys. option_or (get_or xs k None) (get_or ys k None)) w.deref_mut.ensures.value w.deref.ensures.value)
          c.loop-vertex.invariant)
      | else-is_none w ↦
          let there : is_some (get_or far v None) ≡ true =
          ap is_some (get_or_default far v None c.index.result.now (omega (arith, c.loop-vertex.invariant.all)) ∙ sym c.index.ensures) ∙ w.if-is_none.ensures in
          subst (AreFar edges keys (v + 1)) (sym (ap (λ v. v.items) w.far-is))
          (far_passed edges c.requires.lead c.requires.symmetric keys c.requires.all v far there c.loop-vertex.invariant)
    ]

pub returns : goal.returns
returns c =
    let ended : c.loop-vertex.vertex ≡ length c.args.edges.now =
    omega (arith, c.loop-vertex-test.false, c.loop-vertex.auto.vertex-end, c.len-vertex-end.ensures) in
    subst (λ (k : ℕ). AreFar c.args.edges.now c.args.keys.now k c.loop-vertex.far.items) ended c.loop-vertex.invariant
