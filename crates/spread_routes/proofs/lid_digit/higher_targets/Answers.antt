use Rattle.std.proofs.Common.{◌≡◌, ◌<◌, ◌&&◌, ◌||◌, Bool, true, false, refl, sym, ap, ◌∙◌, arith, length}
use Rattle.std.proofs.lemmas.Bool.{lt-ltb, le-ltb}
use Rattle.std.proofs.lemmas.List.{get_or_default}
use Rattle.std.specs.Prelude.{nat_lt, slice_index_or}
use Rattle.port_graph.specs.declared.edge.Edge.{Edge}
use Rattle.spread_labels.specs.MarkSets.{edge_at, set_at}
use Rattle.spread_labels.specs.TargetSet.{has}
use Rattle.spread_routes.specs.Exits.{no_lid_digit}
use Rattle.spread_routes.proofs.Leaving.{higher_more}
use Rattle.spread_routes.proofs.lid_digit.higher_targets.Goals as goal
use Rattle.spread_routes.proofs.lid_digit.higher_targets.Goals.{then-lid_digit-level_at, else-lid_digit-level_at}

with_true : (a b c : Bool) → c ≡ true → (a || b) ≡ (a || (b && c))
with_true a true true is = refl
with_true a false c is = refl
with_true a true false is = absurd (cc)

with_false : (a b c : Bool) → c ≡ false → a ≡ (a || (b && c))
with_false true b c is = refl
with_false false false c is = refl
with_false false true false is = refl
with_false false true true is = absurd (cc)

pub loop-i-preserved : goal.loop-i-preserved
loop-i-preserved c = λ k h.
    let i = c.loop-i.i in
    let sets = c.args.sets.now in
    let edges = c.args.edges.now in
    let lid_digit = c.args.lid_digit.now in
    let lid_digits = c.args.lid_digits.now in
    let p : Edge → Bool = λ e. nat_lt lid_digit.level (slice_index_or lid_digits e.to no_lid_digit).level in
    let below : i < length edges = omega (arith, c.loop-i-test.true) in
    let at : edge_at edges i ≡ c.index-edges-i.result =
    get_or_default edges i (record { port = 0; to = 0 }) c.index-edges-i.result below ∙ sym c.index-edges-i.is in
    let level : c.level_at.result ≡ (slice_index_or lid_digits (edge_at edges i).to no_lid_digit).level =
    c.level_at.ensures ∙ ap (λ (e : Edge). (slice_index_or lid_digits e.to no_lid_digit).level) (sym at) in
    let new : has c.if-lid_digit-level_at.higher k ≡ (has c.loop-i.higher k || (has (set_at sets i) k && p (edge_at edges i))) =
    elim c.if-lid_digit-level_at.branch [
      | then-lid_digit-level_at w ↦
          ap (λ s. has s k) w.higher-is ∙ w.or-higher.ensures k h
          ∙ with_true (has c.loop-i.higher k) (has (set_at sets i) k) (p (edge_at edges i))
          (lt-ltb lid_digit.level (slice_index_or lid_digits (edge_at edges i).to no_lid_digit).level (omega (arith, w.if-lid_digit-level_at.true, level)))
      | else-lid_digit-level_at w ↦
          ap (λ s. has s k) w.higher-is
          ∙ with_false (has c.loop-i.higher k) (has (set_at sets i) k) (p (edge_at edges i))
          (le-ltb lid_digit.level (slice_index_or lid_digits (edge_at edges i).to no_lid_digit).level (omega (arith, w.if-lid_digit-level_at.false, level)))
    ] in
    higher_more p k sets edges i (has c.loop-i.higher k) (has c.if-lid_digit-level_at.higher k) c.requires.all below new (c.loop-i.invariant k h)
