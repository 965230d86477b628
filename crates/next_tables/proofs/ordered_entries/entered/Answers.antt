-- A switch more.
use Rattle.std.proofs.Common.{◌≡◌, ◌<◌, ◌∙◌, ◌+◌, ◌++◌, ◌||◌, ℕ, Bool, List, ap, arith, length, subst, sym}
use Rattle.std.specs.Prelude.{drop, min, take}
use Rattle.std.proofs.Math.Seq.{take-append_seam}
use Rattle.std.proofs.lemmas.List.{get_or_default}
use Rattle.next_tables.specs.OrderedEntries.{enters, flag}
use Rattle.next_tables.proofs.Ordered.{EnteredSoFar, entered_all, entered_more, entered_none, no_step}
use Rattle.next_tables.proofs.ordered_entries.entered.Goals as goal

pub loop-index-init : goal.loop-index-init
loop-index-init c = entered_none c.args.positions.now c.args.held.now c.args.goal.now c.in_ok-entered.entered.items c.in_ok-entered.ensures

pub loop-index-preserved : goal.loop-index-preserved
loop-index-preserved c =
    let positions = c.args.positions.now in
    let held = c.args.held.now in
    let goal_steps = c.args.goal.now in
    let was = c.loop-index.entered in
    let new = c.enter.new.entered in
    let index = c.loop-index.index in
    let rest = drop (length new) was.items in
    let same : length new ≡ length was.items = c.enter.ensures.as_many ∙ ap length c.deref_mut.ensures.value in
    let long : was.len ≡ length new = omega (arith, same, was.ok.0) in
    let kept : take was.len (new ++ rest) ≡ new = ap (λ n. take n (new ++ rest)) long ∙ take-append_seam new rest in
    let within : index < min (length held) (length goal_steps) = omega (arith, c.loop-index-test.true, c.min-index-end.ensures) in
    let one = c.index-held-index.is ∙ get_or_default held index c.index-held-index.result no_step (omega (arith, within)) in
    let other = c.index-goal-index.is ∙ get_or_default goal_steps index c.index-goal-index.result no_step (omega (arith, within)) in
    let each = subst (λ (xs : List Bool). (i : ℕ) → i < length xs → flag new i ≡ (flag xs i || enters positions index c.index-held-index.result c.index-goal-index.result i))
    c.deref_mut.ensures.value c.enter.ensures.each in
    subst (λ (xs : List Bool). EnteredSoFar positions held goal_steps xs (index + 1)) (sym kept)
    (entered_more positions held goal_steps was.items new index c.index-held-index.result c.index-goal-index.result c.loop-index.invariant same one other each)

pub returns : goal.returns
returns c =
    let count : c.loop-index.index ≡ min (length c.args.held.now) (length c.args.goal.now) =
    omega (arith, c.loop-index-test.false, c.loop-index.auto.index-end, c.min-index-end.ensures) in
    entered_all c.args.positions.now c.args.held.now c.args.goal.now c.loop-index.entered.items c.loop-index.index count c.loop-index.invariant
