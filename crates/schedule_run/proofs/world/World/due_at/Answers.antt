use Rattle.std.proofs.Common.{◌≡◌, ◌∙◌, ℕ, ◌<◌, Bool, List, below_more, false, get_or, length, map, ap, arith, subst, sym}
use Rattle.std.proofs.lemmas.List.{length-map}
use Rattle.std.proofs.lemmas.Option.{get_or_from_slice_get}
use Rattle.schedule_run.specs.Waiting.{has_come, wake_at}
use Rattle.schedule_run.specs.World.{DeciderValue, decider_value}
use Rattle.schedule_run.specs.declared.world.Decider.{Decider}
use Rattle.schedule_run.proofs.Deciding.{decides_at}
use Rattle.schedule_run.proofs.Seats.{no_index}
use Rattle.schedule_run.proofs.Waking.{index_found}
use Rattle.schedule_run.proofs.world.World.due_at.Goals as goal

pub returns-then-is_due : goal.returns-then-is_due
returns-then-is_due c =
    let items = c.args.self.now.deciders.items in
    let i = c.loop-index.index in
    let s = c.decider-item.result in
    let same = c.deref-decider-items.ensures.value in
    let passes : DeciderValue → Bool = λ d. has_come c.args.self.now.time (wake_at d) in
    let there = decides_at items i s (subst (λ (xs : List Decider). i < length xs) same c.loop-index-test.true)
    (subst (λ (xs : List Decider). s ≡ get_or xs i s) same c.decider-item.is) in
    index_found passes (map decider_value items) i (decider_value s) there (sym c.is_due.ensures ∙ c.if-is_due.true) c.loop-index.invariant

pub loop-index-preserved : goal.loop-index-preserved
loop-index-preserved c =
    let items = c.args.self.now.deciders.items in
    let i = c.loop-index.index in
    let s = c.decider-item.result in
    let same = c.deref-decider-items.ensures.value in
    let passes : DeciderValue → Bool = λ d. has_come c.args.self.now.time (wake_at d) in
    let there = decides_at items i s (subst (λ (xs : List Decider). i < length xs) same c.loop-index-test.true)
    (subst (λ (xs : List Decider). s ≡ get_or xs i s) same c.decider-item.is) in
    let Other : ℕ → Type 0 = λ k. (d : DeciderValue) → passes (get_or (map decider_value items) k d) ≡ false in
    λ k d h. below_more Other i (λ k h d. c.loop-index.invariant k d h)
    (λ d. ap passes (get_or_from_slice_get (map decider_value items) i (decider_value s) d there) ∙ sym c.is_due.ensures ∙ c.if-is_due.false) k h d

pub returns : goal.returns
returns c =
    let items = c.args.self.now.deciders.items in
    let passes : DeciderValue → Bool = λ d. has_come c.args.self.now.time (wake_at d) in
    sym (no_index passes (map decider_value items) (λ k d h. c.loop-index.invariant k d
    (omega (arith, h, length-map items decider_value, ap length c.deref-decider-items.ensures.value, c.loop-index-test.false))))
