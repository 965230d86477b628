use Rattle.std.proofs.Common.{◌≡◌, ◌∙◌, ◌+◌, ◌<◌, ◌≤◌, List, drop, get_or, length, map, ap, subst, sym}
use Rattle.schedule_run.specs.Waiting.{earlier, first_wake}
use Rattle.schedule_run.specs.World.{decider_value}
use Rattle.schedule_run.specs.declared.world.Decider.{Decider}
use Rattle.schedule_run.proofs.Waking.{wake_next, wake_none}
use Rattle.schedule_run.proofs.world.World.first_wake.Goals as goal

pub loop-decider-preserved : goal.loop-decider-preserved
loop-decider-preserved c =
    let items = c.args.self.now.deciders.items in
    let i = c.loop-decider.decider-index in
    let d = c.decider-item.result in
    let same = c.deref-decider-items.ensures.value in
    let within : i < length items = subst (λ (xs : List Decider). i < length xs) same c.loop-decider-test.true in
    let here : d ≡ get_or items i d = subst (λ (xs : List Decider). d ≡ get_or xs i d) same c.decider-item.is in
    ap (λ first. first_wake first (map decider_value (drop (i + 1) items))) (c.earlier-first.ensures ∙ ap (earlier c.loop-decider.first) c.wake_at.ensures)
    ∙ sym (wake_next items i d c.loop-decider.first within here) ∙ c.loop-decider.invariant

pub returns : goal.returns
returns c =
    let items = c.args.self.now.deciders.items in
    let i = c.loop-decider.decider-index in
    let past : length items ≤ i = subst (λ (xs : List Decider). length xs ≤ i) c.deref-decider-items.ensures.value c.loop-decider-test.false in
    sym (wake_none items i c.loop-decider.first past) ∙ c.loop-decider.invariant
