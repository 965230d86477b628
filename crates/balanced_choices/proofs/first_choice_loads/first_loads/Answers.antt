use Rattle.std.proofs.Common.{◌≡◌, ◌+◌, ◌-◌, sym, ap, ◌∙◌, arith, drop, length, take}
use Rattle.std.proofs.lemmas.List.{drop_all, with_items_is}
use Rattle.balanced_choices.specs.Loads.{first_loads, loads_with_all}
use Rattle.balanced_choices.proofs.EachEnd.{part_and_rest}
use Rattle.balanced_choices.proofs.FirstLoads.{with_both}
use Rattle.balanced_choices.proofs.first_choice_loads.first_loads.Goals as goal

pub loop-first-preserved : goal.loop-first-preserved
loop-first-preserved c =
    let graph = c.args.graph.now in
    let sent = c.args.sent.now in
    let digits = c.args.digits.now in
    let ds = c.args.destinations.now in
    let first = c.loop-first.first in
    let count = c.min.result in
    let part = take (first + count - first) (drop first ds) in
    let rest = drop (first + count) ds in
    let new = c.add_packets.new.loads in
    let as_long : length new ≡ c.loop-first.loads.len = c.add_packets.auto.loads ∙ c.deref_mut.ensures.len in
    let held = with_items_is c.loop-first.loads new as_long in
    let added = c.in_ok-add_packets.ensures ∙ ap (λ l. loads_with_all graph sent digits l part) c.deref_mut.ensures.value in (
      ap (λ l. loads_with_all graph sent digits l rest) (held ∙ added)
          ∙ sym (with_both graph sent digits c.loop-first.loads.items part rest)
          ∙ ap (loads_with_all graph sent digits c.loop-first.loads.items) (part_and_rest ds first count) ∙ c.loop-first.invariant.0,
      ap length held ∙ c.add_packets.auto.loads ∙ ap length c.deref_mut.ensures.value ∙ c.loop-first.invariant.1,
      omega (arith, c.min.ensures, c.loop-first-test.true),
    )

pub returns : goal.returns
unfolding first_loads
returns c =
    let graph = c.args.graph.now in
    sym (ap (loads_with_all graph c.args.sent.now c.args.digits.now c.loop-first.loads.items)
    (drop_all c.loop-first.first c.args.destinations.now c.loop-first-test.false))
    ∙ c.loop-first.invariant.0
