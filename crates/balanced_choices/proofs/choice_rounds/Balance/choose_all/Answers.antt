use Rattle.std.proofs.Common.{◌+◌, ◌-◌, sym, ap, subst, ◌∙◌, arith, drop, take}
use Rattle.balanced_choices.specs.BalancedChoices.{ends_of, with_all}
use Rattle.balanced_choices.proofs.AsLong.{IsAsLong, all_long, still_as_long}
use Rattle.balanced_choices.proofs.EachEnd.{all_both, ends_both, ends_of_part, part_and_rest}
use Rattle.balanced_choices.proofs.choice_rounds.Balance.choose_all.Goals as goal

pub choose_some-requires-clause-ends : goal.choose_some-requires-clause-ends
choose_some-requires-clause-ends c =
    let part = ends_of_part c.loop-first.end c.args.destinations.now c.loop-first.first c.min.result in
    omega (arith, part, c.loop-first.invariant.1, c.requires.ends, c.loop-first.invariant.2.ends)

pub loop-first-preserved : goal.loop-first-preserved
loop-first-preserved c =
    let round = c.args.round in
    let graph = c.args.traffic.now.edges in
    let sent = c.args.traffic.now.sent in
    let digits = c.args.traffic.now.digits in
    let with = with_all round graph sent digits in
    let ds = c.args.destinations.now in
    let first = c.loop-first.first in
    let end = c.loop-first.end in
    let now = c.loop-first.self in
    let count = c.min.result in
    let part = take (first + count - first) (drop first ds) in
    let rest = drop (first + count) ds in
    let both = part_and_rest ds first count in
    let became = c.in_ok-end.ensures.balance in
    let next = c.in_ok-end.ensures.next in (
      (λ i. with (sym became i) (next i) rest) ∙ sym (all_both round graph sent digits now end part rest) ∙ ap (with now end) both
          ∙ c.loop-first.invariant.0,
      ap (λ n. ends_of n rest) next ∙ sym (ends_both end part rest) ∙ ap (ends_of end) both ∙ c.loop-first.invariant.1,
      still_as_long c.args.self.now now c.choose_some.new.self c.loop-first.invariant.2
          (subst (IsAsLong now) became (all_long round graph sent digits now end part)),
      omega (arith, c.min.ensures, c.loop-first-test.true),
    )
