-- One more, with its mark.
use Rattle.std.proofs.Common.{◌≡◌, ◌<◌, List, length, sym, subst, arith, true, ◌∙◌, slice_set, ◌+◌}
use Rattle.audit_channels.specs.Numbers.{has_none}
use Rattle.audit_channels.specs.ShortestCycle.{IsSearch}
use Rattle.audit_channels.specs.declared.shortest_cycle.Visited.{Visited}
use Rattle.audit_channels.proofs.Given.{none_there}
use Rattle.audit_channels.proofs.Searches.{one_reached}
use Rattle.audit_channels.proofs.shortest_cycle.reach.Goals as goal

pub returns-in_ok-push-clause-search : goal.returns-in_ok-push-clause-search
returns-in_ok-push-clause-search c =
    let none : has_none c.args.numbers.now c.args.next.channel ≡ true = sym c.has_none.ensures ∙ c.if-has_none.true in
    let there = (none_there c.args.numbers.now c.args.next.channel none).0 in
    let as_many = c.requires.search.as_many in
    let within : c.args.next.channel < length c.args.marks.now = omega arith in
    subst (λ (xs : List Visited). IsSearch c.args.waits.now c.args.first c.args.next.count xs (slice_set c.args.marks.now c.args.next.channel (c.args.first
    + 1)))
    (sym c.in_ok-push.ensures.items)
    (one_reached c.args.waits.now c.args.first c.args.reached.now.items c.args.marks.now c.args.next c.requires.search c.requires.step within)
