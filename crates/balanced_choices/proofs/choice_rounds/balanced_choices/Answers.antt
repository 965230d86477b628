use Rattle.std.proofs.Common.{◌≡◌, sym, ap, ◌∙◌, subst, length, map}
use Rattle.std.specs.Prelude.{IfOk}
use Rattle.spread_labels.specs.Level.{greatest}
use Rattle.balanced_choices.specs.BalancedChoices.{Balance, after_first, balanced_choices, later_rounds, lightest_choices, with_all}
use Rattle.balanced_choices.proofs.AsLong.{first_ends, first_loads_long}
use Rattle.balanced_choices.proofs.choice_rounds.balanced_choices.Goals as goal

pub lightest_choices-requires-clause-ends : goal.lightest_choices-requires-clause-ends
lightest_choices-requires-clause-ends c =
    let graph = c.args.graph.now in
    let sent = c.args.sent.now in
    let digits = c.args.digits.now in
    let ds = c.args.destinations.now in
    sym (ap (λ (b : Balance). length b.choices) (sym (ap (λ (b : Balance). with_all 0 graph sent digits b 0 ds) c.in_ok-balance.ensures) ∙ c.in_ok-choose_all.ensures))
    ∙ first_ends graph sent digits ds

pub lightest_choices-requires-clause-loads : goal.lightest_choices-requires-clause-loads
lightest_choices-requires-clause-loads c =
    let graph = c.args.graph.now in
    let sent = c.args.sent.now in
    let digits = c.args.digits.now in
    let ds = c.args.destinations.now in
    sym (ap (λ (b : Balance). length b.loads) (sym (ap (λ (b : Balance). with_all 0 graph sent digits b 0 ds) c.in_ok-balance.ensures) ∙ c.in_ok-choose_all.ensures))
    ∙ first_loads_long graph sent digits ds

pub returns : goal.returns
unfolding balanced_choices
returns c =
    let graph = c.args.graph.now in
    let sent = c.args.sent.now in
    let digits = c.args.digits.now in
    let ds = c.args.destinations.now in
    let is : after_first graph sent digits ds ≡ c.choose_all.new.self =
    sym (ap (λ (b : Balance). with_all 0 graph sent digits b 0 ds) c.in_ok-balance.ensures) ∙ c.in_ok-choose_all.ensures in
    subst
    (λ (b : Balance). IfOk c.lightest_choices.result
    (λ v. map (λ w. w.items) v.items ≡ lightest_choices b.choices (greatest 0 b.loads) (later_rounds 2 1 graph sent digits ds b)))
    (sym is) c.lightest_choices.ensures
