use Rattle.std.proofs.Common.{◌≡◌, ◌<◌, ◌+◌, [], sym, ap, ◌∙◌, arith, drop, get_or, length}
use Rattle.std.proofs.lemmas.List.{drop_more}
use Rattle.std.specs.Prelude.{reverse}
use Rattle.spread_labels.specs.Orders.{numbers_from}
use Rattle.balanced_choices.specs.BalancedChoices.{near_first, weight_among}
use Rattle.balanced_choices.specs.Loads.{Passing, passed_on, passed_to}
use Rattle.balanced_choices.proofs.first_choice_loads.add_packets_to.Goals as goal

pub loop-position-preserved : goal.loop-position-preserved
loop-position-preserved c =
    let ways = c.args.ways.now in
    let digits = c.args.digits.now in
    let d = c.args.destination.now in
    let order = reverse (near_first ways) in
    let i = c.loop-position.position-index in
    let p = get_or order i 0 in
    let is : c.deref-position-items.result.now ≡ order = c.deref-position-items.ensures.value ∙ c.in_ok-order.ensures.order in
    let below : i < length order = omega (arith, c.loop-position-test.true, ap length is) in
    let now : Passing = record { had = c.loop-position.had; loads = c.loop-position.loads } in
    let after : Passing = record { had = c.pass_on.new.had; loads = c.pass_on.new.loads } in
    let ks = numbers_from 0 d.ends in
    let passed : passed_to d.ends (get_or ways p []) (weight_among digits (get_or ways p []) p) p d.number now ks ≡ after =
    sym (ap (λ xs. let q = get_or xs i 0 in passed_to d.ends (get_or ways q []) (weight_among digits (get_or ways q []) q) q d.number now ks) is)
    ∙ c.pass_on.ensures in
    ap (λ x. passed_on ways digits d.number d.ends x (drop (i + 1) order)) (sym passed)
    ∙ sym (ap (passed_on ways digits d.number d.ends now) (drop_more order i 0 below)) ∙ c.loop-position.invariant
