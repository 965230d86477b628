-- By the rule that is asked for.
use Rattle.std.proofs.Common.{◌≡◌, ap, sym, subst}
use Rattle.std.specs.Prelude.{IfOk}
use Rattle.fact_store.specs.View.{cells_of}
use Rattle.subnet_view.specs.Routing.{Routing}
use Rattle.lft_blocks.specs.Rule.{RuleValue, rule_of, value_of}
use Rattle.lft_blocks.specs.LidNumbers.{lid_numbers, numbered}
use Rattle.lft_blocks.specs.Plan.{lid_routing, tables_by}
use Rattle.lft_blocks.proofs.plan.tables_of.Goals as goal

pub returns-in-Spread : goal.returns-in-Spread
returns-in-Spread c =
    let cells = cells_of c.args.wired.now.wires.now in
    let lids = c.args.lids.now in
    subst (λ (r : RuleValue). IfOk c.by_spread.result (λ tables. tables.items ≡ tables_by (lid_routing r c.args.lmc cells lids) cells lids))
    (ap value_of (sym c.in-Spread.is)) c.by_spread.ensures

pub returns-in-UpDown : goal.returns-in-UpDown
returns-in-UpDown c =
    let cells = cells_of c.args.wired.now.wires.now in
    let number = lid_numbers c.args.lmc cells c.args.lids.now in
    subst (λ (r : Routing). IfOk c.by_updown.result (λ tables. tables.items ≡ tables_by (numbered number r) cells c.args.lids.now))
    (ap (λ r. rule_of r cells) (sym c.in-UpDown.is)) c.by_updown.ensures
