-- By the labels.
use Rattle.std.proofs.Common.{◌≡◌, ◌∙◌, List, Option, ap, map, subst}
use Rattle.std.specs.Prelude.{IfOk}
use Rattle.std.specs.List.{enumerate_from, zip}
use Rattle.two_orders.specs.declared.labels.Sides.{Sides}
use Rattle.two_orders.specs.Labels.{labels_from}
use Rattle.held_order.specs.TablesBetween.{entries_towards, entry_between}
use Rattle.held_order.proofs.tables_between.entries_towards.Goals as goal

pub returns-clause-entries : goal.returns-clause-entries
unfolding entries_towards
returns-clause-entries c =
    let edges = c.args.edges.now in
    let orders = c.args.orders.now in
    let firsts = c.in_ok-relabel.ensures.firsts ∙ c.in_ok-firsts.ensures in
    subst (λ (ls : List (Option Sides)). IfOk c.entries_by.result (λ entries. entries.items
    ≡ map (entry_between c.args.port.now edges orders ls) (enumerate_from 0 (zip c.args.held.now c.args.plan.now))))
    (c.deref.ensures.value ∙ c.in_ok-relabel.ensures.labels ∙ ap (labels_from edges orders) firsts) c.entries_by.ensures
