-- The columns so far.
use Rattle.std.proofs.Common.{◌≡◌, map}
use Rattle.std.specs.List.{range_with_len}
use Rattle.fact_store.specs.View.{cells_of}
use Rattle.two_orders.specs.Labels.{labels_from}
use Rattle.held_order.specs.TablesBetween.{column_between}
use Rattle.held_order.proofs.tables_between.columns.Given as goal

abbrev pub invariant-loop-number : goal.invariant-loop-number
invariant-loop-number l = record {
  held : l.held_at.seen ≡ l.fn.held;
  plan : l.plan_at.seen ≡ l.fn.plan;
  labels : l.labelled.labels.items ≡ labels_from l.edges l.orders l.labelled.firsts.items;
  columns : map (λ c. c.items) l.columns.items
      ≡ map (column_between (cells_of l.fn.held.facts) l.edges l.orders l.fn.held.held l.fn.plan.held) (range_with_len 0 l.number);
}
