-- The columns so far.
use Rattle.std.proofs.Common.{◌≡◌, map}
use Rattle.std.specs.List.{range_with_len}
use Rattle.fact_store.specs.View.{cells_of}
use Rattle.next_tables.specs.NextTables.{column_of, value_of}
use Rattle.next_tables.proofs.entries_by_lid.columns.Given as goal

abbrev pub invariant-loop-number : goal.invariant-loop-number
invariant-loop-number l = record {
  held : l.held_at.seen ≡ l.fn.held;
  plan : l.plan_at.seen ≡ l.fn.plan;
  columns : map (λ c. c.items) l.columns.items
      ≡ map (column_of (cells_of l.fn.held.facts) (value_of l.rule) l.fn.held.held l.fn.plan.held) (range_with_len 0 l.number);
}
