-- From the columns.
use Rattle.std.proofs.Common.{◌≡◌, ◌∙◌, ◌*◌, ℕ, List, Vec, Global, ap, map, subst}
use Rattle.std.specs.Prelude.{IfOk}
use Rattle.std.specs.List.{range_with_len}
use Rattle.fact_store.specs.View.{cells_of}
use Rattle.next_tables.specs.Assembly.{tables_with}
use Rattle.held_order.specs.TablesBetween.{column_between, tables_between}
use Rattle.held_order.proofs.tables_between.tables_between.Goals as goal

pub returns : goal.returns
unfolding tables_between
returns c =
    let cells = cells_of c.args.held.now.facts in
    let held = c.args.held.now.held in
    let plan = c.args.plan.now.held in
    let f = column_between cells c.args.edges.now c.args.orders.now held plan in
    let entries : List (Vec ℕ Global) → List (List ℕ) = λ columns. map (λ (v : Vec ℕ Global). v.items) columns in
    subst (λ (columns : List (List ℕ)). IfOk c.tables_with.result (λ made. made ≡ tables_with cells held plan columns))
    (ap entries c.deref.ensures.value ∙ c.in_ok-columns.ensures ∙ ap (λ n. map f (range_with_len 0 (64 * n))) c.most_blocks.ensures.count)
    c.tables_with.ensures
