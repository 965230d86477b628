-- Put together.
use Rattle.std.proofs.Common.{◌≡◌, ◌∙◌, ℕ, List, Vec, Global, ap, map, refl, subst}
use Rattle.std.specs.Prelude.{IfOk}
use Rattle.fact_store.specs.View.{cells_of}
use Rattle.subnet_view.specs.Reading.{switches}
use Rattle.held_tables.specs.Held.{HeldPlan}
use Rattle.next_tables.specs.Assembly.{all_blocks, tables_with}
use Rattle.next_tables.specs.NextTables.{next_switch, value_of}
use Rattle.next_tables.proofs.Whole.{put_together}
use Rattle.next_tables.proofs.step.tables.Goals as goal

pub returns : goal.returns
returns c =
    let cells = cells_of c.args.held.now.facts in
    let held = c.args.held.now.held in
    let plan = c.args.plan.now.held in
    let entries : List (Vec ℕ Global) → List (List ℕ) = λ columns. map (λ (v : Vec ℕ Global). v.items) columns in
    let columns = entries c.in_ok-columns.columns.items in
    let tops = map (next_switch held plan) (switches cells) in
    subst (λ (tables : HeldPlan). IfOk c.tables_with.result (λ made. made ≡ tables))
    (ap (λ (vs : List (Vec ℕ Global)). tables_with cells held plan (entries vs)) c.deref.ensures.value
    ∙ put_together cells (value_of c.args.rule.now) held plan plan.lids tops (all_blocks columns 0 tops) columns c.most_blocks.result
    refl refl c.in_ok-columns.ensures c.most_blocks.ensures.count refl)
    c.tables_with.ensures
