-- The first cell that was not passed is the key's, or the key has none.
use Rattle.std.proofs.Common.{◌≡◌, sym, ap, ◌∙◌, cond, Bool}
use Rattle.std.specs.Prelude.{Option, None, Some}
use Rattle.std.specs.Ordering.{eq_by_cmp}
use Rattle.reply_facts.specs.declared.key.Key.{Key}
use Rattle.reply_facts.specs.declared.value.Value.{Value}
use Rattle.reply_facts.specs.Key.{key_cmp}
use Rattle.reply_facts.specs.Known.{value_in, known_in}
use Rattle.fact_store.specs.Iter.{cells_left}
use Rattle.subnet_view.proofs.Passing.{read_first}
use Rattle.subnet_view.proofs.cell_cursor.CellCursor.known.Goals.{then-eq, else-eq}
use Rattle.subnet_view.proofs.cell_cursor.CellCursor.known.Goals as goal

pub returns-clause-value : goal.returns-clause-value
returns-clause-value c =
    let s = c.in_ok-sighting.sighting in
    let first : known_in c.args.self.now c.args.key ≡ value_in (cond (eq_by_cmp key_cmp s.0 c.args.key) (Some s.1) None)
    = read_first c.args.key s c.self.inside.next
    (cells_left c.self.inside.later) c.args.self.now c.pass.new.self c.self.invariant c.self.view_is c.in_ok-sighting.was c.pass.ensures.reached
    c.pass.ensures.later in
    let test : eq_by_cmp key_cmp s.0 c.args.key ≡ c.eq.result
    = ap (λ (k : Key). eq_by_cmp key_cmp k c.args.key) (sym c.key.ensures.value) ∙ sym c.eq.ensures in
    let by : Bool → Option Value = λ t. value_in (cond t (Some s.1) None) in
    elim c.if-eq.branch [
      | then-eq w ↦ w.result-is ∙ w.value.ensures ∙ sym (first ∙ ap by (test ∙ w.if-eq.true))
      | else-eq w ↦ w.result-is ∙ sym (first ∙ ap by (test ∙ w.if-eq.false))
    ]
