-- None is told without tables, or there is no end port.
use Rattle.std.proofs.Common.{◌∙◌, ◌||◌, sym, ap, subst, length}
use Rattle.std.specs.Prelude.{IsTrue, ◌↔◌, ◌==◌}
use Rattle.std.proofs.lemmas.Bool.{eq-eqb, ne_eqb}
use Rattle.port_graph.proofs.Counts.{length_map}
use Rattle.fact_store.specs.View.{cells_of}
use Rattle.subnet_view.specs.EndPort.{end_ports}
use Rattle.held_tables.specs.Switches.{sender_of}
use Rattle.audit_report.specs.Passing.{Audited, EachHasTables}
use Rattle.audit_report.proofs.Missing.{tables_is}
use Rattle.audit_report.proofs.findings.Audit.has_tables.Goals as goal

pub returns-then-count-eq0 : goal.returns-then-count-eq0
returns-then-count-eq0 c =
    let a = c.self.inside in
    let f = a.findings in
    let cells = cells_of a.network.facts in
    let b = (c.count.result == 0) in
    let Judges = λ (x : Audited). IsTrue b ↔ EachHasTables (cells_of x.facts) x.held in
    subst Judges c.self.view_is
    (tables_is cells a.network.held a.most f.unmatched b c.self.invariant.differ
    (eq-eqb c.count.result 0 c.if-count-eq0.true
    ∙ sym (ap (λ t. t || (length (end_ports cells) == 0)) (eq-eqb f.unmatched.tableless.count 0 (sym c.count.ensures ∙ c.if-count-eq0.true)))))

pub returns-else-count-eq0 : goal.returns-else-count-eq0
returns-else-count-eq0 c =
    let a = c.self.inside in
    let f = a.findings in
    let cells = cells_of a.network.facts in
    let b = c.is_empty.result in
    let Judges = λ (x : Audited). IsTrue b ↔ EachHasTables (cells_of x.facts) x.held in
    subst Judges c.self.view_is
    (tables_is cells a.network.held a.most f.unmatched b c.self.invariant.differ
    (c.is_empty.ensures ∙ ap (λ ss. length ss == 0) c.sources.ensures
    ∙ ap (λ n. n == 0) (length_map (sender_of cells) (end_ports cells))
    ∙ sym (ap (λ t. t || (length (end_ports cells) == 0)) (ne_eqb f.unmatched.tableless.count 0 (λ e. c.if-count-eq0.false (c.count.ensures ∙ e))))))
