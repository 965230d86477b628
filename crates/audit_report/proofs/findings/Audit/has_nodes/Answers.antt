-- None is told of which that is not known.
use Rattle.std.proofs.Common.{sym, subst}
use Rattle.std.specs.Prelude.{IsTrue, ◌↔◌, ◌==◌}
use Rattle.fact_store.specs.View.{cells_of}
use Rattle.audit_report.specs.Passing.{Audited, EachNodeIsKnown}
use Rattle.audit_report.proofs.Missing.{nodes_is}
use Rattle.audit_report.proofs.findings.Audit.has_nodes.Goals as goal

pub returns : goal.returns
returns c =
    let a = c.self.inside in
    let many = c.count.result in
    let Judges = λ (x : Audited). IsTrue (many == 0) ↔ EachNodeIsKnown (cells_of x.facts) in
    subst Judges c.self.view_is
    (subst (λ n. IsTrue (n == 0) ↔ EachNodeIsKnown (cells_of a.network.facts)) (sym c.count.ensures)
    (nodes_is (cells_of a.network.facts) a.network.held a.most a.findings.unmatched c.self.invariant.differ))
