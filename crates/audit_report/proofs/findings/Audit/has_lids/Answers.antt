-- None is told without a LID.
use Rattle.std.proofs.Common.{sym, subst}
use Rattle.std.specs.Prelude.{IsTrue, ◌↔◌, ◌==◌}
use Rattle.fact_store.specs.View.{cells_of}
use Rattle.audit_report.specs.Passing.{Audited, EachHoldsLid}
use Rattle.audit_report.proofs.Missing.{lids_is}
use Rattle.audit_report.proofs.findings.Audit.has_lids.Goals as goal

pub returns : goal.returns
returns c =
    let a = c.self.inside in
    let many = c.count.result in
    let Judges = λ (x : Audited). IsTrue (many == 0) ↔ EachHoldsLid (cells_of x.facts) x.held in
    subst Judges c.self.view_is
    (subst (λ n. IsTrue (n == 0) ↔ EachHoldsLid (cells_of a.network.facts) a.network.held) (sym c.count.ensures)
    (lids_is (cells_of a.network.facts) a.network.held a.most a.findings.unmatched c.self.invariant.differ))
