-- By what was counted.
use Rattle.std.proofs.Common.{subst, refl}
use Rattle.std.specs.Prelude.{IsTrue, ◌↔◌, ◌==◌}
use Rattle.fact_store.specs.View.{cells_of}
use Rattle.audit_report.specs.Passing.{Audited, EachArrives}
use Rattle.audit_report.proofs.Judged.{arrive_is}
use Rattle.audit_report.proofs.findings.Audit.all_arrive.Goals as goal

pub returns : goal.returns
returns c =
    let a = c.self.inside in
    let f = a.findings in
    let b = (f.tally.all.arrived == f.tally.all.sent) in
    let Judges = λ (x : Audited). IsTrue b ↔ EachArrives (cells_of x.facts) x.held in
    subst Judges c.self.view_is
    (arrive_is a.most a.network f.tally f.unmatched f.disputed f.ways f.cycle.items f.sites.items b c.self.invariant refl)
