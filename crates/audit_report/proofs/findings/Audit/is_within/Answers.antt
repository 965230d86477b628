-- The figures of the loads are those of what was audited.
use Rattle.std.proofs.Common.{◌∙◌, ap}
use Rattle.fact_store.specs.View.{cells_of}
use Rattle.audit_counts.specs.Figures.{figures_of}
use Rattle.audit_counts.specs.Ways.{loads_of}
use Rattle.audit_report.specs.Passing.{Audited, is_within}
use Rattle.audit_report.proofs.findings.Audit.is_within.Goals as goal

pub returns : goal.returns
returns c =
    c.is_within.ensures ∙ ap (is_within c.args.bound) c.self.invariant.told.load
    ∙ ap (λ (x : Audited). is_within c.args.bound (figures_of (loads_of (cells_of x.facts) x.held))) c.self.view_is
