-- At the first, or behind the last.
use Rattle.std.proofs.Common.{◌∙◌, sym}
use Rattle.audit_counts.proofs.Sited.{first_none, first_some}
use Rattle.audit_counts.proofs.site.first_at.Goals as goal

pub returns-in-Some : goal.returns-in-Some
returns-in-Some c = first_some c.args.port.now c.args.sites.now c.in-Some.index (sym c.position_of.ensures ∙ c.in-Some.is)

pub returns-in-None : goal.returns-in-None
returns-in-None c = first_none c.args.port.now c.args.sites.now (sym c.position_of.ensures ∙ c.in-None.is)
