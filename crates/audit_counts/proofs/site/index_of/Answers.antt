-- At the index, or next to it.
use Rattle.std.proofs.Common.{◌∙◌, sym}
use Rattle.audit_counts.proofs.Sited.{site_at}
use Rattle.audit_counts.proofs.site.index_of.Goals as goal

pub returns-then-is_site_at : goal.returns-then-is_site_at
returns-then-is_site_at c = site_at c.args.sites.now c.args.port.now c.args.index (sym c.is_site_at.ensures ∙ c.if-is_site_at.true)

pub returns-then-is_site_at-2 : goal.returns-then-is_site_at-2
returns-then-is_site_at-2 c =
    site_at c.args.sites.now c.args.port.now c.saturating_add-next.result (sym c.is_site_at-2.ensures ∙ c.if-is_site_at-2.true)
