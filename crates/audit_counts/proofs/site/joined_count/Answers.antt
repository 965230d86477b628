-- All of them.
use Rattle.std.proofs.Common.{◌∙◌, sym}
use Rattle.audit_counts.proofs.Sited.{whole_joined}
use Rattle.audit_counts.proofs.site.joined_count.Goals as goal

pub returns-then-census : goal.returns-then-census
returns-then-census c = whole_joined c.args.sites.now c.args.owner.now (sym c.requires.census.whole ∙ c.if-census.true) c.requires.listed
