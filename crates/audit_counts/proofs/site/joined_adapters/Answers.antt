-- None, or all of them.
use Rattle.std.proofs.Common.{◌∙◌, sym}
use Rattle.audit_counts.proofs.Sited.{adapters_joined, none_joined}
use Rattle.audit_counts.proofs.site.joined_adapters.Goals as goal

pub returns-then-not-is_adapter : goal.returns-then-not-is_adapter
returns-then-not-is_adapter c = none_joined c.args.sites.now c.args.owner.now (sym c.is_adapter.ensures ∙ c.if-not-is_adapter.true)

pub returns-then-census : goal.returns-then-census
returns-then-census c =
    c.requires.census.adapters
    ∙ adapters_joined c.args.sites.now c.args.owner.now (sym c.requires.census.whole ∙ c.if-census.true) c.requires.listed
    (sym c.is_adapter.ensures ∙ c.if-not-is_adapter.false)
