-- It is there, or comes behind.
use Rattle.std.proofs.Common.{◌≡◌, ℕ, true, sym, ap, ◌∙◌, ◌==◌}
use Rattle.std.specs.List.{list_any}
use Rattle.audit_channels.proofs.Made.{with_found}
use Rattle.audit_channels.proofs.following.put.Goals as goal

pub returns-else-not-is_among-clause-added : goal.returns-else-not-is_among-clause-added
returns-else-not-is_among-clause-added c =
    let there : list_any (λ (x : ℕ). c.args.channel == x) c.args.channels.now.items ≡ true =
    ap (list_any (λ (x : ℕ). c.args.channel == x)) (sym c.deref.ensures.value) ∙ sym c.is_among.ensures ∙ c.if-not-is_among.false in
    with_found c.args.channels.now.items c.args.channel there
