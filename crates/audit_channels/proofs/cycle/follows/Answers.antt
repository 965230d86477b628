-- It is among those that follow.
use Rattle.std.proofs.Common.{◌≡◌, ℕ, ◌∙◌, ap, sym}
use Rattle.std.specs.Prelude.{slice_index_or, ◌==◌, []}
use Rattle.std.specs.List.{list_any}
use Rattle.audit_channels.proofs.Cycles.{is_among}
use Rattle.audit_channels.proofs.cycle.follows.Goals as goal

pub returns : goal.returns
returns c =
    let following = slice_index_or c.args.waits.now c.args.channel [] in
    let is : c.is_on.result ≡ list_any (λ (x : ℕ). c.args.next == x) following =
    c.is_on.ensures ∙ ap (list_any (λ (x : ℕ). c.args.next == x)) c.at.ensures in
    (λ e. (is_among following c.args.next).0 (sym is ∙ e), λ h. is ∙ (is_among following c.args.next).1 h)
