-- A weight or the count over one wire has one more.
use Rattle.std.proofs.Common.{◌≡◌, ◌+◌, ◌∙◌, ◌++◌, List, ℕ, length, get_or, set, take, drop, refl, ap, arith}
use Rattle.std.proofs.Math.Seq.{take-append_seam}
use Rattle.std.proofs.lemmas.Result.{on_ok_weaker}
use Rattle.audit_ways.proofs.Grouped.{one_at_switch}
use Rattle.audit_ways.proofs.sender_groups.Groups.join.Goals as goal

pub returns-in-Switch : goal.returns-in-Switch
returns-in-Switch c =
    let was = c.args.self.now.weights in
    let new = c.load_channel.new.loads in
    let first = c.in-Switch.first in
    let rest = drop (length new) was.items in
    let long : was.len ≡ length new = omega (arith, c.load_channel.auto.loads, ap length c.deref_mut.ensures.value, was.ok.0) in
    let kept : take was.len (new ++ rest) ≡ new = ap (λ n. take n (new ++ rest)) long ∙ take-append_seam new rest in
    on_ok_weaker c.load_channel.result
    (λ put. one_at_switch c.args.self.now _ c.args.far.now first c.in-Switch.is (c.requires first c.in-Switch.is)
    (kept ∙ put ∙ ap (λ (xs : List ℕ). set xs first (get_or xs first 0 + 1)) c.deref_mut.ensures.value) refl)
    c.load_channel.ensures
