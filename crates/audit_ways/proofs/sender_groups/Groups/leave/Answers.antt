-- A weight or the count over one wire has one less.
use Rattle.std.proofs.Common.{◌≡◌, ◌+◌, ◌∙◌, ◌++◌, List, ℕ, length, get_or, set, take, drop, refl, sym, ap, arith}
use Rattle.std.proofs.Math.Seq.{take-append_seam}
use Rattle.audit_ways.proofs.Grouped.{at_switch, in_list, one_at_switch}
use Rattle.audit_ways.proofs.sender_groups.Groups.leave.Goals as goal

pub returns-in-Switch : goal.returns-in-Switch
returns-in-Switch c =
    let was = c.args.self.now.weights in
    let new = c.unload.new.weights in
    let first = c.in-Switch.first in
    let rest = drop (length new) was.items in
    let long : was.len ≡ length new = omega (arith, c.unload.auto.weights, ap length c.deref_mut.ensures.value, was.ok.0) in
    let kept : take was.len (new ++ rest) ≡ new = ap (λ n. take n (new ++ rest)) long ∙ take-append_seam new rest in
    let within = in_list was.items first (at_switch c.args.self.now c.args.far.now first c.in-Switch.is c.requires) in
    let all = ap length kept in
    one_at_switch _ c.args.self.now c.args.far.now first c.in-Switch.is (omega (arith, within, all, long, was.ok.0))
    (sym c.deref_mut.ensures.value ∙ c.unload.ensures ∙ ap (λ (xs : List ℕ). set xs first (get_or xs first 0 + 1)) (sym kept)) refl
