-- The index has the new link.
use Rattle.std.proofs.Common.{◌≡◌, ℕ, Some, None, ap, ◌∙◌, subst}
use Rattle.std.specs.BTreeMap.{Updates}
use Rattle.fabric_model.specs.Cables.{other_end}
use Rattle.smp_bytes.specs.Ports.{node_port_cmp}
use Rattle.topo_file.proofs.Indexes.{ends_indexed}
use Rattle.topo_file.proofs.links.Links.with_new.Goals as goal

pub invariant_of-result : goal.invariant_of-result
invariant_of-result c =
    let link = c.args.link in
    let before = c.self.inside.links.items in
    let across = c.self.inside.across in
    let one : other_end before link.one ≡ None = ap (λ ls. other_end ls link.one) c.self.view_is ∙ c.requires.one in
    let other : other_end before link.other ≡ None = ap (λ ls. other_end ls link.other) c.self.view_is ∙ c.requires.other in
    let u = subst (λ (k : ℕ × ℕ). Updates node_port_cmp across c.insert.new.self k (Some link.other)) c.key.ensures c.in_ok-insert.ensures.updates in
    let v = subst (λ (k : ℕ × ℕ). Updates node_port_cmp c.insert.new.self c.insert-2.new.self k (Some link.one))
    c.key-2.ensures c.in_ok-insert-2.ensures.updates in
    rw c.in_ok-push.ensures.items (ends_indexed before across c.insert.new.self c.insert-2.new.self link one other c.self.invariant u v)
