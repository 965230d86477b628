-- The index has the new node.
use Rattle.std.proofs.Common.{◌≡◌, ℕ, List, Some, None, length, sym, ap, ◌∙◌, subst, arith}
use Rattle.std.specs.BTreeMap.{Updates}
use Rattle.std.specs.Cmp.Lexicographic.{slice_cmp}
use Rattle.std.specs.Ordering.{nat_cmp}
use Rattle.topo_file.specs.Topology.{id_of}
use Rattle.topo_file.proofs.Indexes.{ids_more, nowhere}
use Rattle.topo_file.proofs.nodes.Nodes.with.Goals as goal

pub invariant_of-result : goal.invariant_of-result
invariant_of-result c =
    let before = c.self.inside.nodes.items in
    let ids = c.self.inside.ids in
    let new = c.insert.new.self in
    let count : c.len-id.result ≡ length before = c.len-id.ensures.count ∙ ap length (sym c.self.view_is) in
    let none : id_of before c.args.node.name ≡ None = ap (λ ns. id_of ns c.args.node.name) c.self.view_is ∙ sym c.id.ensures
    ∙ nowhere _ c.if-is_some.ensures in
    let u = subst (λ (k : List ℕ). Updates (slice_cmp nat_cmp) ids new k (Some c.new.result)) c.copied-name.ensures c.in_ok-insert.ensures.updates in
    let v = subst (λ (n : ℕ). Updates (slice_cmp nat_cmp) ids new c.args.node.name (Some n)) (c.new.ensures ∙ count) u in
    rw c.in_ok-push.ensures.items (ids_more before ids new c.args.node (omega arith) none c.self.invariant v)
