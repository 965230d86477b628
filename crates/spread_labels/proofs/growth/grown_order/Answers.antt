use Rattle.std.proofs.Common.{◌≡◌, ◌<◌, ◌+◌, ◌-◌, ℕ, suc, List, replicate, sym, ap, ◌∙◌, subst, arith, length}
use Rattle.std.specs.Prelude.{Contains}
use Rattle.std.proofs.lemmas.List.{with_items_is}
use Rattle.std.specs.Vec.{with_items}
use Rattle.port_graph.specs.declared.edge.Edge.{Edge}
use Rattle.port_graph.specs.Heads.{edges_at}
use Rattle.port_graph.proofs.SearchSteps.{all_from_contained}
use Rattle.spread_labels.specs.declared.growth.Stage.TheVariants.{Left}
use Rattle.spread_labels.specs.KeyOrder.{before_by}
use Rattle.spread_labels.specs.Growth.{next_at, after_add_vertex}
use Rattle.spread_labels.proofs.Earlier.{IsBelow}
use Rattle.spread_labels.proofs.OrderSteps.{IsGrowing, begins, grows, length-after_add_vertex, rests}
use Rattle.spread_labels.proofs.growth.grown_order.Goals as goal
use Rattle.spread_labels.proofs.growth.grown_order.Goals.{in-Some+in_ok-push, in_default}

pub loop-init : goal.loop-init
loop-init c =
    let n = length c.args.edges.now in
    let count : n - 0 ≡ n = omega arith in
    let none : c.in_ok-stages.stages.items ≡ replicate n Left =
    c.in_ok-stages.ensures.items_if_clones_equal (λ k h. h) ∙ ap (λ m. replicate m Left) c.len.ensures in
    subst (λ (l : List ℕ). IsGrowing c.args.edges.now (before_by c.args.keys.now) (n - 0) l c.in_ok-stages.stages.items) (sym c.in_ok-vertices.ensures.items)
    (begins c.args.edges.now (before_by c.args.keys.now) (n - 0) c.in_ok-stages.stages.items count none)

pub add_vertex-requires-clause-vertex : goal.add_vertex-requires-clause-vertex
add_vertex-requires-clause-vertex c =
    let found = subst (IsBelow (length c.args.keys.now)) c.in-Some.is c.next_vertex.ensures.vertex in
    omega (arith, found, c.requires.keys, c.loop.invariant.all, c.deref_mut.ensures.len, ap length c.deref_mut.ensures.value)

pub add_vertex-requires-clause-lead : goal.add_vertex-requires-clause-lead
add_vertex-requires-clause-lead c =
    all_from_contained (λ (e : Edge). e.to < length c.deref_mut.result.now) c.at.result.now
    (λ e h. omega (
      arith,
      c.loop.invariant.all,
      ap length c.deref_mut.ensures.value,
      c.requires.lead c.in-Some.vertex e
          (subst (λ (xs : List Edge). Contains xs e) c.at.ensures h),
    ))

pub loop-preserved : goal.loop-preserved
loop-preserved c =
    let edges = c.args.edges.now in
    let before = before_by c.args.keys.now in
    let n = length edges - (c.loop.counter + 1) in
    let left : length edges - c.loop.counter ≡ suc n = omega (arith, c.loop-test.true, c.len-end.ensures) in
    let was : IsGrowing edges before (suc n) c.loop.vertices.items c.loop.stages.items =
    subst (λ (k : ℕ). IsGrowing edges before k c.loop.vertices.items c.loop.stages.items) left c.loop.invariant in
    let told : c.next_vertex.result ≡ next_at before c.loop.stages.items (length edges) =
    c.next_vertex.ensures.next ∙ (λ i. next_at before (c.deref.ensures.value i) (c.requires.keys i)) in
    elim c.match-next_vertex.branch [
      | in-Some+in_ok-push w ↦
          let v = w.in-Some.vertex in
          let within : v < length c.args.keys.now = subst (IsBelow (length c.args.keys.now)) w.in-Some.is c.next_vertex.ensures.vertex in
          let moved : w.add_vertex.new.stages ≡ after_add_vertex v (edges_at edges v) c.loop.stages.items =
          w.add_vertex.ensures ∙ (λ i. after_add_vertex v (w.at.ensures i) (w.deref_mut.ensures.value i)) in
          let long : length w.add_vertex.new.stages ≡ length c.loop.stages.items =
          ap length moved ∙ length-after_add_vertex v (edges_at edges v) c.loop.stages.items in
          let written : (with_items c.loop.stages w.add_vertex.new.stages).items ≡ w.add_vertex.new.stages =
          with_items_is c.loop.stages w.add_vertex.new.stages (long ∙ sym (ap length w.deref_mut.ensures.value) ∙ w.deref_mut.ensures.len) in
          grows edges before c.requires.lead c.requires.symmetric n c.loop.vertices.items c.match-next_vertex.vertices.items c.loop.stages.items
          c.match-next_vertex.stages.items v
          was (sym told ∙ w.in-Some.is) (omega (arith, within, c.requires.keys))
          (ap (λ x. x.items) w.vertices-is ∙ w.in_ok-push.ensures.items) (ap (λ x. x.items) w.stages-is ∙ written ∙ moved)
      | in_default w ↦
          let same : IsGrowing edges before n c.loop.vertices.items c.loop.stages.items =
          rests edges before c.requires.lead c.requires.symmetric n c.loop.vertices.items c.loop.stages.items was (sym told ∙ w.in_default.is) in
          subst (λ (l : List ℕ). IsGrowing edges before n l c.match-next_vertex.stages.items) (sym (ap (λ x. x.items) w.vertices-is))
          (subst (IsGrowing edges before n c.loop.vertices.items) (sym (ap (λ x. x.items) w.stages-is)) same)
    ]
