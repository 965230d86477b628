use Rattle.std.proofs.Common.{◌≡◌, ◌<◌, ◌+◌, ◌++◌, [], ◌∷◌, true, sym, ap, ◌∙◌, subst, arith, add-one, length}
use Rattle.std.proofs.lemmas.List.{length-set}
use Rattle.std.specs.Prelude.{slice_set}
use Rattle.spread_labels.specs.KeyOrder.{before_by}
use Rattle.spread_labels.proofs.Earlier.{IsBelow}
use Rattle.depth_orders.specs.DepthOrder.{depth_after, flag_at, is_among, next_by_depth, turned, with_next}
use Rattle.depth_orders.proofs.Flags.{flags_more}
use Rattle.depth_orders.proofs.depth_order.order_by_depth.Goals as goal
use Rattle.depth_orders.proofs.depth_order.order_by_depth.Goals.{in-Some+in_ok-push-2, in_default}

pub loop-preserved : goal.loop-preserved
loop-preserved c =
    let edges = c.args.edges.now in
    let before = turned c.args.direction (before_by c.args.keys.now) in
    let root = c.args.root in
    let n = c.loop.counter in
    let i = c.loop.invariant in
    let same : flag_at c.loop.placed.items ≡ is_among c.loop.vertices.items = λ k s. i.flags s k in
    let told : c.next_by_depth.result ≡ next_by_depth edges before (is_among c.loop.vertices.items) c.loop.vertices.items =
    c.next_by_depth.ensures.next ∙ (λ k. next_by_depth edges before (flag_at (c.deref.ensures.value k)) (c.deref-in-loop.ensures.value k))
    ∙ ap (λ f. next_by_depth edges before f c.loop.vertices.items) same in
    let goes : depth_after edges before root (n + 1) ≡ with_next c.loop.vertices.items c.next_by_depth.result =
    ap (depth_after edges before root) (add-one n)
    ∙ (λ k. with_next (sym i.order k) (next_by_depth edges before (is_among (sym i.order k)) (sym i.order k)))
    ∙ ap (with_next c.loop.vertices.items) (sym told) in
    elim c.match-next_by_depth.branch [
      | in-Some+in_ok-push-2 w ↦
          let v = w.in-Some.vertex in
          let below : v < length edges = subst (IsBelow (length edges)) w.in-Some.is c.next_by_depth.ensures.vertex in
          let vertices : c.match-next_by_depth.vertices.items ≡ c.loop.vertices.items ++ v ∷ [] =
          ap (λ x. x.items) w.vertices-is ∙ w.in_ok-push-2.ensures.items in
          let placed : c.match-next_by_depth.placed.items ≡ slice_set c.loop.placed.items v true = ap (λ x. x.items) w.placed-is in
          record {
            order = vertices ∙ sym (goes ∙ ap (with_next c.loop.vertices.items) w.in-Some.is);
            long = ap length placed ∙ length-set c.loop.placed.items v true ∙ i.long;
            flags = λ s. ap (λ xs. flag_at xs s) placed
                ∙ flags_more c.loop.placed.items c.loop.vertices.items v (omega (arith, below, i.long)) i.flags s
                ∙ ap (λ xs. is_among xs s) (sym vertices);
          }
      | in_default w ↦
          let vertices : c.match-next_by_depth.vertices.items ≡ c.loop.vertices.items = ap (λ x. x.items) w.vertices-is in
          let placed : c.match-next_by_depth.placed.items ≡ c.loop.placed.items = ap (λ x. x.items) w.placed-is in
          record {
            order = vertices ∙ sym (goes ∙ ap (with_next c.loop.vertices.items) w.in_default.is);
            long = ap length placed ∙ i.long;
            flags = λ s. ap (λ xs. flag_at xs s) placed ∙ i.flags s ∙ ap (λ xs. is_among xs s) (sym vertices);
          }
    ]
