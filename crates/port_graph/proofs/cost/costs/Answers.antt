-- Vertex by vertex.
use Rattle.std.proofs.Common.{◌≡◌, ◌<◌, ◌+◌, List, ℕ, sym, ap, ◌∙◌, subst, arith, length}
use Rattle.std.specs.Prelude.{Option, None, Contains, slice_index_or}
use Rattle.port_graph.specs.declared.edge.Edge.{Edge}
use Rattle.port_graph.specs.Heads.{edges_at}
use Rattle.port_graph.specs.NextPorts.{AreCosts, cost_of}
use Rattle.port_graph.proofs.Searching.{known_below}
use Rattle.port_graph.proofs.SearchSteps.{all_from_contained}
use Rattle.port_graph.proofs.CostSteps.{AreBounded, costs_more, bounded_more}
use Rattle.port_graph.proofs.cost.costs.Goals as goal

pub cost-cost-requires-clause-known : goal.cost-cost-requires-clause-known
cost-cost-requires-clause-known c =
    all_from_contained (λ (e : Edge). e.to < length c.deref.result.now) c.at.result.now
    (λ e h. omega (
      arith,
      c.requires.rise c.loop-vertex.vertex e (subst (λ (xs : List Edge). Contains xs e) c.at.ensures h),
      c.loop-vertex.invariant.0.all,
      ap
          length c.deref.ensures.value,
    ))

pub cost-cost-requires-clause-room : goal.cost-cost-requires-clause-room
cost-cost-requires-clause-room c =
    λ a n h.
    let k = ap (λ xs. slice_index_or xs a None) (sym c.deref.ensures.value) ∙ h in
    omega (arith, c.loop-vertex.invariant.1 a n k, known_below c.loop-vertex.costs.items a n k, c.loop-vertex.invariant.0.all, c.in_ok-costs.ensures.exact)

pub loop-vertex-preserved : goal.loop-vertex-preserved
loop-vertex-preserved c =
    let n = c.loop-vertex.vertex in
    let costs = c.loop-vertex.costs.items in
    let is : c.cost-cost.result ≡ cost_of (slice_index_or c.args.distances.now n None) (edges_at c.args.ups.now n) costs =
    c.cost-cost.ensures ∙ (λ i. cost_of (slice_index_or c.args.distances.now n None) (c.at.ensures i) (c.deref.ensures.value i)) in
    let Are : List (Option ℕ) → Type 0 = λ costs. AreCosts c.args.ups.now c.args.distances.now (n + 1) costs × AreBounded (length c.args.ups.now) costs in
    subst Are (sym c.in_ok-push.ensures.items) (
      costs_more c.args.ups.now c.requires.rise c.args.distances.now n costs c.loop-vertex.invariant.0 c.cost-cost.result is,
      bounded_more c.args.ups.now c.requires.rise (length c.args.ups.now) n (slice_index_or c.args.distances.now n None) costs c.cost-cost.result
          c.loop-vertex.invariant.0.all is
          (λ m e. c.requires.less n m e) c.loop-vertex.invariant.1,
    )
