use Rattle.std.proofs.Common.{ℕ, List, sym, ap, ◌∙◌, length}
use Rattle.port_graph.specs.declared.edge.Edge.{Edge}
use Rattle.port_graph.specs.Heads.{edges_at}
use Rattle.spread_labels.specs.MarkSets.{picked, sets_at}
use Rattle.spread_labels.proofs.Numbers.{numbers_long}
use Rattle.balanced_choices.proofs.target_ways.TargetWays.of.Goals as goal

pub invariant_of-result : goal.invariant_of-result
invariant_of-result c =
    let graph = c.traffic.inside.graph.now in
    let f : ℕ → List Edge = λ p. picked c.args.k (sets_at c.args.sets.now p) (edges_at graph p) in
    let long = ap length c.in_ok-ways.ensures ∙ numbers_long f 0 (length graph) in
    record {
      order_is = c.in_ok-order.ensures.order;
      sent_long = c.traffic.invariant.sent_long ∙ sym long;
      digits_long = c.traffic.invariant.digits_long ∙ sym long;
    }
