-- What is no switch has no rank.
use Rattle.std.proofs.Common.{sym, ap, ◌∙◌, List}
use Rattle.subnet_view.specs.SwitchEdges.{SwitchEdges}
use Rattle.updown_routes.specs.Ranks.{rank_of}
use Rattle.updown_routes.proofs.Outside.{no_rank}
use Rattle.updown_routes.proofs.graph.Graph.rank.Goals as goal

pub returns-in_err-index : goal.returns-in_err-index
returns-in_err-index c =
    let rank = ap (λ (graph : List SwitchEdges). rank_of graph c.args.switch) c.self.view_is in
    c.from_residual.ensures ∙ sym (no_rank c.self.inside.graph.now c.self.invariant.is_graph c.args.switch c.in_err-index.ensures) ∙ rank
