-- By their ranks.
use Rattle.std.proofs.Common.{◌≡◌, ◌∙◌, ℕ, List}
use Rattle.std.specs.Prelude.{count_by, map}
use Rattle.subnet_view.specs.Graph.{guids_of}
use Rattle.plan_order.specs.PlanOrder.{comes_before, rank_position}
use Rattle.std.proofs.lemmas.Result.{IfOk-weaker}
use Rattle.plan_order.proofs.Ranked.{counts_are}
use Rattle.plan_order.proofs.rank_positions.rank_positions.Goals as goal

pub returns : goal.returns
returns c =
    let graph = c.args.graph.now in
    let all : List (ℕ × ℕ) → List ℕ = λ ps. map (λ own. count_by (λ other. comes_before other own) ps) ps in
    IfOk-weaker c.counts_before.result (λ counts. counts.items ≡ all c.deref.result.now)
    (λ positions. positions.items ≡ map (rank_position graph) (guids_of graph))
    (λ counts e.
    counts_are graph c.in_ok-ranked.ranked.items counts.items c.in_ok-ranked.ensures (e ∙ (λ i. all (c.deref.ensures.value i))))
    c.counts_before.ensures
