use Rattle.std.proofs.Common.{◌+◌, sym, ap, ◌∙◌, subst}
use Rattle.subnet_view.specs.Graph.{guids_of}
use Rattle.subnet_view.specs.SwitchGraph.{IsIndexIn}
use Rattle.spread_routes.proofs.Positions.{AreIndices, index_more, index_none}
use Rattle.spread_routes.proofs.index.indices.Goals as goal
use Rattle.spread_routes.proofs.index.indices.Goals.{in-Some+in_ok-push, in_default}

pub loop-guid-preserved : goal.loop-guid-preserved
loop-guid-preserved c =
    let graph = c.args.graph.now in
    let guids = c.args.guids.now in
    let k = c.loop-guid.guid-index in
    elim c.match-index_of.branch [
      | in-Some+in_ok-push w ↦
          subst (AreIndices graph guids (k + 1)) (sym (ap (λ v. v.items) w.found-is ∙ w.in_ok-push.ensures.items))
          (index_more graph guids k c.guid-item.result w.in-Some.index c.loop-guid.found.items c.loop-guid-test.true c.guid-item.is w.in-Some.ensures c.requires
          c.loop-guid.invariant)
      | in_default w ↦
          subst (AreIndices graph guids (k + 1)) (sym (ap (λ v. v.items) w.found-is))
          (index_none graph guids k c.guid-item.result c.loop-guid.found.items c.loop-guid-test.true c.guid-item.is
          (subst (IsIndexIn (guids_of graph) c.guid-item.result) w.in_default.is c.index_of.ensures) c.loop-guid.invariant)
    ]
