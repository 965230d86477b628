-- An adapter port more.
use Rattle.std.proofs.Common.{◌+◌, ◌∙◌, sym, subst}
use Rattle.fact_store.specs.View.{cells_of}
use Rattle.audit_ways.specs.declared.sender_groups.Groups.{Groups}
use Rattle.audit_ways.specs.SenderGroups.{AreGrouped}
use Rattle.audit_ways.specs.Ways.{is_adapter}
use Rattle.audit_ways.proofs.Grouped.{first_of, is_within, none_more, one_more, source_at}
use Rattle.audit_ways.proofs.sender_groups.senders.Goals as goal
use Rattle.audit_ways.proofs.sender_groups.senders.Goals.{then-is_adapter+in_ok-join, else-is_adapter}

pub join-requires : goal.join-requires
join-requires c =
    let cells = cells_of c.args.network.now.facts in
    let n = c.loop-source.source-index in
    let source = c.source-item.result in
    let at = source_at cells c.sources-source-items.result.now n source c.sources-source-items.ensures c.loop-source-test.true c.source-item.is in
    is_within cells c.loop-source.groups (first_of cells is_adapter n) source.far source.port.node source.port.port c.loop-source.invariant at.far_is

pub loop-source-preserved : goal.loop-source-preserved
loop-source-preserved c =
    let cells = cells_of c.args.network.now.facts in
    let n = c.loop-source.source-index in
    let source = c.source-item.result in
    let groups = c.loop-source.groups in
    let at = source_at cells c.sources-source-items.result.now n source c.sources-source-items.ensures c.loop-source-test.true c.source-item.is in
    let Grouped = λ (g : Groups). AreGrouped cells (first_of cells is_adapter (n + 1)) g in
    elim c.if-is_adapter.branch [
      | then-is_adapter+in_ok-join w ↦
          subst Grouped (sym w.groups-is)
          (one_more cells is_adapter n source.port source.far groups w.join.new.self c.loop-source.invariant at.less at.port_is
          (sym c.is_adapter.ensures ∙ w.if-is_adapter.true) at.far_is w.in_ok-join.ensures)
      | else-is_adapter w ↦
          subst Grouped (sym w.groups-is)
          (none_more cells is_adapter n source.port groups c.loop-source.invariant at.less at.port_is (sym c.is_adapter.ensures ∙ w.if-is_adapter.false))
    ]
