-- An end port more.
use Rattle.std.proofs.Common.{◌+◌, ◌∙◌, sym, subst}
use Rattle.fact_store.specs.View.{cells_of}
use Rattle.audit_ways.specs.declared.sender_groups.Groups.{Groups}
use Rattle.audit_ways.specs.SenderGroups.{AreGrouped}
use Rattle.audit_ways.specs.Ways.{reaches}
use Rattle.audit_ways.proofs.Grouped.{arrives_there, first_of, is_within, none_more, one_more, source_at}
use Rattle.audit_ways.proofs.sender_groups.group_packets.Goals as goal
use Rattle.audit_ways.proofs.sender_groups.group_packets.Goals.{then-reaches+in_ok-join, else-reaches}

pub join-requires : goal.join-requires
join-requires c =
    let cells = cells_of c.args.network.now.facts in
    let n = c.loop-index.index in
    let source = c.source-item.result in
    let at = source_at cells c.sources-source-items.result.now n source c.sources-source-items.ensures c.loop-index-test.true c.source-item.is in
    is_within cells c.loop-index.groups (first_of cells (reaches cells c.args.network.now.held c.args.line.now) n) source.far source.port.node source.port.port
    c.loop-index.invariant at.far_is

pub loop-index-preserved : goal.loop-index-preserved
loop-index-preserved c =
    let cells = cells_of c.args.network.now.facts in
    let held = c.args.network.now.held in
    let line = c.args.line.now in
    let n = c.loop-index.index in
    let source = c.source-item.result in
    let groups = c.loop-index.groups in
    let test = reaches cells held line in
    let at = source_at cells c.sources-source-items.result.now n source c.sources-source-items.ensures c.loop-index-test.true c.source-item.is in
    let tests =
    arrives_there cells held line c.args.ends.now.port c.args.ends.now.ends n source.port c.arrives.result c.requires.brought c.requires.port at.less at.port_is
    c.arrives.ensures in
    let Grouped = λ (g : Groups). AreGrouped cells (first_of cells test (n + 1)) g in
    elim c.if-reaches.branch [
      | then-reaches+in_ok-join w ↦
          subst Grouped (sym w.groups-is)
          (one_more cells test n source.port source.far groups w.join.new.self c.loop-index.invariant at.less at.port_is (tests
          ∙ sym w.if-reaches.ensures) at.far_is
          w.in_ok-join.ensures)
      | else-reaches w ↦
          subst Grouped (sym w.groups-is)
          (none_more cells test n source.port groups c.loop-index.invariant at.less at.port_is (tests ∙ sym w.if-reaches.ensures))
    ]
