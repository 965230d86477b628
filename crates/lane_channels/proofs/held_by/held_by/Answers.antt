-- An end port more.
use Rattle.std.proofs.Common.{◌∙◌, arith}
use Rattle.fact_store.specs.View.{cells_of}
use Rattle.subnet_view.specs.EndPort.{end_ports}
use Rattle.lane_channels.specs.Levels.{lids_held, lids_on}
use Rattle.lane_channels.proofs.FarPorts.{list_more, sender_at}
use Rattle.lane_channels.proofs.held_by.held_by.Goals as goal

pub loop-source-preserved : goal.loop-source-preserved
loop-source-preserved c =
    let cells = cells_of c.args.network.now.facts in
    let held = c.args.network.now.held in
    let i = c.loop-source.source-index in
    let s = sender_at cells c.sources-source-items.result.now i c.source-item.result c.sources-source-items.ensures (omega arith) c.source-item.is in
    list_more (lids_held held) (end_ports cells) i s.0 c.loop-source.held_by.items c.push.new.self.items c.in_ok-lids_on.field-0 s.1
    c.loop-source.invariant c.in_ok-push.ensures.items
    (c.in_ok-lids_on.ensures ∙ (λ k. lids_on (c.lids.ensures k) (s.2 k)))
