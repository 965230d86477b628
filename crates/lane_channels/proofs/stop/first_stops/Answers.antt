-- A sender more.
use Rattle.std.proofs.Common.{◌∙◌, sym, ap, arith}
use Rattle.fact_store.specs.View.{cells_of}
use Rattle.subnet_view.specs.EndPort.{end_ports}
use Rattle.held_tables.specs.Switches.{first_switch}
use Rattle.lane_channels.specs.Stops.{first_stop, stop_from}
use Rattle.lane_channels.specs.FarPorts.{far_port}
use Rattle.lane_channels.proofs.FarPorts.{first_below, item_more, sender_is}
use Rattle.lane_channels.proofs.stop.first_stops.Goals as goal

pub first_stop-requires : goal.first_stop-requires
first_stop-requires c =
    let cells = cells_of c.args.network.now.facts in
    let s =
    sender_is cells c.sources-source-items.result.now c.loop-source.source-index c.source-item.result c.sources-source-items.ensures (omega arith)
    c.source-item.is in
    λ index is. (
    let less = first_below cells s.0 index (ap first_switch (sym s.2) ∙ is) in
    omega arith)

pub loop-source-preserved : goal.loop-source-preserved
loop-source-preserved c =
    let cells = cells_of c.args.network.now.facts in
    let i = c.loop-source.source-index in
    let s = sender_is cells c.sources-source-items.result.now i c.source-item.result c.sources-source-items.ensures (omega arith) c.source-item.is in
    item_more (first_stop cells) (end_ports cells) i s.0 c.loop-source.firsts.items c.push.new.self.items c.first_stop.result s.1 c.loop-source.invariant
    c.in_ok-push.ensures.items
    (c.first_stop.ensures
    ∙ (λ k. stop_from (s.2 k) (far_port (cells_of (c.subnet.ensures k)) (s.2 k).port.node (s.2 k).port.port)))
