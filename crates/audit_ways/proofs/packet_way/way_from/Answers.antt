-- The channels and the end of the packet.
use Rattle.std.proofs.Common.{◌≡◌, ◌∙◌, map, ap, subst}
use Rattle.fact_store.specs.View.{cells_of}
use Rattle.subnet_view.specs.EndPort.{end_ports}
use Rattle.held_tables.specs.Switches.{sender_of}
use Rattle.held_tables.specs.Tables.{owners_of}
use Rattle.held_tables.specs.declared.senders.Sender.{Sender}
use Rattle.packet_walks.specs.Edges.{edges_of}
use Rattle.packet_walks.specs.Network.{Seen}
use Rattle.audit_ways.specs.PacketWay.{channels_after, first_switch_for}
use Rattle.audit_ways.proofs.PacketWays.{end_at, source_is}
use Rattle.audit_ways.proofs.packet_way.way_from.Goals as goal

pub returns : goal.returns
returns c = λ e at.
    let cursor = c.args.cursor.now in
    let cells = cells_of cursor.seen.facts in
    let all = subst (λ (s : Seen). c.sources.result.now ≡ map (sender_of (cells_of s.facts)) (end_ports (cells_of s.facts))) c.network.ensures
    c.sources.ensures in
    let source = source_is cells c.sources.result.now c.args.index c.index-sources-index.result e all c.index-sources-index.is at in
    let channels = c.in_ok-channels.ensures
    ∙ ap (λ (s : Sender). channels_after (edges_of cells cursor.seen.held cursor.lid) (first_switch_for (owners_of cursor.seen.held cursor.lid) s)) source in
    let end = c.at-end.ensures ∙ end_at cells cursor.seen.held cursor.lid c.in_ok-ends.field-0.ends c.args.index e c.in_ok-ends.ensures.0 at in
    λ i. record { channels = channels i; end = end i }
