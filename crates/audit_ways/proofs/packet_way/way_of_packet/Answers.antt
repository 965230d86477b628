-- The end port is found, or is not there.
use Rattle.std.proofs.Common.{◌≡◌, ◌∙◌, ◌<◌, ℕ, Some, ap, length, sym, subst}
use Rattle.std.specs.Prelude.{option_map, slice_get}
use Rattle.std.proofs.lemmas.Option.{slice_get_within}
use Rattle.fact_store.specs.View.{cells_of}
use Rattle.subnet_view.specs.declared.end_port.EndPort.{EndPort}
use Rattle.subnet_view.specs.EndPort.{end_ports}
use Rattle.held_tables.specs.Switches.{sender_of}
use Rattle.packet_walks.specs.Network.{Seen}
use Rattle.audit_ways.specs.PacketWay.{is_port, way_from_port, way_value}
use Rattle.audit_ways.proofs.PacketWays.{found_nowhere, found_there, index_among}
use Rattle.audit_ways.proofs.packet_way.way_of_packet.Goals as goal

pub way_from-requires : goal.way_from-requires
way_from-requires c =
    let cells = cells_of c.args.network.now.facts in
    let e : EndPort = record { node = c.args.node; port = c.args.port } in
    let at = index_among cells c.sources.result.now e c.index_of.result c.sources.ensures c.index_of.ensures ∙ c.in-Some.is in
    let found = found_there (sender_of cells) (is_port e) (end_ports cells) c.in-Some.index (sender_of cells e) at in
    let seen = c.in_ok-go_to.ensures.seen ∙ c.in_ok-cursor.ensures.seen in
    subst (λ (s : Seen). c.in-Some.index < length (end_ports (cells_of s.facts))) (sym seen)
    (slice_get_within (end_ports cells) c.in-Some.index found.0 found.2)

pub returns-in_default : goal.returns-in_default
returns-in_default c =
    let cells = cells_of c.args.network.now.facts in
    let e : EndPort = record { node = c.args.node; port = c.args.port } in
    let at = index_among cells c.sources.result.now e c.index_of.result c.sources.ensures c.index_of.ensures ∙ c.in_default.is in
    sym (ap (option_map (way_from_port cells c.args.network.now.held c.args.lid)) (found_nowhere (sender_of cells) (is_port e) (end_ports cells) at))

pub returns : goal.returns
returns c =
    let cells = cells_of c.args.network.now.facts in
    let held = c.args.network.now.held in
    let e : EndPort = record { node = c.args.node; port = c.args.port } in
    let at = index_among cells c.sources.result.now e c.index_of.result c.sources.ensures c.index_of.ensures ∙ c.in-Some.is in
    let found = found_there (sender_of cells) (is_port e) (end_ports cells) c.in-Some.index (sender_of cells e) at in
    let seen = c.in_ok-go_to.ensures.seen ∙ c.in_ok-cursor.ensures.seen in
    let goes = subst (λ (s : Seen). slice_get (end_ports (cells_of s.facts)) c.in-Some.index ≡ Some found.0
    → way_value c.in_ok-way_from.field-0 ≡ way_from_port (cells_of s.facts) s.held c.go_to.new.self.lid found.0) seen
    (c.in_ok-way_from.ensures found.0) found.2 in
    ap Some (goes ∙ ap (λ (l : ℕ). way_from_port cells held l found.0) c.in_ok-go_to.ensures.lid)
    ∙ sym (ap (option_map (way_from_port cells held c.args.lid)) found.1)
