-- What becomes of packets for a LID that one end port alone holds.
use Rattle.std.proofs.Common.{◌≡◌, ◌∙◌, ◌+◌, ◌*◌, ℕ, [], ◌∷◌, Some, length, sym, ap}
use Rattle.std.specs.Prelude.{slice_index_or}
use Rattle.std.proofs.lemmas.List.{get_or-map}
use Rattle.packet_walks.specs.declared.next_hop.NextHop.TheVariants.{To}
use Rattle.held_tables.specs.declared.owners.Owner.TheVariants.{Several}
use Rattle.packet_walks.specs.BlockDeliveries.{hops_at, hops_for, target_at}
use Rattle.packet_walks.specs.HopsByTables.{next_hop_of}
use Rattle.held_tables.specs.Owners.{sole_among}
use Rattle.packet_walks.specs.EndsBySwitch.{onward}
use Rattle.packet_walks.proofs.GoneBack.{hop_seen}
use Rattle.packet_walks.proofs.block_deliveries.BlockWalks.add_last.Goals as goal

pub returns-in_ok-add_hop : goal.returns-in_ok-add_hop
returns-in_ok-add_hop c =
    let a = c.args in
    let nodes = a.nodes.now in
    let owners = a.owners.now in
    let rows = a.rows.now in
    let number = a.number in
    let switch = a.switch in
    let lid = 64 * number + a.index in
    let old = a.self.now in
    let port = c.in-Some.port in
    let hop = c.next_hop_at-hop.result in
    let node = c.index-nodes-switch.result in
    let target : target_at owners number a.index ≡ Some port =
    sym (c.in-Some.ensures ∙ ap (λ (k : ℕ). sole_among (slice_index_or owners k Several)) c.lid_at-lid.ensures) in
    let there : onward (hops_at nodes owners rows number a.index) (To switch) ≡ next_hop_of (port ∷ []) rows lid node =
    ap (λ t. onward (hops_for nodes rows lid t) (To switch)) target
    ∙ get_or-map (next_hop_of (port ∷ []) rows lid) nodes switch node (To switch) c.requires.switch
    ∙ ap (next_hop_of (port ∷ []) rows lid) (sym c.index-nodes-switch.is) in
    hop_seen (length nodes) (hops_at nodes owners rows number) (target_at owners number) old.arrived.items c.add_hop.new.self.arrived.items
    old.exits.items c.add_hop.new.self.exits.items switch a.index port hop c.requires.index c.requires.seen target
    (there ∙ ap (λ (k : ℕ). next_hop_of (port ∷ []) rows k node) (sym c.lid_at-lid.ensures) ∙ sym c.next_hop_at-hop.ensures) c.in_ok-add_hop.ensures
