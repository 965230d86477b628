-- A LID more.
use Rattle.std.proofs.Common.{◌≡◌, ◌∙◌, ◌+◌, ◌*◌, ℕ, length, Some, sym, ap, subst, arith}
use Rattle.std.proofs.lemmas.List.{get_or-map}
use Rattle.packet_walks.specs.declared.block_deliveries.BlockWalks.{BlockWalks}
use Rattle.packet_walks.specs.declared.next_hop.NextHop.TheVariants.{To}
use Rattle.packet_walks.specs.BlockDeliveries.{AreSeenBy, hops_at, owners_in, target_at}
use Rattle.packet_walks.specs.Edges.{switch_by}
use Rattle.packet_walks.specs.HopsByTables.{next_hop_of, node_entry}
use Rattle.packet_walks.specs.EndsBySwitch.{onward}
use Rattle.packet_walks.proofs.GoneBack.{exit_seen}
use Rattle.packet_walks.proofs.ToSwitches.{goes_to}
use Rattle.packet_walks.proofs.block_deliveries.BlockWalks.add_switch.Goals as goal
use Rattle.packet_walks.proofs.block_deliveries.BlockWalks.add_switch.Goals.{in-Some+in_ok-add_exit-in-Some, in-None+in_ok-add_last-in-None}

pub loop-index-preserved : goal.loop-index-preserved
loop-index-preserved c =
    let a = c.args in
    let nodes = a.nodes.now in
    let owners = a.owners.now in
    let rows = a.rows.now in
    let number = a.number in
    let switch = a.switch in
    let i = c.loop-index.index in
    let lid = 64 * number + i in
    let node = c.index-nodes-switch.result in
    let those = owners_in (target_at owners number i) in
    let Seen : BlockWalks → Type 0 = λ w. AreSeenBy nodes owners rows number w.arrived.items w.exits.items in
    elim c.match-switch_by.branch [
      | in-Some+in_ok-add_exit-in-Some w ↦
          let to = w.in-Some.to in
          let entry : switch_by node.row (node_entry rows lid node) ≡ Some to =
          ap (switch_by node.row) (ap (λ (k : ℕ). node_entry rows k node) (sym c.lid_at-lid.ensures) ∙ sym c.entry_of.ensures) ∙ sym w.in-Some.ensures in
          let there : onward (hops_at nodes owners rows number i) (To switch) ≡ To to =
          get_or-map (next_hop_of those rows lid) nodes switch node (To switch) c.requires.switch
          ∙ ap (next_hop_of those rows lid) (sym c.index-nodes-switch.is) ∙ goes_to those lid node (node_entry rows lid node) to entry in
          subst Seen (sym w.self-is)
          (exit_seen (length nodes) (hops_at nodes owners rows number) (target_at owners number) c.loop-index.self.arrived.items c.loop-index.self.exits.items
          w.add_exit.new.exits.items switch i to (omega arith) c.loop-index.invariant there w.in_ok-add_exit-in-Some.ensures)
      | in-None+in_ok-add_last-in-None w ↦ subst Seen (sym w.self-is) w.in_ok-add_last-in-None.ensures
    ]
