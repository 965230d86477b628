use Rattle.std.proofs.Common.{◌≡◌, true, false, sym, ◌∙◌, ap, subst, arith, length}
use Rattle.std.specs.Prelude.{Some, None}
use Rattle.node_agents.specs.Agent.{after_set_wired}
use Rattle.std.proofs.lemmas.Grind.{common_steps}
use Rattle.fabric_sim.specs.Simulation.{Simulation, IsSimulation, has_cable_port, across}
use Rattle.fabric_sim.specs.Delivery.{with_changed}
use Rattle.fabric_sim.specs.Changes.{with_peer, uncabled_at}
use Rattle.fabric_sim.proofs.Recabled.{peer_slot, parted_is}
use Rattle.fabric_sim.proofs.Written.{slot_then, port_then, other_is}
use Rattle.fabric_sim.proofs.fabric.Fabric.part.Goals as goal

pub set_wired-requires-2 : goal.set_wired-requires-2
set_wired-requires-2 c =
    let P : Simulation → Type 0 = λ s. across s.peers c.args.one.now ≡ Some c.args.other.now in
    let port : has_cable_port c.self.inside.agents.items c.args.other.now ≡ true =
    other_is _ c.args.one.now (Some c.args.other.now) c.self.invariant (sym (subst P (sym c.self.view_is) c.requires)) in
    let first : c.set_wired.new.agents ≡ with_changed c.self.inside.agents.items c.args.one.now.node (λ a. after_set_wired a c.args.one.now.port false) =
    c.set_wired.ensures ∙ ap (λ xs. with_changed xs c.args.one.now.node (λ a. after_set_wired a c.args.one.now.port false)) c.deref_mut.ensures.value in
    port_then c.self.inside.agents.items c.set_wired.new.agents c.deref_mut-2.result.now c.self.inside.agents.len c.args.one.now c.args.other.now false
    (sym (ap length c.deref_mut.ensures.value) ∙ c.deref_mut.ensures.len) first c.deref_mut-2.ensures.value port

pub set_peer-requires-2 : goal.set_peer-requires-2
set_peer-requires-2 c =
    let P : Simulation → Type 0 = λ s. across s.peers c.args.one.now ≡ Some c.args.other.now in
    let port : has_cable_port c.self.inside.agents.items c.args.other.now ≡ true =
    other_is _ c.args.one.now (Some c.args.other.now) c.self.invariant (sym (subst P (sym c.self.view_is) c.requires)) in
    let slot = peer_slot _ c.args.other.now c.self.invariant port in
    let first : c.set_peer.new.peers ≡ with_peer c.self.inside.peers.items c.args.one.now None =
    c.set_peer.ensures ∙ ap (λ xs. with_peer xs c.args.one.now None) c.deref_mut-3.ensures.value in
    slot_then c.self.inside.peers.items c.set_peer.new.peers c.deref_mut-4.result.now c.self.inside.peers.len c.args.one.now c.args.other.now None
    (sym (ap length c.deref_mut-3.ensures.value) ∙ c.deref_mut-3.ensures.len) first c.deref_mut-4.ensures.value slot

pub returns : goal.returns
unfolding uncabled_at
returns c = grind (arith, common_steps)

pub invariant_of-self : goal.invariant_of-self
invariant_of-self c =
    subst IsSimulation (sym (returns c)) (parted_is c.args.self.now c.args.one.now c.args.other.now (subst IsSimulation c.self.view_is c.self.invariant)
    c.requires)
