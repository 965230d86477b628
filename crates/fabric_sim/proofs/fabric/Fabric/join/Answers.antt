use Rattle.std.proofs.Common.{◌≡◌, true, sym, ◌∙◌, ap, subst, arith, length}
use Rattle.std.specs.Prelude.{Some}
use Rattle.std.proofs.lemmas.Grind.{common_steps}
use Rattle.fabric_sim.specs.Simulation.{Simulation, IsSimulation, has_cable_port}
use Rattle.fabric_sim.specs.Changes.{with_peer, cabled_at}
use Rattle.fabric_sim.proofs.Recabled.{peer_slot, joined_is}
use Rattle.fabric_sim.proofs.Written.{slot_then}
use Rattle.fabric_sim.proofs.fabric.Fabric.join.Goals as goal

pub set_peer-requires-2 : goal.set_peer-requires-2
set_peer-requires-2 c =
    let P : Simulation → Type 0 = λ s. has_cable_port s.agents c.args.other.now ≡ true in
    let port : has_cable_port c.self.inside.agents.items c.args.other.now ≡ true = subst P (sym c.self.view_is) c.requires.other in
    let slot = peer_slot _ c.args.other.now c.self.invariant port in
    let first : c.set_peer.new.peers ≡ with_peer c.self.inside.peers.items c.args.one.now (Some c.args.other.now) =
    c.set_peer.ensures ∙ ap (λ xs. with_peer xs c.args.one.now (Some c.args.other.now)) c.deref_mut-3.ensures.value in
    slot_then c.self.inside.peers.items c.set_peer.new.peers c.deref_mut-4.result.now c.self.inside.peers.len c.args.one.now c.args.other.now
    (Some c.args.other.now)
    (sym (ap length c.deref_mut-3.ensures.value) ∙ c.deref_mut-3.ensures.len) first c.deref_mut-4.ensures.value slot

pub returns : goal.returns
unfolding cabled_at
returns c = grind (arith, common_steps)

pub invariant_of-self : goal.invariant_of-self
invariant_of-self c =
    subst IsSimulation (sym (returns c)) (joined_is c.args.self.now c.args.one.now c.args.other.now (subst IsSimulation c.self.view_is c.self.invariant)
    c.requires.one c.requires.other c.requires.one_free c.requires.other_free)
