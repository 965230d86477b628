-- A fabric: an adapter, at a switch to which another adapter is wired; a manager may sit at each adapter.
use Rattle.std.proofs.Common.{◌≡◌, ◌≤◌, ℕ, zero, suc, List, [], ◌∷◌, refl, sym, ap, ◌∙◌, arith}
use Rattle.std.proofs.lemmas.Option.{slice_get-map}
use Rattle.std.proofs.lemmas.List.Elements.{All-from_recursion}
use Rattle.std.specs.Prelude.{Some, All, map, option_map, slice_get}
use Rattle.fabric_model.specs.declared.cable.NodePort.{NodePort}
use Rattle.smp_bytes.specs.declared.node_type.NodeType.TheVariants.{ChannelAdapter, Switch}
use Rattle.fabric_model.specs.Fabric as fabric
use Rattle.fabric_model.specs.Fabric.{Fabric, IsNodeAt}
use Rattle.topo_file.specs.declared.node.Node.{Node}
use Rattle.topo_file.specs.Topology.{IsNode}
use Rattle.node_agents.specs.Agent.{fresh_agent, after_set_seat}
use Rattle.fabric_sim.specs.Simulation.{Simulation, IsSimulation}
use Rattle.fabric_sim.specs.Build.{uncabled}
use Rattle.fabric_sim.specs.Changes.{changed_at, cabled_at}
use Rattle.fabric_sim.proofs.Built.{uncabled_is}
use Rattle.fabric_sim.proofs.Invariants.{seated_is}
use Rattle.fabric_sim.proofs.Recabled.{joined_is}
use Rattle.manager_laws.specs.Truth.{AreGuidsDistinct}

abbrev pub port : ℕ → ℕ → NodePort
port node p = record { node = node; port = p }

-- with so many ports
abbrev pub nodes_with : ℕ → ℕ → List Node
nodes_with switch last =
    record { name = 65 ∷ []; guid = 16; kind = ChannelAdapter; ports = 1; cap = 0 }
    ∷ record { name = 66 ∷ []; guid = 32; kind = Switch; ports = switch; cap = 64 }
    ∷ record { name = 67 ∷ []; guid = 48; kind = ChannelAdapter; ports = last; cap = 0 } ∷ []

abbrev pub nodes : List Node
nodes = nodes_with 2 1

abbrev pub linked : Simulation
linked = cabled_at (cabled_at (uncabled nodes 0) (port 0 1) (port 1 1)) (port 1 2) (port 2 1)

abbrev pub with_own_seat : Simulation
with_own_seat = changed_at linked (port 0 1) after_set_seat

abbrev pub bare : Simulation
bare = changed_at with_own_seat (port 2 1) after_set_seat

pub are_nodes : (switch last : ℕ) → 1 ≤ switch → switch ≤ 254 → 1 ≤ last → last ≤ 254 → All IsNode (nodes_with switch last)
are_nodes switch last some few some_too few_too =
    All-from_recursion IsNode (nodes_with switch last) (
      record { named = refl; some_ports = omega arith; port_range = omega arith; guid_range = omega arith; of_kind = (refl, omega arith) },
      (
        record { named = refl; some_ports = omega arith; port_range = omega arith; guid_range = omega arith; of_kind = (omega arith, omega arith) },
        (
          record { named = refl; some_ports = omega arith; port_range = omega arith; guid_range = omega arith; of_kind = (refl, omega arith) },
          tt,
        ),
      ),
    )

pub is_alone : IsSimulation with_own_seat
unfolding cabled_at fresh_agent
is_alone =
    let none = uncabled_is nodes 0 (omega arith) (are_nodes 2 1 (omega arith) (omega arith) (omega arith) (omega arith)) (omega arith) in
    let one = joined_is (uncabled nodes 0) (port 0 1) (port 1 1) none refl refl refl refl in
    let two = joined_is (cabled_at (uncabled nodes 0) (port 0 1) (port 1 1)) (port 1 2) (port 2 1) one refl refl refl refl in
    seated_is linked (port 0 1) two refl refl

pub is_bare : IsSimulation bare
unfolding cabled_at fresh_agent
is_bare = seated_is with_own_seat (port 2 1) is_alone refl refl

-- no two nodes have one GUID
one_id : (here there guid : ℕ) → slice_get (16 ∷ 32 ∷ 48 ∷ []) here ≡ Some guid → slice_get (16 ∷ 32 ∷ 48 ∷ []) there ≡ Some guid → here ≡ there
one_id zero zero guid a b = refl
one_id zero (suc zero) guid a b = cc
one_id zero (suc (suc zero)) guid a b = cc
one_id zero (suc (suc (suc n))) guid a b = cc
one_id (suc zero) zero guid a b = cc
one_id (suc zero) (suc zero) guid a b = refl
one_id (suc zero) (suc (suc zero)) guid a b = cc
one_id (suc zero) (suc (suc (suc n))) guid a b = cc
one_id (suc (suc zero)) zero guid a b = cc
one_id (suc (suc zero)) (suc zero) guid a b = cc
one_id (suc (suc zero)) (suc (suc zero)) guid a b = refl
one_id (suc (suc zero)) (suc (suc (suc n))) guid a b = cc
one_id (suc (suc (suc m))) n guid a b = cc

guid_there : (f : Fabric) → map (λ (n : fabric.Node). n.guid) f.nodes ≡ 16 ∷ 32 ∷ 48 ∷ [] → (id : ℕ) (node : fabric.Node) → IsNodeAt f id node
    → slice_get (16 ∷ 32 ∷ 48 ∷ []) id ≡ Some node.guid
guid_there f guids id node there =
    ap (λ (xs : List ℕ). slice_get xs id) (sym guids) ∙ slice_get-map (λ (n : fabric.Node). n.guid) f.nodes id
    ∙ ap (option_map (λ (n : fabric.Node). n.guid)) there

pub distinct_by : (f : Fabric) → map (λ (n : fabric.Node). n.guid) f.nodes ≡ 16 ∷ 32 ∷ 48 ∷ [] → AreGuidsDistinct f
distinct_by f guids here there one other a b same =
    one_id here there other.guid (guid_there f guids here one a ∙ ap Some same) (guid_there f guids there other b)
