-- The same two managers after a cut: earlier facts tell of a third adapter, which is gone.
use Rattle.std.proofs.Common.{◌≡◌, ℕ, refl, sym, subst, arith}
use Rattle.std.specs.Prelude.{None, Option, Some}
use Rattle.fabric_model.specs.Fabric.{range_at}
use Rattle.fabric_model.specs.FabricWalks.{IsJoinedTo}
use Rattle.smp_bytes.specs.declared.node_type.NodeType.{NodeType}
use Rattle.smp_bytes.specs.declared.node_type.NodeType.TheVariants.{ChannelAdapter}
use Rattle.node_agents.specs.Agent.{fresh_agent}
use Rattle.reply_facts.specs.Known.{claim_of}
use Rattle.fact_store.specs.View.{cells_of, view}
use Rattle.fact_store.proofs.Entries.{cells_of_view}
use Rattle.fabric_sim.specs.Simulation.{fabric_of}
use Rattle.fabric_sim.specs.Changes.{cabled_at}
use Rattle.subnet_view.specs.EndPort.{IsEndPort}
use Rattle.subnet_view.specs.FabricAgreement.{Part, TellsEndPort}
use Rattle.lid_assign.specs.Lids.{IsNoRoom, range_of}
use Rattle.lft_blocks.specs.Plan.{plan_of}
use Rattle.lft_blocks.specs.Rule.{up_and_down}
use Rattle.manager_laws.proofs.ExampleFabric.{port}
use Rattle.manager_laws.specs.OnePlan.{ClaimsAreTrue}
use Rattle.manager_laws.proofs.takeover.Example as alone
use Rattle.manager_laws.proofs.takeover.Example.{its_planning}
use Rattle.manager_laws.proofs.takeover.ExampleFabric.{at_end_ports, network}
use Rattle.manager_laws.proofs.takeover.ExampleRest.{before_cut, has_room, known, told}
use Rattle.sm_state.specs.declared.conduct.Conduct.TheVariants.{Plain}
use Rattle.manager_laws.specs.StaysInForce.{ShareRest, SomeMastersShareRest}
use Rattle.manager_laws.proofs.masters.Example.{beginning, share}

-- the ports claim the LIDs that they have
claimed : (part : Part) → ClaimsAreTrue part (cells_of alone.swept.manager.store) (fabric_of network)
unfolding cabled_at fresh_agent
claimed part =
    subst (λ c. ClaimsAreTrue part c (fabric_of network)) (sym alone.known_is)
    (at_end_ports (λ id p node. claim_of (cells_of_view alone.all_told) node.guid p ≡ Some ((fabric_of network).base_lid (port id p)))
    refl refl refl part)

rest : ShareRest (view before_cut) alone.swept.manager.store its_planning (beginning Plain)
rest =
    record {
      starts = (share Plain).starts;
      had_room = subst (λ c. ¬ (IsNoRoom 0 c)) (sym known) has_room;
      has_room = (share Plain).has_room;
      plans = (share Plain).plans;
      agrees = (share Plain).agrees;
      claims = λ which m there. claimed (IsJoinedTo (fabric_of network) m.seat);
      tells = λ which m there q node is.
          subst (λ c. TellsEndPort c node q.port) (sym known) (told (IsJoinedTo (fabric_of network) m.seat) q node is).tells;
      lids = λ which m there q node is.
          subst (λ c. range_of (plan_of up_and_down 0 c).given (record { node = node.guid; port = q.port }) ≡ Some (range_at (fabric_of network) q))
          (sym known) (told (IsJoinedTo (fabric_of network) m.seat) q node is).holds;
    }

-- the third adapter
was_there : IsEndPort (cells_of_view before_cut) 64 1
was_there = (ChannelAdapter, 1, refl, (omega arith, omega arith), refl)

is_gone : ¬ (IsEndPort (cells_of_view alone.all_told) 64 1)
is_gone end = let none : ◌≡◌ {A = Option (NodeType × ℕ)} None (Some (end.0, end.1)) = end.2 in absurd (cc)

pub some_masters_share_rest : SomeMastersShareRest
some_masters_share_rest =
    record {
      masters = beginning Plain;
      earlier = view before_cut;
      facts = alone.swept.manager.store;
      planning = its_planning;
      rest = rest;
      seat = port 0 1;
      guid = 17;
      other_seat = port 2 1;
      other_guid = 49;
      are_new = refl;
      gone = record { node = 64; port = 1 };
      was_there = subst (λ c. IsEndPort c 64 1) (sym known) was_there;
      is_gone = subst (λ c. ¬ (IsEndPort c 64 1)) (sym alone.known_is) is_gone;
    }
