-- The same run after a cut: earlier facts tell of a third adapter, which is gone.
use Rattle.std.proofs.Common.{◌≡◌, ℕ, true, [], ◌∷◌, ◌++◌, refl, sym, subst}
use Rattle.std.specs.Prelude.{Some}
use Rattle.fabric_model.specs.declared.cable.NodePort.{NodePort}
use Rattle.smp_bytes.specs.declared.node_type.NodeType.TheVariants.{ChannelAdapter}
use Rattle.fabric_model.specs.Fabric as fabric
use Rattle.fabric_model.specs.Fabric.{range_at}
use Rattle.fabric_model.specs.FabricWalks.{IsJoinedTo}
use Rattle.node_agents.specs.Agent.{fresh_agent, node_of}
use Rattle.reply_facts.specs.declared.key.Key.TheVariants.{Node as NodeKey, PortGuid, Port as PortKey, Claim}
use Rattle.reply_facts.specs.declared.value.Value.TheVariants.{Kind, Guid, Up, Lid}
use Rattle.reply_facts.specs.Report.{Sightings}
use Rattle.fact_store.specs.View.{cells_of, view}
use Rattle.fact_store.proofs.Entries.{cells_of_view, entries-view}
use Rattle.fabric_sim.specs.Simulation.{fabric_of}
use Rattle.fabric_sim.specs.Changes.{cabled_at}
use Rattle.subnet_view.specs.FabricAgreement.{IsEndPortIn, Part, TellsEndPort}
use Rattle.subnet_view.specs.Reading.{Cells}
use Rattle.lid_assign.specs.Lids.{IsNoRoom, range_of}
use Rattle.lft_blocks.specs.Plan.{plan_of}
use Rattle.lft_blocks.specs.Rule.{up_and_down}
use Rattle.lft_blocks.specs.Planning.{Planning}
use Rattle.manager_laws.specs.Managing.{Managing}
use Rattle.manager_laws.specs.AfterCut.{SomeManagerServesTheRest, TakesRest}
use Rattle.manager_laws.specs.Takeover.{plan_by_it}
use Rattle.manager_laws.proofs.Computed.{one}
use Rattle.manager_laws.proofs.takeover.Example.{after, all_told, at_is, beginning, between, has_swept, new_run, sweeps}
use Rattle.manager_laws.proofs.ExampleFabric.{port}
use Rattle.manager_laws.proofs.takeover.ExampleFabric.{at_end_ports, first_agent, last_agent, network, switch_agent}

-- of before the cut: an adapter that has LID 9
abbrev pub before_cut : Sightings
before_cut =
    all_told ++ (one (NodeKey 64) (Kind ChannelAdapter 1) ∷ one (PortGuid 64 1) (Guid 65) ∷ one (PortKey 64 1) (Up true) ∷ one (Claim 64 1) (Lid 9) ∷ [])

abbrev pub cells : Cells
cells = cells_of_view before_cut

pub known : cells_of (view before_cut) ≡ cells_of_view before_cut
known = entries-view before_cut

pub has_room : ¬ (IsNoRoom 0 cells)
has_room e = absurd (cc)

-- what is known of an end port that is there, and that it holds the LID of the plan of before
pub record IsTold (id p : ℕ) (node : fabric.Node) : Type 0 where
  pub tells : TellsEndPort (cells_of_view before_cut) node p
  pub holds : range_of (plan_of up_and_down 0 (cells_of_view before_cut)).given (record { node = node.guid; port = p })
      ≡ Some (range_at (fabric_of network) (port id p))

told_first : IsTold 0 1 (node_of first_agent)
unfolding cabled_at fresh_agent
told_first = record { tells = record { kind = refl; port_guid = refl; cap = λ switch. absurd (cc) }; holds = refl }

told_switch : IsTold 1 0 (node_of switch_agent)
unfolding cabled_at fresh_agent
told_switch = record { tells = record { kind = refl; port_guid = refl; cap = λ switch. refl }; holds = refl }

told_last : IsTold 2 1 (node_of last_agent)
unfolding cabled_at fresh_agent
told_last = record { tells = record { kind = refl; port_guid = refl; cap = λ switch. absurd (cc) }; holds = refl }

pub told : (part : Part) (q : NodePort) (node : fabric.Node) → IsEndPortIn part (fabric_of network) q node → IsTold q.node q.port node
told part = at_end_ports IsTold told_first told_switch told_last part

takes_rest : TakesRest (view before_cut) beginning [] between after
takes_rest =
    record {
      sweeps = sweeps;
      has_room = subst (λ (x : Managing). ¬ (IsNoRoom x.manager.planning.lmc (cells_of (view before_cut)))) (sym at_is)
          (subst (λ (p : Planning). ¬ (IsNoRoom p.lmc (cells_of (view before_cut)))) (sym has_swept.planning_is)
          (subst (λ c. ¬ (IsNoRoom 0 c)) (sym known) has_room));
      tells = λ q node is. subst (λ c. TellsEndPort c node q.port) (sym known) (told (IsJoinedTo (fabric_of network) (port 0 1)) q node is).tells;
      holds = λ q node is.
          subst (λ (x : Managing). range_of (plan_by_it x.manager.planning (view before_cut)).given (record { node = node.guid; port = q.port })
          ≡ Some (range_at (fabric_of network) q)) (sym at_is)
          (subst (λ (p : Planning). range_of (plan_by_it p (view before_cut)).given (record { node = node.guid; port = q.port })
          ≡ Some (range_at (fabric_of network) q)) (sym has_swept.planning_is)
          (subst (λ c. range_of (plan_of up_and_down 0 c).given (record { node = node.guid; port = q.port })
          ≡ Some (range_at (fabric_of network) q)) (sym known)
          (told (IsJoinedTo (fabric_of network) (port 0 1)) q node is).holds));
    }

pub some_manager_serves_the_rest : SomeManagerServesTheRest
some_manager_serves_the_rest =
    record {
      run = new_run;
      held = view before_cut;
      takes = takes_rest;
    }
