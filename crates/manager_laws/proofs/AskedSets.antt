-- The answer to a step's Set was made at the end of the step's path, by the agent that the Set asked.
use Rattle.std.proofs.Common.{◌≡◌, ℕ, ◌<◌, ◌≤◌, ◌^◌, List, length, sym, ap, ◌∙◌, arith}
use Rattle.std.proofs.lemmas.Bool.{and_parts, leb-true}
use Rattle.std.specs.Prelude.{Some, nat_le}
use Rattle.std.specs.Option.{option_map_or}
use Rattle.fabric_model.specs.declared.cable.NodePort.{NodePort}
use Rattle.fabric_model.specs.DirectedWalk.{directed_end}
use Rattle.fabric_model.specs.Fabric.{Node, IsNodeAt}
use Rattle.smp_bytes.specs.Packet.{status}
use Rattle.dr_forward.proofs.Trips.{IsRequestOver, IsOut}
use Rattle.node_agents.specs.Agent.{Agent, IsAgent, node_of}
use Rattle.node_agents.specs.Answers.{after_answer}
use Rattle.node_agents.specs.AnswerLaws.{IsPacket}
use Rattle.fabric_sim.specs.declared.flight.Flight.{Flight}
use Rattle.fabric_sim.specs.Simulation.{Simulation, agent_at, fabric_of, port_count, port_of}
use Rattle.fabric_sim.specs.Delivery.{answer_at}
use Rattle.fabric_sim.proofs.TracedCalls.{IsAskedBy}
use Rattle.fabric_sim.proofs.TripEnds.{agent_by_port}
use Rattle.fabric_sim.proofs.TripShapes.{IsAlong, agent_there}
use Rattle.plan_steps.specs.Step.{set_packet}
use Rattle.manager_laws.proofs.AgentSets.{AsksFor}
use Rattle.manager_laws.proofs.Steps.{StepSent, IsSendable}
use Rattle.manager_laws.proofs.WritingTaken.{asks_for_step, node_of_agent, same_path}

-- an agent of the node there answered it, and the answer has the status that it gave
pub record WasAsked (start : Simulation) (seat : NodePort) (p : StepSent) (answer : List ℕ) : Type 0 where
  pub at : NodePort
  pub agent : Agent
  pub is : IsAgent agent
  pub leads : directed_end (fabric_of start) seat p.step.path ≡ Some at
  pub node : (n : Node) → IsNodeAt (fabric_of start) at.node n → n ≡ node_of agent
  pub request : List ℕ
  pub whole : IsPacket request
  pub asks : AsksFor p.step request
  pub status_is : status answer ≡ status (after_answer agent request at.port).packet

pub was_asked : (start s : Simulation) (seat : NodePort) (along : IsAlong start s) (n : ℕ) (flight : Flight) (request : List ℕ)
    → IsAskedBy s n flight request → (p : StepSent) → IsSendable p.step → length p.step.path ≤ 63 → p.number < 2 ^ 32 → (path sent : List ℕ)
    (notes : ℕ → ℕ) (k : ℕ) → IsRequestOver path sent → sent ≡ set_packet p.number p.step
    → directed_end (fabric_of start) seat path ≡ Some (port_of flight.whereabouts) → IsOut sent notes k request
    → WasAsked start seat p (answer_at s (port_of flight.whereabouts) request)
was_asked start s seat along n flight request asked p sendable short small path sent notes k over e leads out =
    record {
      at = port_of flight.whereabouts;
      agent = there.0;
      is = agent_there s.agents (port_of flight.whereabouts).node there.0 along.agents there.1;
      leads = ap (directed_end (fabric_of start) seat) (sym (same_path p path sent sendable short small over e)) ∙ leads;
      node = λ n is. node_of_agent start s along (port_of flight.whereabouts).node n there.0 is there.1;
      request = request;
      whole = asked.whole;
      asks = asks_for_step p sent request notes k sendable short small e out;
      status_is = ap (λ o. status (option_map_or (λ x. (after_answer x request (port_of flight.whereabouts).port).packet) o request)) there.1;
    }
  where
    there : (a : Agent) × (agent_at s (port_of flight.whereabouts).node ≡ Some a)
    there =
        let parts = and_parts (nat_le 1 (port_of flight.whereabouts).port)
        (nat_le (port_of flight.whereabouts).port (port_count s (port_of flight.whereabouts).node)) asked.port in
        agent_by_port s (port_of flight.whereabouts).node (omega (arith, leb-true _ _ parts.0, leb-true _ _ parts.1))
