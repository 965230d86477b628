-- Sets that agents take, and when a Set carries the values of a plan. InfiniBand Architecture Specification, Volume 1:
-- subnet management, PortInfo (LID), SwitchInfo (LinearFDBTop) and LinearForwardingTable.
use Rattle.std.specs.Prelude.{◌≡◌, ◌⊎◌, ℕ, List, Contains, Ok, Some}
use Rattle.fabric_model.specs.declared.cable.NodePort.{NodePort}
use Rattle.fabric_model.specs.Fabric.{Fabric}
use Rattle.fabric_model.specs.DirectedWalk.{directed_end}
use Rattle.smp_bytes.specs.Header.{set, done, port_info, switch_info, linear_forwarding_table}
use Rattle.smp_bytes.specs.Field.{number_in, bytes_in}
use Rattle.smp_bytes.specs.Packet.{method, attribute_id, attribute_modifier, attribute_data, status}
use Rattle.attr_codec.specs.PortInfo.{range_in}
use Rattle.attr_codec.specs.SwitchInfo.{linear_fdb_top}
use Rattle.node_agents.specs.Agent.{Agent}
use Rattle.node_agents.specs.PortInfo.{port_meant}
use Rattle.node_agents.specs.Answers.{after_answer}
use Rattle.lid_assign.specs.Lids.{range_of, top_of}
use Rattle.lft_blocks.specs.Plan.{PlanValue, block_at, switches_of}
use Rattle.plan_steps.specs.declared.step.Step.{Step}
use Rattle.plan_steps.specs.Phase.{Phase}
use Rattle.fabric_sim.specs.declared.flight.Flight.{Flight}
use Rattle.fabric_sim.specs.declared.delivered.Delivered.TheVariants.{Answered}
use Rattle.fabric_sim.specs.Simulation.{Simulation, agent_at, port_of}
use Rattle.fabric_sim.specs.Flights.{flight_with}
use Rattle.fabric_sim.specs.Delivery.{after_deliver}
use Rattle.manager_laws.specs.Scene.{Event, Deliver}

-- the delivery of the packet with the number `serial` makes the agent `a` take a Set, `packet`, that reached the agent
-- at the port `at`
pub record TakesSet (s : Simulation) (serial : ℕ) (at : NodePort) (a : Agent) (packet : List ℕ) : Type 0 where
  pub flight : Flight
  pub waits : flight_with s.flights serial ≡ Some flight
  pub waits_at : port_of flight.whereabouts ≡ at
  pub bytes : flight.packet.bytes ≡ packet
  pub there : agent_at s at.node ≡ Some a
  pub result : (after_deliver s serial).result ≡ Ok (Answered s.next)
  pub method : number_in method packet ≡ set
  pub done : status (after_answer a packet at.port).packet ≡ done

-- if the plan has values for what a Set would write at an agent, the Set has these values: the LID and the LMC of the
-- port that is meant, the switch's top, and the block
pub record Carries (plan : PlanValue) (a : Agent) (arrival : ℕ) (packet : List ℕ) : Type 0 where
  pub lids : number_in attribute_id packet ≡ port_info
      → (port : ℕ) (range : ℕ × ℕ) → port_meant a (number_in attribute_modifier packet) arrival ≡ Some port
      → range_of plan.given (record { node = a.node.guid; port = port }) ≡ Some range
      → range_in (bytes_in attribute_data packet) ≡ range
  pub top : number_in attribute_id packet ≡ switch_info
      → (top : ℕ) → Contains (switches_of plan) a.node.guid → top_of plan.given ≡ Some top
      → number_in linear_fdb_top (bytes_in attribute_data packet) ≡ top
  pub block : number_in attribute_id packet ≡ linear_forwarding_table
      → (block : List ℕ) → block_at plan a.node.guid (number_in attribute_modifier packet) ≡ Some block
      → bytes_in attribute_data packet ≡ block

-- the packet has the attribute, the modifier and the data of a step of `phases`; that step's path leads in `f` from
-- `seat` to the port `at`
pub record IsOwnSet (f : Fabric) (seat : NodePort) (phases : List Phase) (at : NodePort) (packet : List ℕ) : Type 0
  where
    pub phase : Phase
    pub there : Contains phases phase
    pub step : Step
    pub in_phase : Contains phase.steps step
    pub leads : directed_end f seat step.path ≡ Some at
    pub attribute : number_in attribute_id packet ≡ step.attribute
    pub modifier : number_in attribute_modifier packet ≡ step.modifier
    pub payload : bytes_in attribute_data packet ≡ step.payload

-- which packets, at the ports that they reach, are Sets of a writing's own steps
abbrev pub OwnSets : Type 1
OwnSets = NodePort → List ℕ → Type 0

-- if the event is a delivery, each Set that an agent takes by it is one of the writing's own, or carries the plan's
-- values
abbrev pub KeepsPlan : PlanValue → OwnSets → Simulation → Event → Type 0
KeepsPlan plan own s (Deliver serial) =
    (at : NodePort) (a : Agent) (packet : List ℕ) → TakesSet s serial at a packet → own at packet
    ⊎ Carries plan a at.port packet
KeepsPlan plan own s event = Unit {0}
