-- One delivery: what a simulated fabric does with a packet in flight, by the packet's outcome.
use Rattle.std.specs.Prelude.{◌≡◌, ℕ, ◌+◌, ◌^◌, List, [], ◌∷◌, ◌++◌, slice_get, slice_set, ◌==◌, if◌then◌else◌, Option, Some, None, option_map, Ok}
use Rattle.std.specs.Option.{option_map_or}
use Rattle.fabric_model.specs.declared.cable.NodePort.{NodePort}
use Rattle.node_agents.specs.Agent.{Agent}
use Rattle.node_agents.specs.Answers.{after_answer}
use Rattle.fabric_sim.specs.declared.packet.Packet.{Packet}
use Rattle.fabric_sim.specs.declared.flight.Whereabouts.{Whereabouts}
use Rattle.fabric_sim.specs.declared.flight.Flight.{Flight}
use Rattle.fabric_sim.specs.declared.envelope.Envelope.{Envelope}
use Rattle.fabric_sim.specs.declared.delivered.Reason.TheVariants.{Repress}
use Rattle.fabric_sim.specs.declared.delivered.Delivered.{Delivered}
use Rattle.fabric_sim.specs.declared.delivered.Delivered.TheVariants as delivered_is
use Rattle.fabric_sim.specs.Called.{Called, refused}
use Rattle.fabric_sim.specs.PacketOutcome.{Outcome, Moves, Asks, HandsUp, Represses, Drops, outcome_of}
use Rattle.fabric_sim.specs.Traps.{without_trap}
use Rattle.fabric_sim.specs.declared.fabric_fault.FabricFault.TheVariants.{NoSuchPacket, SerialsSpent}
use Rattle.fabric_sim.specs.Simulation.{Simulation, agent_at, answer_whereabouts, port_of}
use Rattle.fabric_sim.specs.Flights.{flight_with, without_flight, with_moved}

-- the envelope of a packet in flight: its serial number, whereabouts, SLID and DLID
abbrev pub envelope_of : Flight → Envelope
envelope_of flight =
    record {
      serial = flight.serial;
      whereabouts = flight.whereabouts;
      slid = flight.packet.slid;
      dlid = flight.packet.dlid;
    }

-- the packet with the LIDs of `envelope` and these bytes
abbrev pub packet_in : Envelope → List ℕ → Packet
packet_in envelope bytes = record { bytes = bytes; slid = envelope.slid; dlid = envelope.dlid }

-- the packet in flight with the envelope `envelope` and the bytes `bytes`
abbrev pub flight_in : Envelope → List ℕ → Flight
flight_in envelope bytes =
    record {
      serial = envelope.serial;
      whereabouts = envelope.whereabouts;
      packet = packet_in envelope bytes;
    }

-- the packet at index `i` of `flights` has the envelope `envelope`
abbrev pub IsEnvelopeAt : List Flight → ℕ → Envelope → Type 0
IsEnvelopeAt flights i envelope = option_map envelope_of (slice_get flights i) ≡ Some envelope

-- what a delivery leaves ----------------------------------------------------------------------

-- `agents`, with the agent at `id` changed by `change`; unchanged if there is no such agent
abbrev pub with_changed : List Agent → ℕ → (Agent → Agent) → List Agent
with_changed agents id change = option_map_or (λ a. slice_set agents id (change a)) (slice_get agents id) agents

-- the fabric with the packet added in flight, with the next serial number
abbrev pub with_flight : Simulation → Whereabouts → Packet → Simulation
with_flight s whereabouts packet =
    record s {
      flights = s.flights ++ record { serial = s.next; whereabouts = whereabouts; packet = packet }
          ∷ [];
      next = s.next + 1;
    }

-- the fabric with the packet added in flight, and its serial number; refused if no serial number is left
abbrev pub after_enqueue : Simulation → Whereabouts → Packet → Called ℕ
after_enqueue s whereabouts packet =
    if s.next == 2 ^ 64 then refused s SerialsSpent else record {
      fabric = with_flight s whereabouts packet;
      result =
          Ok s.next;
    }

-- the fabric without the packet with the number `serial`
abbrev pub without : Simulation → ℕ → Simulation
without s serial = record s { flights = without_flight s.flights serial }

-- the fabric in which the trap with the TransactionID `number` no longer waits at the node `id`
abbrev pub repressed_at : Simulation → ℕ → ℕ → Simulation
repressed_at s id number = record s { traps = without_trap s.traps id number }

-- the fabric with the packet that has the number `serial` replaced by `packet`, which waits as `whereabouts` says and
-- keeps the number
abbrev pub moved_to : Simulation → ℕ → Whereabouts → Packet → Simulation
moved_to s serial whereabouts packet =
    record s { flights = with_moved s.flights (record { serial = serial; whereabouts = whereabouts; packet = packet }) }

-- the answer of the agent at the port `p` to the request `bytes`; the request itself if there is no such node
abbrev pub answer_at : Simulation → NodePort → List ℕ → List ℕ
answer_at s p bytes = option_map_or (λ a. (after_answer a bytes p.port).packet) (agent_at s p.node) bytes

-- the fabric after the agent at the port where `flight` waits answered `request`. The answer, from `slid` to `dlid`,
-- replaces `flight`, and has the next serial number
abbrev pub asked : Simulation → Flight → List ℕ → ℕ → ℕ → Simulation
asked s flight request slid dlid =
    let p = port_of flight.whereabouts in
    let told = record (without s flight.serial) {
      agents =
          with_changed s.agents p.node (λ a. (after_answer a request p.port).agent);
    } in
    with_flight told (answer_whereabouts flight.whereabouts) (record {
      bytes = answer_at s p request;
      slid =
          slid;
      dlid = dlid;
    })

-- what a delivery of `flight` leaves and returns, given the outcome. An answer takes a new serial number, and the
-- delivery is refused if none is left
abbrev pub after_outcome : Simulation → Flight → Outcome → Called Delivered
after_outcome s flight (Moves whereabouts packet) =
    record { fabric = moved_to s flight.serial whereabouts packet; result = Ok (delivered_is.Moved flight.serial) }
after_outcome s flight (Asks request slid dlid) =
    if s.next == 2 ^ 64 then refused s SerialsSpent
    else record { fabric = asked s flight request slid dlid; result = Ok (delivered_is.Answered s.next) }
after_outcome s flight (HandsUp packet) =
    record {
      fabric = without s flight.serial;
      result =
          Ok (delivered_is.ToManager (port_of flight.whereabouts) packet);
    }
after_outcome s flight (Represses number) =
    record {
      fabric = repressed_at (without s flight.serial) (port_of flight.whereabouts).node number;
      result = Ok (delivered_is.Discarded Repress);
    }
after_outcome s flight (Drops reason) =
    record { fabric = without s flight.serial; result = Ok (delivered_is.Discarded reason) }

-- the fabric after one step of the packet, and what the step did; refused if the packet is None, or if no serial
-- number is left for an answer
abbrev pub delivered_flight : Simulation → Option Flight → Called Delivered
delivered_flight s None = refused s NoSuchPacket
delivered_flight s (Some flight) = after_outcome s flight (outcome_of s flight.whereabouts flight.packet)

-- the fabric after one step of the packet with the number `serial`, and what the step did; refused if there is no
-- such packet, or if no serial number is left for an answer
unfoldable pub after_deliver : Simulation → ℕ → Called Delivered
after_deliver s serial = delivered_flight s (flight_with s.flights serial)
