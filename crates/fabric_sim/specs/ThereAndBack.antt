-- There and back: a request on a directed route is answered at the end of its path, and the answer returns to the
-- sender.
use Rattle.std.specs.Prelude.{◌≡◌, ◌≢◌, ℕ, ◌<◌, ◌≤◌, ◌^◌, true, List, [], ◌∷◌, length, Some, Ok, All, count_by}
use Rattle.fabric_model.specs.declared.cable.NodePort.{NodePort}
use Rattle.smp_bytes.specs.Header.{get_resp, sm_info}
use Rattle.smp_bytes.specs.Field.{number_in, bytes_in}
use Rattle.smp_bytes.specs.Packet as field
use Rattle.smp_bytes.specs.Packet.{is_returning, status, max_hops, permissive_lid}
use Rattle.smp_bytes.specs.Requests.{directed}
use Rattle.smp_bytes.specs.ReadBack.{FitsRequest}
use Rattle.fabric_model.specs.DirectedWalk.{directed_end}
use Rattle.node_agents.specs.Agent.{Agent}
use Rattle.node_agents.specs.Answers.{after_answer}
use Rattle.fabric_sim.specs.declared.packet.Packet.{Packet}
use Rattle.fabric_sim.specs.declared.delivered.Delivered.TheVariants as delivered_is
use Rattle.fabric_sim.specs.Simulation.{Simulation, IsSimulation, agent_at, is_seat_at, fabric_of}
use Rattle.fabric_sim.specs.Delivery.{after_deliver}
use Rattle.fabric_sim.specs.Changes.{after_inject}
use Rattle.fabric_sim.specs.Calls.{Call, Lose, after_calls, is_delivery_of}

-- a directed request as a packet; SLID and DLID are the permissive LID, since no part of its route goes by LIDs
abbrev pub directed_packet : List ℕ → Packet
directed_packet bytes = record { bytes = bytes; slid = permissive_lid; dlid = permissive_lid }

-- the given path is empty, or its first port is `port`
abbrev pub BeginsWith : ℕ → List ℕ → Type 0
BeginsWith port [] = Unit {0}
BeginsWith port (first ∷ path) = first ≡ port

-- `answer` is the answer to `request` along `path`: a GetResp that has returned to its sender, with the request's
-- TransactionID, attribute and modifier. Its status and data are those of `told`, the agent's answer
pub record IsAnswerOver (path : List ℕ) (request told answer : List ℕ) : Type 0 where
  pub method : number_in field.method answer ≡ get_resp
  pub returning : is_returning answer ≡ true
  pub pointer : number_in field.hop_pointer answer ≡ 0
  pub hops : number_in field.hop_count answer ≡ length path
  pub ports : bytes_in (record { at = 129; len = length path }) answer ≡ path
  pub transaction_id : number_in field.transaction_id answer ≡ number_in field.transaction_id request
  pub attribute_id : number_in field.attribute_id answer ≡ number_in field.attribute_id request
  pub attribute_modifier : number_in field.attribute_modifier answer ≡ number_in field.attribute_modifier request
  pub status : status answer ≡ status told
  pub attribute_data : bytes_in field.attribute_data answer ≡ bytes_in field.attribute_data told

-- the call does not lose the packet with the number `serial`
abbrev pub KeepsPacket : ℕ → Call → Type 0
KeepsPacket serial call = call ≢ Lose serial

-- `count` of the calls deliver the packet with the number `serial`, and none loses it
abbrev pub Deliver : List Call → ℕ → ℕ → Type 0
Deliver calls serial count = All (KeepsPacket serial) calls × (count_by (is_delivery_of serial) calls ≡ count)

-- when `request`, which has the number `serial`, is delivered, `agent`, the agent of the node of the port `at`,
-- answers it
pub record IsAnsweredAt (s : Simulation) (serial : ℕ) (request : List ℕ) (at : NodePort) (agent : Agent) : Type 0 where
  pub there : agent_at s at.node ≡ Some agent
  pub result : (after_deliver s serial).result ≡ Ok (delivered_is.Answered s.next)
  pub after : agent_at (after_deliver s serial).fabric at.node ≡ Some (after_answer agent request at.port).agent

-- the delivery of the packet with the number `serial` hands it up to the manager at the port `at`. The packet answers
-- `request` along `path`, with the status and the data of `told`, the agent's answer
pub record ComesHome (s : Simulation) (serial : ℕ) (at : NodePort) (path request told : List ℕ) : Type 0 where
  pub packet : Packet
  pub result : (after_deliver s serial).result ≡ Ok (delivered_is.ToManager at packet)
  pub answer : IsAnswerOver path request told packet.bytes

-- suppose a request for an attribute other than SMInfo is sent along a path of n ports, at most 63, that has an end
-- and is empty or begins with the port that the request is sent from. Suppose also that no cable changes, that
-- neither the request nor its answer is lost, and that serial numbers are left. Then the agent at the end of the path
-- answers delivery n + 1 of the request, and delivery n + 1 of the answer hands the answer up at the port that the
-- request was sent from. Any other calls may come between
abbrev pub ThereAndBack : Type 0
ThereAndBack =
    (s : Simulation) (origin end : NodePort) (method attribute modifier tid : ℕ) (path payload : List ℕ)
    → IsSimulation s → is_seat_at s origin ≡ true → s.next < 2 ^ 64
    → FitsRequest method attribute modifier tid payload → method < 2 ^ 7 → attribute ≢ sm_info
    → All (λ byte. byte < 2 ^ 8) payload
    → length path ≤ max_hops → All (λ port. port < 2 ^ 8) path → BeginsWith origin.port path
    → directed_end (fabric_of s) origin path ≡ Some end
    → (there back : List Call) →
    let request = directed method attribute modifier tid path payload in
    let sent = (after_inject s origin (directed_packet request)).fabric in
    let arrived = after_calls there sent in
    let turned = (after_deliver arrived s.next).fabric in
    Deliver there s.next (length path) → arrived.next < 2 ^ 64
    → (agent : Agent) × IsAnsweredAt arrived s.next request end agent
    × (Deliver back arrived.next (length path)
    → ComesHome (after_calls back turned) arrived.next origin path request (after_answer agent request end.port).packet)
