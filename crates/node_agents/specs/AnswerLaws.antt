-- What an answer is, what it leaves unchanged in the agent, and what an accepted Set does.
use Rattle.std.specs.Prelude.{◌≡◌, ◌≢◌, ◌↔◌, ℕ, ◌≤◌, Bool, true, false, List, length, None, Some}
use Rattle.smp_bytes.specs.Header.{get, set, done, node_info, switch_info, port_info, multicast_forwarding_table}
use Rattle.smp_bytes.specs.Header.{linear_forwarding_table}
use Rattle.smp_bytes.specs.Field.{number_in, bytes_in, bits_in}
use Rattle.smp_bytes.specs.Packet.{method, attribute_id, attribute_modifier, attribute_data, status, fault_of}
use Rattle.smp_bytes.specs.ReadBack.{HoldsAnswer}
use Rattle.attr_codec.specs.NodeInfo.{node_info_in}
use Rattle.attr_codec.specs.PortInfo.{port_state, number_of_state}
use Rattle.attr_codec.specs.SwitchInfo.{linear_fdb_cap}
use Rattle.attr_codec.specs.declared.port_state.PortState.{PortState}
use Rattle.attr_codec.specs.declared.port_state.PortState.TheVariants.{NoChange, Down}
use Rattle.node_agents.specs.declared.agent_node.AgentNode.{AgentNode}
use Rattle.node_agents.specs.Agent.{Agent, IsAgent, IsAgentNode, is_switch, state_at, has_seat, fresh_agent}
use Rattle.node_agents.specs.Agent.{after_set_wired, after_set_seat}
use Rattle.node_agents.specs.NodeInfo.{node_info_of}
use Rattle.node_agents.specs.PortInfo.{port_meant, SetsPort}
use Rattle.node_agents.specs.Answers.{after_request, status_told, payload_told, after_answer}
use Rattle.node_agents.specs.SwitchInfo.{SetsTop}
use Rattle.node_agents.specs.LftBlock.{SetsBlock}
use Rattle.node_agents.specs.MftBlock.{SetsMasks, position_in}

-- agents stay agents --------------------------------------------------------------------

-- `new` has the same node as `old`, the same ports are Down, and subnet managers sit at the same ports
pub record KeepsShape (old new : Agent) : Type 0 where
  pub node : new.node ≡ old.node
  pub down : (port : ℕ) → (state_at new port ≡ Down) ↔ (state_at old port ≡ Down)
  pub seats : (port : ℕ) → has_seat new port ≡ has_seat old port

-- no request changes the node, which ports are down, or where subnet managers sit
abbrev pub AnsweredKeepsShape : Type 0
AnsweredKeepsShape = (a : Agent) (packet : List ℕ) (arrival : ℕ) → KeepsShape a (after_answer a packet arrival).agent

-- an agent keeps the invariant of agents (`IsAgent`), whatever it answers
abbrev pub AnsweredIsAgent : Type 0
AnsweredIsAgent =
    (a : Agent) (packet : List ℕ) (arrival : ℕ) → IsAgent a → IsAgent (after_answer a packet arrival).agent

-- answers ---------------------------------------------------------------------------------

-- `packet` is 256 bytes that are a packet without a fault
pub record IsPacket (packet : List ℕ) : Type 0 where
  pub count : length packet ≡ 256
  pub parses : fault_of packet ≡ None

-- if `packet` has no fault (`IsPacket`), an agent's answer to it is a packet with the method GetResp, and with the
-- status and the attribute that the agent gives. The D bit is set if the request is directed. All else is as in the
-- request
abbrev pub AnswersHold : Type 0
AnswersHold =
    (a : Agent) (packet : List ℕ) (arrival : ℕ) → IsAgent a → IsPacket packet
    → (let told = (after_request a packet arrival).told in
    HoldsAnswer packet (after_answer a packet arrival).packet (status_told told) (payload_told told packet))

-- a Get leaves the agent as it was
abbrev pub GetsChangeNothing : Type 0
GetsChangeNothing = (a : Agent) (packet : List ℕ) (arrival : ℕ) → number_in method packet ≡ get
    → (after_answer a packet arrival).agent ≡ a

-- a request whose answer has a status other than 0 leaves the agent as it was
abbrev pub RefusalsChangeNothing : Type 0
RefusalsChangeNothing =
    (a : Agent) (packet : List ℕ) (arrival : ℕ) → IsAgent a → IsPacket packet
    → status (after_answer a packet arrival).packet ≢ done
    → (after_answer a packet arrival).agent ≡ a

-- what is said ------------------------------------------------------------------------------

-- `number`, which PortInfo reports as the state of the port that `modifier` and `arrival` mean, is the number of a
-- state. This state is not "no change", and is Down exactly when that port is Down
pub record SaysPort (a : Agent) (modifier arrival number : ℕ) : Type 0 where
  pub port : ℕ
  pub meant : port_meant a modifier arrival ≡ Some port
  pub state : PortState
  pub number_is : number ≡ number_of_state state
  pub known : state ≢ NoChange
  pub down : (state ≡ Down) ↔ (state_at a port ≡ Down)

-- the node is a switch, and `cap`, which SwitchInfo reports, is the size of its forwarding table
pub record SaysSwitch (a : Agent) (cap : ℕ) : Type 0 where
  pub kind : is_switch a ≡ true
  pub cap_is : cap ≡ a.node.cap

-- what the attribute of an answer, if it is NodeInfo, PortInfo or SwitchInfo, says of its agent is true. Of PortInfo
-- this covers only whether the port is Down, and of SwitchInfo only the size of the table. `arrival` is the port at
-- which the request arrived
pub record Says (a : Agent) (arrival : ℕ) (answer : List ℕ) : Type 0 where
  pub node : number_in attribute_id answer ≡ node_info → node_info_in (bytes_in attribute_data answer)
      ≡ node_info_of a.node arrival
  pub port : number_in attribute_id answer ≡ port_info
      → SaysPort a (number_in attribute_modifier answer) arrival (bits_in port_state (bytes_in attribute_data answer))
  pub switch : number_in attribute_id answer ≡ switch_info
      → SaysSwitch a (number_in linear_fdb_cap (bytes_in attribute_data answer))

-- if a request arrived at port 0 or a port of the node and its answer has status 0, what the answer says is true.
-- This covers the node, which ports are Down, and the size of the table, but not LIDs and table entries
abbrev pub AnswersSay : Type 0
AnswersSay =
    (a : Agent) (packet : List ℕ) (arrival : ℕ) → IsAgent a → IsPacket packet → arrival ≤ a.node.ports
    → status (after_answer a packet arrival).packet ≡ done → Says a arrival (after_answer a packet arrival).packet

-- Sets ------------------------------------------------------------------------------------

-- the packet is a Set of the attribute `number`, and the agent accepts it: the answer has status 0
pub record IsTaken (a : Agent) (packet : List ℕ) (arrival number : ℕ) : Type 0 where
  pub agent : IsAgent a
  pub whole : IsPacket packet
  pub method : number_in method packet ≡ set
  pub attribute : number_in attribute_id packet ≡ number
  pub done : status (after_answer a packet arrival).packet ≡ done

-- the packets `p` and `q` have the same attribute and modifier
pub record IsAboutTheSame (p q : List ℕ) : Type 0 where
  pub attribute : number_in attribute_id p ≡ number_in attribute_id q
  pub modifier : number_in attribute_modifier p ≡ number_in attribute_modifier q

-- if a Set is accepted, a Get right after it that has the attribute and the modifier of the Set, and arrives at the
-- same port, returns what the answer to the Set returned
abbrev pub GetsTellAsSets : Type 0
GetsTellAsSets =
    (a : Agent) (p q : List ℕ) (arrival number : ℕ) → IsTaken a p arrival number → IsPacket q → number_in method q ≡ get
    → IsAboutTheSame q p
    → bytes_in attribute_data (after_answer (after_answer a p arrival).agent q arrival).packet
    ≡ bytes_in attribute_data (after_answer a p arrival).packet

-- if a Set of a forwarding block is accepted, the answer returns this block, and the table has it at its offset;
-- nothing else changes
abbrev pub BlocksAreSet : Type 0
BlocksAreSet =
    (a : Agent) (packet : List ℕ) (arrival : ℕ) → IsTaken a packet arrival linear_forwarding_table
    → SetsBlock a (after_answer a packet arrival).agent (number_in attribute_modifier packet)
    (bytes_in attribute_data packet)
    (bytes_in attribute_data (after_answer a packet arrival).packet)

-- if a Set of a multicast block is accepted, the answer returns this block, and the table has it at its position;
-- nothing else changes
abbrev pub MasksAreSet : Type 0
MasksAreSet =
    (a : Agent) (packet : List ℕ) (arrival : ℕ) → IsTaken a packet arrival multicast_forwarding_table
    → SetsMasks a (after_answer a packet arrival).agent (position_in (number_in attribute_modifier packet))
    (bytes_in attribute_data packet)
    (bytes_in attribute_data (after_answer a packet arrival).packet)

-- if a Set of SwitchInfo is accepted, the answer returns the top in the Set, and the agent has this top; nothing else
-- changes
abbrev pub TopsAreSet : Type 0
TopsAreSet =
    (a : Agent) (packet : List ℕ) (arrival : ℕ) → IsTaken a packet arrival switch_info
    → SetsTop a (after_answer a packet arrival).agent (bytes_in attribute_data packet)
    (bytes_in attribute_data (after_answer a packet arrival).packet)

-- suppose a Set of PortInfo arrived at port 0 or a port of the node, and is accepted. If the port that the Set is
-- about has a LID of its own, this port has the LID and the LMC of the Set, and the answer returns them. The answer
-- also returns the state in the Set, unless that is 0 (no change). No other port changes, and nothing in the agent
-- changes except its ports
abbrev pub PortsAreSet : Type 0
PortsAreSet =
    (a : Agent) (packet : List ℕ) (arrival port : ℕ) → arrival ≤ a.node.ports → IsTaken a packet arrival port_info
    → port_meant a (number_in attribute_modifier packet) arrival ≡ Some port
    → SetsPort a (after_answer a packet arrival).agent port (bytes_in attribute_data packet)
    (bytes_in attribute_data (after_answer a packet arrival).packet)

-- from outside ------------------------------------------------------------------------------

-- if a node can be built and has a description of 64 bytes, the fresh agent of this node satisfies the invariant of
-- agents (`IsAgent`). An agent keeps this invariant if a port other than port 0 is wired or unwired, or if a subnet
-- manager is seated at a port of an adapter
pub record AgentsAreMade : Type 0 where
  pub fresh : (node : AgentNode) → IsAgentNode node → length node.description ≡ 64 → IsAgent (fresh_agent node)
  pub wired : (a : Agent) (port : ℕ) (is_wired : Bool) → IsAgent a → 1 ≤ port
      → IsAgent (after_set_wired a port is_wired)
  pub seated : (a : Agent) (port : ℕ) → IsAgent a → is_switch a ≡ false → IsAgent (after_set_seat a port)
