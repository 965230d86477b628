-- What an agent answers to a request that arrives at one of its ports, and the agent afterwards. InfiniBand
-- Architecture Specification, Volume 1: subnet management class, methods and attributes.
use Rattle.std.specs.Prelude.{◌≡◌, ℕ, ◌&&◌, ◌==◌, List, if◌then◌else◌, Result, Ok, Err}
use Rattle.std.specs.Option.{ok_or}
use Rattle.smp_bytes.specs.Header.{get, set, node_description, node_info, switch_info, port_info, done, multicast_forwarding_table}
use Rattle.smp_bytes.specs.Header.{linear_forwarding_table}
use Rattle.smp_bytes.specs.Field.{number_in, bytes_in}
use Rattle.smp_bytes.specs.Packet.{method, attribute_id, attribute_modifier, attribute_data}
use Rattle.smp_bytes.specs.Requests.{answer_packet}
use Rattle.node_agents.specs.declared.refusal.Refusal.{Refusal}
use Rattle.node_agents.specs.declared.refusal.Refusal.TheVariants.{Method, MethodAndAttribute, InvalidField}
use Rattle.node_agents.specs.Refusal.{status_of}
use Rattle.node_agents.specs.Agent.{Agent, is_switch}
use Rattle.node_agents.specs.NodeDescription.{get_node_description}
use Rattle.node_agents.specs.NodeInfo.{get_node_info}
use Rattle.node_agents.specs.SwitchInfo.{get_switch_info, set_switch_info}
use Rattle.node_agents.specs.PortInfo.{get_port_info, set_port_info}
use Rattle.node_agents.specs.LftBlock.{get_block, set_block}
use Rattle.node_agents.specs.MftBlock.{get_masks, set_masks}

-- the bytes that a Get of the attribute `attribute` returns if the request arrived at the port `arrival`, or why the
-- Get is refused
abbrev pub get_attribute : Agent → ℕ → ℕ → ℕ → Result (List ℕ) Refusal
get_attribute a attribute modifier arrival =
    if attribute == node_description then Ok (get_node_description a)
    else if attribute == node_info then Ok (get_node_info a arrival)
    else if attribute == port_info then ok_or (get_port_info a modifier arrival) InvalidField
    else if is_switch a && attribute == switch_info then Ok (get_switch_info a)
    else if is_switch a && attribute == linear_forwarding_table then ok_or (get_block a modifier) InvalidField
    else if is_switch a && attribute == multicast_forwarding_table then ok_or (get_masks a modifier) InvalidField
    else Err MethodAndAttribute

-- the agent after a Set of the attribute `attribute` to `payload`, by a request that arrived at the port `arrival`, or
-- why the Set is refused
abbrev pub set_attribute : Agent → ℕ → ℕ → ℕ → List ℕ → Result Agent Refusal
set_attribute a attribute modifier arrival payload =
    if attribute == port_info then ok_or (set_port_info a modifier arrival payload) InvalidField
    else if is_switch a && attribute == switch_info then ok_or (set_switch_info a payload) InvalidField
    else if is_switch a && attribute == linear_forwarding_table then ok_or (set_block a modifier payload) InvalidField
    else if is_switch a && attribute == multicast_forwarding_table then ok_or (set_masks a modifier payload) InvalidField
    else Err MethodAndAttribute

-- a call accepts a Set, and leaves the agent `new`, which is the one in `after`; or it refuses the Set for the reason
-- in `after`, and leaves the agent `old`
abbrev pub Takes : {T : Type 0} → Result T Refusal → Agent → Agent → Result Agent Refusal → Type 0
Takes (Ok _) old new after = after ≡ Ok new
Takes (Err refusal) old new after = (after ≡ Err refusal) × (new ≡ old)

-- the outcome of a request: `told` is the attribute that answers it, or why it is refused, and `agent` is the agent
-- afterwards
pub record Met : Type 0 where
  pub told : Result (List ℕ) Refusal
  pub agent : Agent

-- the attribute that the packet, taken as a Get, asks for, or why this Get is refused
unfoldable pub get_of : Agent → List ℕ → ℕ → Result (List ℕ) Refusal
get_of a packet arrival = get_attribute a (number_in attribute_id packet) (number_in attribute_modifier packet) arrival

-- the agent after the packet, taken as a Set, or why this Set is refused
unfoldable pub set_of : Agent → List ℕ → ℕ → Result Agent Refusal
set_of a packet arrival =
    set_attribute a (number_in attribute_id packet) (number_in attribute_modifier packet) arrival
    (bytes_in attribute_data packet)

-- the outcome of a Set: if the Set is accepted, what a Get would return afterwards, and the agent `after`; else why the
-- Set is refused, and the agent `a`
abbrev pub met_set : Agent → Result Agent Refusal → List ℕ → ℕ → Met
met_set a (Ok after) packet arrival = record { told = get_of after packet arrival; agent = after }
met_set a (Err refusal) packet arrival = record { told = Err refusal; agent = a }

-- the attribute that answers the request `packet`, or why the request is refused, and the agent afterwards
abbrev pub after_request : Agent → List ℕ → ℕ → Met
after_request a packet arrival =
    if number_in method packet == get then record { told = get_of a packet arrival; agent = a }
    else if number_in method packet == set then met_set a (set_of a packet arrival) packet arrival
    else record { told = Err Method; agent = a }

-- the status of an answer: 0 for an attribute, otherwise that of the refusal
abbrev pub status_told : Result (List ℕ) Refusal → ℕ
status_told (Ok payload) = done
status_told (Err refusal) = status_of refusal

-- the attribute in the answer to the request `packet`; for a refusal, it is the attribute in the request
abbrev pub payload_told : Result (List ℕ) Refusal → List ℕ → List ℕ
payload_told (Ok payload) packet = payload
payload_told (Err refusal) packet = bytes_in attribute_data packet

-- the answer to the request `packet`, given the attribute or the refusal
abbrev pub answer_with : List ℕ → Result (List ℕ) Refusal → List ℕ
answer_with packet told = answer_packet packet (status_told told) (payload_told told packet)

-- the packet that answers a request, and the agent afterwards
pub record Answered : Type 0 where
  pub packet : List ℕ
  pub agent : Agent

-- the agent's answer to a packet that arrived at its port `arrival`, and the agent afterwards
unfoldable pub after_answer : Agent → List ℕ → ℕ → Answered
after_answer a packet arrival = record {
  packet = answer_with packet (after_request a packet arrival).told;
  agent =
      (after_request a packet arrival).agent;
}
