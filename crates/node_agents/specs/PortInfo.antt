-- Port information: which port a request means, what a Get returns and a Set writes.
-- InfiniBand Architecture Specification, Volume 1: subnet management, PortInfo.
use Rattle.std.specs.Prelude.{ℕ, ◌+◌, Bool, not, ◌&&◌, ◌||◌, ◌==◌, List, [], ◌∷◌, nat_le, if◌then◌else◌, Option, Some}
use Rattle.std.specs.Prelude.{None, option_map, option_and_then, ◌≡◌, ◌≢◌, true}
use Rattle.smp_bytes.specs.Field.{number_in, bits_in, with_bits}
use Rattle.smp_bytes.specs.Requests.{flag}
use Rattle.smp_bytes.specs.LidRange.{may_have}
use Rattle.attr_codec.specs.Image.{image}
use Rattle.attr_codec.specs.PortInfo.{base_lid, master_sm_lid, local_port_num, lmc, port_state, is_sm_bit}
use Rattle.attr_codec.specs.PortInfo.{number_of_state, state_of_number, range_in}
use Rattle.attr_codec.specs.declared.port_state.PortState.{PortState}
use Rattle.node_agents.specs.declared.port.Port.{Port}
use Rattle.node_agents.specs.Agent.{Agent, is_switch, port_at, with_port, range_at}

-- the port that a request means: for a switch, the port `modifier`, from 0 to the port count; for an adapter, the port
-- `arrival` at which the request arrived, if `modifier` is 0 or the number of this port; else None
abbrev pub port_meant : Agent → ℕ → ℕ → Option ℕ
port_meant a modifier arrival =
    if is_switch a then (if nat_le modifier a.node.ports then Some modifier else None)
    else if modifier == 0 || modifier == arrival then Some arrival
    else None

-- Get ---------------------------------------------------------------------------------

-- the PortInfo of `port`, for a request that arrived at the port `arrival`. All fields that an agent does not keep
-- are 0
abbrev pub port_info_of : Port → ℕ → List ℕ
port_info_of port arrival =
    with_bits port_state (number_of_state port.state) (with_bits lmc port.lmc (with_bits is_sm_bit (flag port.is_sm)
    (image (record { field = base_lid; number = port.base_lid }
    ∷ record { field = master_sm_lid; number = port.master_sm_lid }
    ∷ record { field = local_port_num; number = arrival } ∷ []))))

-- the PortInfo that a Get returns if it arrived at the port `arrival`; None if `modifier` means no port
abbrev pub get_port_info : Agent → ℕ → ℕ → Option (List ℕ)
get_port_info a modifier arrival =
    option_map (λ port. port_info_of (port_at a port) arrival) (port_meant a modifier arrival)

-- Set ---------------------------------------------------------------------------------

-- whether the port `port` can have a LID of its own: each port of an adapter can, but only port 0 of a switch
abbrev pub has_lid : Agent → ℕ → Bool
has_lid a port = not (is_switch a) || port == 0

-- the greatest LMC that can be set at a port: 0 at port 0 of a switch, which has one LID, else 7
abbrev pub max_lmc : Agent → ℕ → ℕ
max_lmc a port = if is_switch a && port == 0 then 0 else 7

-- whether `wish` is the state that follows `state` in the order Initialize, Armed, Active
abbrev pub is_next_state : PortState → PortState → Bool
is_next_state state wish = nat_le 2 (number_of_state state) && number_of_state wish == number_of_state state + 1

-- the state of a port that was in `state`, after a Set that asks for `wish`: `state`, if `wish` is no change or
-- `state` itself; `wish`, if it is the next state; otherwise None
abbrev pub state_after : PortState → PortState → Option PortState
state_after state wish =
    if number_of_state wish == 0 || number_of_state wish == number_of_state state then Some state
    else if is_next_state state wish then Some wish
    else None

-- `port` in the state `state`; if `has_lid`, also with the LID, the LMC and the manager's LID of `payload`
abbrev pub port_with : Port → Bool → List ℕ → PortState → Port
port_with port has_lid payload state =
    record port {
      base_lid = if has_lid then number_in base_lid payload else port.base_lid;
      lmc = if has_lid then bits_in lmc payload else port.lmc;
      master_sm_lid = if has_lid then number_in master_sm_lid payload else port.master_sm_lid;
      state = state;
    }

-- whether a port may have the LIDs that `payload` gives it, and the LMC in `payload` is at most `max_lmc`
abbrev pub are_lids_taken : ℕ → List ℕ → Bool
are_lids_taken max_lmc payload =
    nat_le (bits_in lmc payload) max_lmc && may_have (number_in base_lid payload) (bits_in lmc payload)

-- `port` after a Set of `payload`; None if it may not have the LIDs or the LMC in `payload`, or if the state that
-- `payload` asks for is refused
abbrev pub port_after : Port → Bool → ℕ → List ℕ → Option Port
port_after port has_lid max_lmc payload =
    if are_lids_taken max_lmc payload
    then option_map (port_with port has_lid payload)
    (option_and_then (state_after port.state) (state_of_number (bits_in port_state payload)))
    else None

-- the port that a Set means, and this port afterwards; None if the Set is refused
unfoldable pub changed_port : Agent → ℕ → ℕ → List ℕ → Option (ℕ × Port)
changed_port a modifier arrival payload =
    option_and_then (λ port. option_map (λ after. (port, after))
    (port_after (port_at a port) (has_lid a port) (max_lmc a port) payload)) (port_meant a modifier arrival)

-- the agent after a Set of PortInfo; None if the Set is refused
abbrev pub set_port_info : Agent → ℕ → ℕ → List ℕ → Option Agent
set_port_info a modifier arrival payload =
    option_map (λ changed. with_port a changed.0 changed.1) (changed_port a modifier arrival payload)

-- if `port` has a LID of its own, its LID and LMC afterwards are those of `payload`, and `told` returns them. `told`
-- returns the state in `payload` too, unless that is 0 (no change). No other port changes, and nothing in the agent
-- changes except its ports
pub record SetsPort (a after : Agent) (port : ℕ) (payload told : List ℕ) : Type 0 where
  pub lids : has_lid a port ≡ true → range_at after port ≡ range_in payload
  pub lids_told : has_lid a port ≡ true → range_in told ≡ range_in payload
  pub state_told : bits_in port_state payload ≢ 0 → bits_in port_state told ≡ bits_in port_state payload
  pub others : (index : ℕ) → index ≢ port → port_at after index ≡ port_at a index
  pub all_else : after ≡ record a { ports = after.ports }
