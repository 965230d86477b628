-- The agent of a node: how it begins, and what it keeps.
use Rattle.std.specs.Prelude.{◌≡◌, ◌≢◌, ℕ, ◌+◌, ◌*◌, ◌/◌, ◌^◌, ◌<◌, ◌≤◌, ◌⊎◌, Bool, true, false, List, All, length, replicate, slice_index_or, slice_set, ◌∷◌, if◌then◌else◌}
use Rattle.smp_bytes.specs.declared.node_type.NodeType.{NodeType}
use Rattle.smp_bytes.specs.NodeType as types
use Rattle.fabric_model.specs.Fabric.{Node}
use Rattle.smp_bytes.specs.LidRange.{has_lid as is_lid_of, lid_end}
use Rattle.attr_codec.specs.declared.port_state.PortState.{PortState}
use Rattle.attr_codec.specs.declared.port_state.PortState.TheVariants.{NoChange, Down, Initialize, Active}
use Rattle.node_agents.specs.declared.agent_node.AgentNode.{AgentNode}
use Rattle.node_agents.specs.declared.port.Port.{Port}

-- what an agent keeps: `node` is its node, as it was built, and `ports` has its ports, starting at port 0. `table` is
-- its forwarding table in whole blocks of 64 entries, and empty at an adapter. `top` is the greatest LID that the
-- node forwards. `masks` is its multicast forwarding table, a block of 64 bytes for each position
pub record Agent : Type 0 where
  pub node : AgentNode
  pub ports : List Port
  pub table : List ℕ
  pub top : ℕ
  pub masks : List ℕ

-- what is read of an agent -----------------------------------------------------------------

-- whether the agent's node is a switch
abbrev pub is_switch : Agent → Bool
is_switch a = types.is_switch a.node.kind

-- a port in `state`, to which nothing was written
abbrev pub port_in : PortState → Port
port_in state = record { base_lid = 0; lmc = 0; master_sm_lid = 0; state = state; is_sm = false }

-- the port `port` of an agent; a port that the node does not have is Down, and nothing was written to it
abbrev pub port_at : Agent → ℕ → Port
port_at a port = slice_index_or a.ports port (port_in Down)

-- the state of a port; Down if the node does not have it
abbrev pub state_at : Agent → ℕ → PortState
state_at a port = (port_at a port).state

-- the LID of a port; 0 if none was set
abbrev pub base_lid_at : Agent → ℕ → ℕ
base_lid_at a port = (port_at a port).base_lid

-- the LMC of a port; 0 if none was set
abbrev pub lmc_at : Agent → ℕ → ℕ
lmc_at a port = (port_at a port).lmc

-- the LID that was set at a port as the subnet manager's; 0 if none was set
abbrev pub master_sm_lid_at : Agent → ℕ → ℕ
master_sm_lid_at a port = (port_at a port).master_sm_lid

-- the LID and the LMC of a port
abbrev pub range_at : Agent → ℕ → ℕ × ℕ
range_at a port = (base_lid_at a port, lmc_at a port)

-- whether `lid` is one of the LIDs of a port
abbrev pub owns : Agent → ℕ → ℕ → Bool
owns a port lid = is_lid_of (base_lid_at a port) (lmc_at a port) lid

-- whether a subnet manager sits at the port
abbrev pub has_seat : Agent → ℕ → Bool
has_seat a port = (port_at a port).is_sm

-- the table entry that stands for no port
abbrev pub no_port : ℕ
no_port = 255

-- the entry for `lid` in the forwarding table, whatever the top is; `no_port` if the table is too short
abbrev pub entry_at : Agent → ℕ → ℕ
entry_at a lid = slice_index_or a.table lid no_port

-- the GUID of a port: for a switch, the node's GUID; for an adapter, the node's GUID plus the port's number
abbrev pub port_guid : AgentNode → ℕ → ℕ
port_guid node port = if types.is_switch node.kind then node.guid else node.guid + port

-- the node as forwarding sees it
abbrev pub node_of : Agent → Node
node_of a = record {
  guid = a.node.guid;
  kind = a.node.kind;
  ports = a.node.ports;
  cap = a.node.cap;
  port_guid =
      port_guid a.node;
}

-- what changes an agent from outside --------------------------------------------------

-- the agent with its port `port` replaced by `to`
abbrev pub with_port : Agent → ℕ → Port → Agent
with_port a port to = record a { ports = slice_set a.ports port to }

-- the agent after a cable was plugged into the port `port` if `is_wired`, else taken out of it; the port is then in
-- Initialize, or Down
abbrev pub after_set_wired : Agent → ℕ → Bool → Agent
after_set_wired a port is_wired =
    with_port a port (record (port_at a port) { state = if is_wired then Initialize else Down })

-- the agent after a subnet manager was seated at the port `port`
abbrev pub after_set_seat : Agent → ℕ → Agent
after_set_seat a port = with_port a port (record (port_at a port) { is_sm = true })

-- how an agent begins ----------------------------------------------------------------------

-- the number of blocks of 64 entries in a table of `cap` entries
abbrev pub block_count : ℕ → ℕ
block_count cap = (cap + 63) / 64

-- the number of positions in the multicast forwarding table of a node: one for each 16 ports of a switch, port 0
-- included, and none at an adapter
abbrev pub position_count : AgentNode → ℕ
position_count node = if types.is_switch node.kind then node.ports / 16 + 1 else 0

-- an agent with no port wired, no subnet manager seated and nothing written; port 0 is Active at a switch, and Down at
-- an adapter
unfoldable pub fresh_agent : AgentNode → Agent
fresh_agent node =
    record {
      node = node;
      ports = port_in (if types.is_switch node.kind then Active else Down) ∷ replicate node.ports (port_in Down);
      table = replicate (64 * block_count node.cap) no_port;
      top = 0;
      masks = replicate (64 * position_count node) 0;
    }

-- `node` can be built: its GUID and the GUID of each of its ports fit in 64 bits, and it has 1 to 254 ports. Only a
-- switch has a table, of at most 49,152 entries
pub record IsAgentNode (node : AgentNode) : Type 0 where
  pub guid : node.guid < 2 ^ 64
  pub ports : (1 ≤ node.ports) × (node.ports ≤ 254)
  pub cap : node.cap ≤ 49152
  pub no_table : types.is_switch node.kind ≡ false → node.cap ≡ 0
  pub port_guids : types.is_switch node.kind ≡ false → node.guid + node.ports < 2 ^ 64

-- `port` can be a port of an agent whose node has the type `kind`. The state of the port is not "no change", and its
-- LID is below the end of the unicast LIDs. No subnet manager sits at a port of a switch
pub record IsPort (kind : NodeType) (port : Port) : Type 0 where
  pub state : port.state ≢ NoChange
  pub base_lid : port.base_lid < lid_end
  pub is_sm : types.is_switch kind ≡ true → port.is_sm ≡ false

-- `a` satisfies the invariant of agents. Its node can be built, and has a description of 64 bytes. The agent has the
-- node's ports and port 0, which is Active at a switch. Its table has whole blocks, and its top is 0 or below the
-- table size. Its multicast table has a block for each position
pub record IsAgent (a : Agent) : Type 0 where
  pub node : IsAgentNode a.node
  pub description : length a.node.description ≡ 64
  pub count : length a.ports ≡ a.node.ports + 1
  pub ports : All (IsPort a.node.kind) a.ports
  pub port_zero : is_switch a ≡ true → state_at a 0 ≡ Active
  pub table : length a.table ≡ 64 * block_count a.node.cap
  pub top : (a.top ≡ 0) ⊎ (a.top < a.node.cap)
  pub masks : length a.masks ≡ 64 * position_count a.node
