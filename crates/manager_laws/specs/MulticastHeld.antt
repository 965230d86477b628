-- What multicast packets do in a simulated fabric whose switches hold the masks of a tree.
-- InfiniBand Architecture Specification, Volume 1: subnet management, MulticastForwardingTable; switches, multicast
-- forwarding by the multicast forwarding table.
use Rattle.std.specs.Prelude.{◌≡◌, ◌≢◌, ◌<◌, ◌+◌, ◌*◌, ◌/◌, ◌%◌, ◌==◌, ℕ, Bool, false, IsTrue, List, Contains, Some}
use Rattle.std.specs.Prelude.{slice_index}
use Rattle.std.specs.Int.{bit_at}
use Rattle.std.specs.Option.{option_map_or}
use Rattle.fabric_model.specs.declared.cable.NodePort.{NodePort}
use Rattle.smp_bytes.specs.Field.{number_in}
use Rattle.smp_bytes.specs.NodeType.{is_switch}
use Rattle.fabric_model.specs.Fabric as fabric
use Rattle.fabric_model.specs.Fabric.{IsEndPort}
use Rattle.fabric_model.specs.FabricWalks.{IsJoinedTo}
use Rattle.fact_store.specs.View.{Facts, cells_of}
use Rattle.subnet_view.specs.FabricAgreement.{Covers, IsEndPortIn, Part}
use Rattle.lft_blocks.specs.Rule.{RuleValue}
use Rattle.multicast_tree.specs.Copies.{Copying}
use Rattle.multicast_tree.specs.FabricCopies.{IsAdapterPortIn, IsOneCopy, IsSenderIn, copying_at, pair_of}
use Rattle.multicast_tree.specs.Tree.{TreePorts, tree_of}
use Rattle.plan_steps.specs.MaskSteps.{mask_of, masks_data}
use Rattle.node_agents.specs.Agent.{Agent, position_count}
use Rattle.fabric_sim.specs.Simulation.{IsSimulation, Simulation, agent_at, fabric_of}

-- the mask that an agent has for the first multicast LID at the position `position`; 0 if its table is too short
abbrev pub mask_at : Agent → ℕ → ℕ
mask_at a position = number_in (record { at = 64 * position; len = 2 }) a.masks

-- whether the port `p` is in the masks that an agent has for the first multicast LID
abbrev pub has_port : Agent → ℕ → Bool
has_port a p = bit_at (mask_at a (p / 16)) (p % 16) == 1

-- whether the port `p` is in the masks that the agent of the node `id` has for the first multicast LID; false if there
-- is no such node
abbrev pub group_of : Simulation → ℕ → ℕ → Bool
group_of s id p = option_map_or (λ a. has_port a p) (agent_at s id) false

-- how packets for the first multicast LID are copied in a simulated fabric
abbrev pub copying_of : Simulation → Copying
copying_of s = copying_at (fabric_of s) (group_of s)

-- at each position the agent's table has the block that is written for `ports`
abbrev pub HoldsMasks : List ℕ → Agent → Type 0
HoldsMasks ports a = (position i : ℕ) → position < position_count a.node → i < 64
    → slice_index a.masks (64 * position + i) ≡ slice_index (masks_data (mask_of ports position)) i

-- the agent of each switch of the part that the tree has holds the masks of the switch's ports in the tree
abbrev pub HoldsTree : Part → List TreePorts → Simulation → Type 0
HoldsTree part tree s = (port : NodePort) (node : fabric.Node) → IsEndPortIn part (fabric_of s) port node
    → IsTrue (is_switch node.kind) → (a : Agent) → agent_at s port.node ≡ Some a
    → (x : TreePorts) → Contains tree x → x.guid ≡ node.guid → HoldsMasks x.ports a

-- suppose facts describe the part of a simulated fabric that an end port is joined to, and this part holds the tree of
-- a rule. Then of a packet for the first multicast LID that an adapter port of the part sends to a switch, exactly one
-- copy comes to each other adapter port of the part
abbrev pub EachGetsOneCopy : Type 0
EachGetsOneCopy = (rule : RuleValue) (facts : Facts) (s : Simulation) (origin : NodePort) → IsSimulation s
    → IsEndPort (fabric_of s) origin → Covers (IsJoinedTo (fabric_of s) origin) (cells_of facts) (fabric_of s)
    → HoldsTree (IsJoinedTo (fabric_of s) origin) (tree_of rule (cells_of facts)) s
    → (sender at receiver : NodePort) → IsSenderIn (IsJoinedTo (fabric_of s) origin) (fabric_of s) sender at
    → IsAdapterPortIn (IsJoinedTo (fabric_of s) origin) (fabric_of s) receiver → sender ≢ receiver
    → IsOneCopy (copying_of s) (pair_of at) (pair_of receiver)
