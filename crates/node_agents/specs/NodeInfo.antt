-- Node information: what a Get returns. It cannot be set.
-- InfiniBand Architecture Specification, Volume 1: subnet management, NodeInfo.
use Rattle.std.specs.Prelude.{ℕ, List}
use Rattle.attr_codec.specs.declared.node_info.NodeInfo.{NodeInfo}
use Rattle.attr_codec.specs.NodeInfo.{node_info_bytes}
use Rattle.attr_codec.specs.NodeTypeNumber.{number_of_type}
use Rattle.node_agents.specs.declared.agent_node.AgentNode.{AgentNode}
use Rattle.node_agents.specs.Agent.{Agent, port_guid}

-- the NodeInfo of the node, for a request that arrived at the port `arrival`
abbrev pub node_info_of : AgentNode → ℕ → NodeInfo
node_info_of node arrival =
    record {
      base_version = 1;
      class_version = 1;
      node_type = number_of_type node.kind;
      num_ports = node.ports;
      system_image_guid = node.guid;
      node_guid = node.guid;
      port_guid = port_guid node arrival;
      partition_cap = 1;
      device_id = 0;
      revision = 0;
      local_port_num = arrival;
      vendor_id = 0;
    }

-- the NodeInfo that a Get returns, for a request that arrived at the port `arrival`
abbrev pub get_node_info : Agent → ℕ → List ℕ
get_node_info a arrival = node_info_bytes (node_info_of a.node arrival)
