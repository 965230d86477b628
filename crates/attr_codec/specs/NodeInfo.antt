-- Node information: its fields, the value of 64 bytes, and its spelling. InfiniBand Architecture Specification, Volume
-- 1: subnet management, NodeInfo.
use Rattle.std.specs.Prelude.{ℕ, List, [], ◌∷◌}
use Rattle.smp_bytes.specs.Field.{Field, Entry, number_in}
use Rattle.attr_codec.specs.Image.{AllFit, image}
use Rattle.attr_codec.specs.declared.node_info.NodeInfo.{NodeInfo}

-- BaseVersion, a component of NodeInfo
abbrev pub base_version : Field
base_version = record { at = 0; len = 1 }

-- ClassVersion, a component of NodeInfo
abbrev pub class_version : Field
class_version = record { at = 1; len = 1 }

-- NodeType, a component of NodeInfo
abbrev pub node_type : Field
node_type = record { at = 2; len = 1 }

-- NumPorts, a component of NodeInfo
abbrev pub num_ports : Field
num_ports = record { at = 3; len = 1 }

-- SystemImageGUID, a component of NodeInfo
abbrev pub system_image_guid : Field
system_image_guid = record { at = 4; len = 8 }

-- NodeGUID, a component of NodeInfo
abbrev pub node_guid : Field
node_guid = record { at = 12; len = 8 }

-- PortGUID, a component of NodeInfo
abbrev pub port_guid : Field
port_guid = record { at = 20; len = 8 }

-- PartitionCap, a component of NodeInfo
abbrev pub partition_cap : Field
partition_cap = record { at = 28; len = 2 }

-- DeviceID, a component of NodeInfo
abbrev pub device_id : Field
device_id = record { at = 30; len = 2 }

-- Revision, a component of NodeInfo
abbrev pub revision : Field
revision = record { at = 32; len = 4 }

-- LocalPortNum, a component of NodeInfo
abbrev pub local_port_num : Field
local_port_num = record { at = 36; len = 1 }

-- VendorID, a component of NodeInfo
abbrev pub vendor_id : Field
vendor_id = record { at = 37; len = 3 }

-- the NodeInfo that 64 bytes spell
abbrev pub node_info_in : List ℕ → NodeInfo
node_info_in bytes =
    record {
      base_version = number_in base_version bytes;
      class_version = number_in class_version bytes;
      node_type = number_in node_type bytes;
      num_ports = number_in num_ports bytes;
      system_image_guid = number_in system_image_guid bytes;
      node_guid = number_in node_guid bytes;
      port_guid = number_in port_guid bytes;
      partition_cap = number_in partition_cap bytes;
      device_id = number_in device_id bytes;
      revision = number_in revision bytes;
      local_port_num = number_in local_port_num bytes;
      vendor_id = number_in vendor_id bytes;
    }

-- each field of NodeInfo with its number in `info`
abbrev pub entries_of : NodeInfo → List Entry
entries_of info =
    record { field = base_version; number = info.base_version }
    ∷ record { field = class_version; number = info.class_version }
    ∷ record { field = node_type; number = info.node_type }
    ∷ record { field = num_ports; number = info.num_ports }
    ∷ record { field = system_image_guid; number = info.system_image_guid }
    ∷ record { field = node_guid; number = info.node_guid }
    ∷ record { field = port_guid; number = info.port_guid }
    ∷ record { field = partition_cap; number = info.partition_cap }
    ∷ record { field = device_id; number = info.device_id }
    ∷ record { field = revision; number = info.revision }
    ∷ record { field = local_port_num; number = info.local_port_num }
    ∷ record { field = vendor_id; number = info.vendor_id } ∷ []

-- the 64 bytes that spell `info`; the bytes after the last field are reserved and 0
abbrev pub node_info_bytes : NodeInfo → List ℕ
node_info_bytes info = image (entries_of info)

-- each number of `info` fits in its field of NodeInfo
abbrev pub FitsNodeInfo : NodeInfo → Type 0
FitsNodeInfo info = AllFit (entries_of info)
