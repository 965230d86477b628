-- NodeRecord, a node at one of its end ports: its fields and its spelling. InfiniBand Architecture Specification,
-- Volume 1: subnet administration, NodeRecord.
use Rattle.std.specs.Prelude.{ℕ, List, replicate}
use Rattle.smp_bytes.specs.Field.{Field, with_bytes, with_number}
use Rattle.attr_codec.specs.NodeInfo.{node_info_bytes}
use Rattle.sa_bytes.specs.declared.node_record.NodeRecord.{NodeRecord}

-- LID, a component of NodeRecord: the first LID of the end port
abbrev pub node_lid : Field
node_lid = record { at = 0; len = 2 }

-- NodeInfo in NodeRecord, as an attribute of 64 bytes. It has 40 bytes; the others are of NodeDescription
abbrev pub node_info_data : Field
node_info_data = record { at = 4; len = 64 }

-- the 112 bytes that spell `r`; NodeDescription, and the 4 bytes after it, are 0
abbrev pub node_record_bytes : NodeRecord → List ℕ
node_record_bytes r =
    with_bytes node_info_data.at (node_info_bytes r.info) (with_number node_lid r.lid (replicate 112 0))
