-- PortInfoRecord, the PortInfo of a port: its fields and its spelling. InfiniBand Architecture Specification, Volume 1:
-- subnet administration, PortInfoRecord.
use Rattle.std.specs.Prelude.{ℕ, ◌++◌, List, replicate, take}
use Rattle.smp_bytes.specs.Field.{Field, with_bytes, with_number}
use Rattle.sa_bytes.specs.declared.port_info_record.PortInfoRecord.{PortInfoRecord}

-- EndPortLID, a component of PortInfoRecord: the first LID of the end port of the port's node
abbrev pub port_lid : Field
port_lid = record { at = 0; len = 2 }

-- PortNum, a component of PortInfoRecord
abbrev pub port_number : Field
port_number = record { at = 2; len = 1 }

-- PortInfo in PortInfoRecord
abbrev pub port_info_data : Field
port_info_data = record { at = 4; len = 64 }

-- the first 64 bytes of `info`, or `info` with 0 after its last byte
abbrev pub as_64 : List ℕ → List ℕ
as_64 info = take port_info_data.len (info ++ replicate 64 0)

-- the 72 bytes that spell `r`; the 4 bytes after PortInfo are 0
abbrev pub port_info_record_bytes : PortInfoRecord → List ℕ
port_info_record_bytes r =
    with_bytes port_info_data.at (as_64 r.info)
    (with_number port_number r.port (with_number port_lid r.lid (replicate 72 0)))
