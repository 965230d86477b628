-- PathRecord, a path from one port to another: its fields, the value of 64 bytes, and its spelling. InfiniBand
-- Architecture Specification, Volume 1: subnet administration, PathRecord.
use Rattle.std.specs.Prelude.{ℕ, List, [], ◌∷◌}
use Rattle.smp_bytes.specs.Field.{Field, Entry, number_in}
use Rattle.attr_codec.specs.Image.{AllFit, image}
use Rattle.sa_bytes.specs.declared.path_record.PathRecord.{PathRecord}

-- ServiceID, a component of PathRecord
abbrev pub service_id : Field
service_id = record { at = 0; len = 8 }

-- the GID prefix of DGID, the GID of the destination
abbrev pub dgid_prefix : Field
dgid_prefix = record { at = 8; len = 8 }

-- the port GUID of DGID
abbrev pub dgid_guid : Field
dgid_guid = record { at = 16; len = 8 }

-- the GID prefix of SGID, the GID of the source
abbrev pub sgid_prefix : Field
sgid_prefix = record { at = 24; len = 8 }

-- the port GUID of SGID
abbrev pub sgid_guid : Field
sgid_guid = record { at = 32; len = 8 }

-- DLID, the LID of the destination
abbrev pub dlid : Field
dlid = record { at = 40; len = 2 }

-- SLID, the LID of the source
abbrev pub slid : Field
slid = record { at = 42; len = 2 }

-- RawTraffic, FlowLabel and HopLimit: a bit, three reserved bits, 20 bits and 8 bits
abbrev pub flow_and_hops : Field
flow_and_hops = record { at = 44; len = 4 }

-- TClass, a component of PathRecord
abbrev pub traffic_class : Field
traffic_class = record { at = 48; len = 1 }

-- Reversible and NumbPath: the highest bit, and seven bits
abbrev pub reversible_and_count : Field
reversible_and_count = record { at = 49; len = 1 }

-- P_Key, a component of PathRecord
abbrev pub p_key : Field
p_key = record { at = 50; len = 2 }

-- QoSClass and SL: 12 bits and 4 bits
abbrev pub qos_class_and_sl : Field
qos_class_and_sl = record { at = 52; len = 2 }

-- MtuSelector and Mtu: 2 bits and 6 bits
abbrev pub mtu : Field
mtu = record { at = 54; len = 1 }

-- RateSelector and Rate: 2 bits and 6 bits
abbrev pub rate : Field
rate = record { at = 55; len = 1 }

-- PacketLifeTimeSelector and PacketLifeTime: 2 bits and 6 bits
abbrev pub packet_life_time : Field
packet_life_time = record { at = 56; len = 1 }

-- Preference, a component of PathRecord
abbrev pub preference : Field
preference = record { at = 57; len = 1 }

-- the PathRecord that 64 bytes spell
abbrev pub path_record_in : List ℕ → PathRecord
path_record_in bytes =
    record {
      service_id = number_in service_id bytes;
      dgid_prefix = number_in dgid_prefix bytes;
      dgid_guid = number_in dgid_guid bytes;
      sgid_prefix = number_in sgid_prefix bytes;
      sgid_guid = number_in sgid_guid bytes;
      dlid = number_in dlid bytes;
      slid = number_in slid bytes;
      flow_and_hops = number_in flow_and_hops bytes;
      traffic_class = number_in traffic_class bytes;
      reversible_and_count = number_in reversible_and_count bytes;
      p_key = number_in p_key bytes;
      qos_class_and_sl = number_in qos_class_and_sl bytes;
      mtu = number_in mtu bytes;
      rate = number_in rate bytes;
      packet_life_time = number_in packet_life_time bytes;
      preference = number_in preference bytes;
    }

-- each field of PathRecord with its number in `path`
abbrev pub path_entries : PathRecord → List Entry
path_entries path =
    record { field = service_id; number = path.service_id }
    ∷ record { field = dgid_prefix; number = path.dgid_prefix }
    ∷ record { field = dgid_guid; number = path.dgid_guid }
    ∷ record { field = sgid_prefix; number = path.sgid_prefix }
    ∷ record { field = sgid_guid; number = path.sgid_guid }
    ∷ record { field = dlid; number = path.dlid }
    ∷ record { field = slid; number = path.slid }
    ∷ record { field = flow_and_hops; number = path.flow_and_hops }
    ∷ record { field = traffic_class; number = path.traffic_class }
    ∷ record { field = reversible_and_count; number = path.reversible_and_count }
    ∷ record { field = p_key; number = path.p_key }
    ∷ record { field = qos_class_and_sl; number = path.qos_class_and_sl }
    ∷ record { field = mtu; number = path.mtu }
    ∷ record { field = rate; number = path.rate }
    ∷ record { field = packet_life_time; number = path.packet_life_time }
    ∷ record { field = preference; number = path.preference } ∷ []

-- the 64 bytes that spell `path`; the bytes after the last field are reserved and 0
abbrev pub path_record_bytes : PathRecord → List ℕ
path_record_bytes path = image (path_entries path)

-- each number of `path` fits in its field of PathRecord
abbrev pub FitsPathRecord : PathRecord → Type 0
FitsPathRecord path = AllFit (path_entries path)
