-- MCMemberRecord, a port's membership in a multicast group: its fields, the value of 64 bytes, and its spelling.
-- InfiniBand Architecture Specification, Volume 1: subnet administration, MCMemberRecord.
use Rattle.std.specs.Prelude.{ℕ, List, [], ◌∷◌}
use Rattle.smp_bytes.specs.Field.{Field, Entry, number_in}
use Rattle.attr_codec.specs.Image.{AllFit, image}
use Rattle.sa_bytes.specs.declared.member_record.MemberRecord.{MemberRecord}

-- the first 8 bytes of MGID, the GID of the group
abbrev pub mgid_high : Field
mgid_high = record { at = 0; len = 8 }

-- the last 8 bytes of MGID
abbrev pub mgid_low : Field
mgid_low = record { at = 8; len = 8 }

-- the GID prefix of PortGID, the GID of the port that joins
abbrev pub port_prefix : Field
port_prefix = record { at = 16; len = 8 }

-- the port GUID of PortGID
abbrev pub port_guid : Field
port_guid = record { at = 24; len = 8 }

-- Q_Key, a component of MCMemberRecord
abbrev pub q_key : Field
q_key = record { at = 32; len = 4 }

-- MLID, the multicast LID of the group
abbrev pub mlid : Field
mlid = record { at = 36; len = 2 }

-- MTUSelector and MTU: 2 bits and 6 bits
abbrev pub mtu : Field
mtu = record { at = 38; len = 1 }

-- TClass, a component of MCMemberRecord
abbrev pub traffic_class : Field
traffic_class = record { at = 39; len = 1 }

-- P_Key, a component of MCMemberRecord
abbrev pub p_key : Field
p_key = record { at = 40; len = 2 }

-- RateSelector and Rate: 2 bits and 6 bits
abbrev pub rate : Field
rate = record { at = 42; len = 1 }

-- PacketLifeTimeSelector and PacketLifeTime: 2 bits and 6 bits
abbrev pub packet_life_time : Field
packet_life_time = record { at = 43; len = 1 }

-- SL, FlowLabel and HopLimit: 4 bits, 20 bits and 8 bits
abbrev pub sl_flow_and_hops : Field
sl_flow_and_hops = record { at = 44; len = 4 }

-- Scope and JoinState: 4 bits and 4 bits
abbrev pub scope_and_state : Field
scope_and_state = record { at = 48; len = 1 }

-- ProxyJoin: the highest bit, and seven reserved bits
abbrev pub proxy_join : Field
proxy_join = record { at = 49; len = 1 }

-- the MCMemberRecord that 64 bytes spell
abbrev pub member_record_in : List ℕ → MemberRecord
member_record_in bytes =
    record {
      mgid_high = number_in mgid_high bytes;
      mgid_low = number_in mgid_low bytes;
      port_prefix = number_in port_prefix bytes;
      port_guid = number_in port_guid bytes;
      q_key = number_in q_key bytes;
      mlid = number_in mlid bytes;
      mtu = number_in mtu bytes;
      traffic_class = number_in traffic_class bytes;
      p_key = number_in p_key bytes;
      rate = number_in rate bytes;
      packet_life_time = number_in packet_life_time bytes;
      sl_flow_and_hops = number_in sl_flow_and_hops bytes;
      scope_and_state = number_in scope_and_state bytes;
      proxy_join = number_in proxy_join bytes;
    }

-- each field of MCMemberRecord with its number in `member`
abbrev pub member_entries : MemberRecord → List Entry
member_entries member =
    record { field = mgid_high; number = member.mgid_high }
    ∷ record { field = mgid_low; number = member.mgid_low }
    ∷ record { field = port_prefix; number = member.port_prefix }
    ∷ record { field = port_guid; number = member.port_guid }
    ∷ record { field = q_key; number = member.q_key }
    ∷ record { field = mlid; number = member.mlid }
    ∷ record { field = mtu; number = member.mtu }
    ∷ record { field = traffic_class; number = member.traffic_class }
    ∷ record { field = p_key; number = member.p_key }
    ∷ record { field = rate; number = member.rate }
    ∷ record { field = packet_life_time; number = member.packet_life_time }
    ∷ record { field = sl_flow_and_hops; number = member.sl_flow_and_hops }
    ∷ record { field = scope_and_state; number = member.scope_and_state }
    ∷ record { field = proxy_join; number = member.proxy_join } ∷ []

-- the 64 bytes that spell `member`; the bytes after the last field are reserved and 0
abbrev pub member_record_bytes : MemberRecord → List ℕ
member_record_bytes member = image (member_entries member)

-- each number of `member` fits in its field of MCMemberRecord
abbrev pub FitsMemberRecord : MemberRecord → Type 0
FitsMemberRecord member = AllFit (member_entries member)
