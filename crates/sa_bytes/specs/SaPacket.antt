-- A packet of subnet administration (SA), a list of 256 bytes: its fields, and when it is a request. InfiniBand
-- Architecture Specification, Volume 1: management datagram header; subnet administration, SA management datagrams.
use Rattle.std.specs.Prelude.{ℕ, Bool, ◌&&◌, ◌||◌, not, List, ◌==◌}
use Rattle.smp_bytes.specs.Field.{Bits, Field, bits_in, number_in}
use Rattle.smp_bytes.specs.Packet.{base_version, mgmt_class, class_version, is_response}
use Rattle.sa_bytes.specs.Numbers.{sa_class, sa_version}

-- RMPPVersion, RMPPType, RRespTime with RMPPFlags, and RMPPStatus, a byte each: what a packet is in the reliable
-- multi-packet protocol (RMPP); 0 in a packet that is alone
abbrev pub rmpp_kind : Field
rmpp_kind = record { at = 24; len = 4 }

-- SegmentNumber of RMPP
abbrev pub segment_number : Field
segment_number = record { at = 28; len = 4 }

-- PayloadLength of RMPP: the number of bytes from SM_Key to the end of the records
abbrev pub payload_length : Field
payload_length = record { at = 32; len = 4 }

-- SM_Key
abbrev pub sm_key : Field
sm_key = record { at = 36; len = 8 }

-- AttributeOffset: the number of units of 8 bytes from the begin of one record to the next
abbrev pub attribute_offset : Field
attribute_offset = record { at = 44; len = 2 }

-- ComponentMask: a bit for each component of the record that a request gives
abbrev pub component_mask : Field
component_mask = record { at = 48; len = 8 }

-- the offset of the record, and the greatest number of its bytes in one packet
abbrev pub record_data : Field
record_data = record { at = 56; len = 200 }

-- the record of a request for paths: 64 bytes
abbrev pub path_data : Field
path_data = record { at = 56; len = 64 }

-- LID, the first component of NodeRecord and of PortInfoRecord, in a packet
abbrev pub lid_data : Field
lid_data = record { at = 56; len = 2 }

-- PortNum, the second component of PortInfoRecord, in a packet
abbrev pub port_data : Field
port_data = record { at = 58; len = 1 }

-- NodeInfo in a NodeRecord, and PortInfo in a PortInfoRecord, as an attribute of 64 bytes in a packet
abbrev pub attribute_data : Field
attribute_data = record { at = 60; len = 64 }

-- RMPPType
abbrev pub rmpp_type : Field
rmpp_type = record { at = 25; len = 1 }

-- Active, a flag of RMPPFlags: whether the packet is one of RMPP
abbrev pub rmpp_active : Bits
rmpp_active = record { at = 26; shift = 0; width = 1 }

-- whether a packet is none of RMPP, or has data. Others acknowledge, stop or abort: they have the method of a request,
-- and answer a table
abbrev pub has_data : List ℕ → Bool
has_data packet = bits_in rmpp_active packet == 0 || number_in rmpp_type packet == 1

-- whether 256 bytes are a request of subnet administration: they have its class and its version, the R bit is not set,
-- and they are no other packet of RMPP than one with data
abbrev pub is_sa_request : List ℕ → Bool
is_sa_request packet =
    number_in base_version packet == 1
    && (number_in mgmt_class packet == sa_class
    && (number_in class_version packet == sa_version && (not (is_response packet) && has_data packet)))
