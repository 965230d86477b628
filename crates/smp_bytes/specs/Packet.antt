-- A subnet management packet (SMP), a list of 256 bytes: its fields, and the faults of bytes that are not a packet.
-- InfiniBand Architecture Specification, Volume 1: management datagram header, and SMP formats, LID routed and directed
-- route.
use Rattle.std.specs.Prelude.{ℕ, ◌+◌, ◌%◌, ◌^◌, Bool, ◌&&◌, ◌||◌, not, List, nat_lt, ◌==◌, if◌then◌else◌, Option, Some, None}
use Rattle.smp_bytes.specs.Field.{Field, Bits, number_in, bits_in}
use Rattle.smp_bytes.specs.Header.{lid_routed_class, directed_class}
use Rattle.smp_bytes.specs.declared.smp_fault.SmpFault.{SmpFault}
use Rattle.smp_bytes.specs.declared.smp_fault.SmpFault.TheVariants.{BaseVersion, Class, ClassVersion, HopCount, HopPointer, DrLid}

-- the table of fields --------------------------------------------------------------

-- the fields of both classes

-- BaseVersion, a field of both classes
abbrev pub base_version : Field
base_version = record { at = 0; len = 1 }

-- MgmtClass, a field of both classes
abbrev pub mgmt_class : Field
mgmt_class = record { at = 1; len = 1 }

-- ClassVersion, a field of both classes
abbrev pub class_version : Field
class_version = record { at = 2; len = 1 }

-- the R bit and the seven bits of the method, in one field
abbrev pub method : Field
method = record { at = 3; len = 1 }

-- the R bit, which is set in answers
abbrev pub response_bit : Bits
response_bit = record { at = 3; shift = 7; width = 1 }

-- the status as a field; in the directed class, its highest bit is the D bit
abbrev pub status_word : Field
status_word = record { at = 4; len = 2 }

-- the D bit, which is set on the way back; only in the directed class
abbrev pub direction_bit : Bits
direction_bit = record { at = 4; shift = 7; width = 1 }

-- TransactionID, a field of both classes
abbrev pub transaction_id : Field
transaction_id = record { at = 8; len = 8 }

-- AttributeID, a field of both classes
abbrev pub attribute_id : Field
attribute_id = record { at = 16; len = 2 }

-- AttributeModifier, a field of both classes
abbrev pub attribute_modifier : Field
attribute_modifier = record { at = 20; len = 4 }

-- M_Key, a field of both classes
abbrev pub m_key : Field
m_key = record { at = 24; len = 8 }

-- the 64 bytes of the attribute
abbrev pub attribute_data : Field
attribute_data = record { at = 64; len = 64 }

-- the fields of the directed class only

-- HopPointer, a field of the directed class
abbrev pub hop_pointer : Field
hop_pointer = record { at = 6; len = 1 }

-- HopCount, a field of the directed class
abbrev pub hop_count : Field
hop_count = record { at = 7; len = 1 }

-- DrSLID, a field of the directed class
abbrev pub dr_slid : Field
dr_slid = record { at = 32; len = 2 }

-- DrDLID, a field of the directed class
abbrev pub dr_dlid : Field
dr_dlid = record { at = 34; len = 2 }

-- InitialPath at index `i`: the port by which a directed packet leaves at its step `i`; index 0 is not used
abbrev pub initial_path : ℕ → Field
initial_path i = record { at = 128 + i; len = 1 }

-- ReturnPath at index `i`: the port by which the answer to a directed packet leaves on its way back at step `i`;
-- index 0 is not used
abbrev pub return_path : ℕ → Field
return_path i = record { at = 192 + i; len = 1 }

-- what the fields say -----------------------------------------------------------------

-- whether `packet` has the class of LID-routed packets
abbrev pub is_lid_routed : List ℕ → Bool
is_lid_routed packet = number_in mgmt_class packet == lid_routed_class

-- whether `packet` has the class of packets on directed routes
abbrev pub is_directed : List ℕ → Bool
is_directed packet = number_in mgmt_class packet == directed_class

-- whether the R bit of `packet` is set, as in an answer
abbrev pub is_response : List ℕ → Bool
is_response packet = bits_in response_bit packet == 1

-- whether the D bit of `packet` is set, as in a directed packet on its way back
abbrev pub is_returning : List ℕ → Bool
is_returning packet = bits_in direction_bit packet == 1

-- the status of `packet`, without the D bit in the directed class
abbrev pub status : List ℕ → ℕ
status packet = if is_directed packet then number_in status_word packet % 2 ^ 15 else number_in status_word packet

-- the permissive LID. In DrSLID it says that no LID-routed part comes before the directed route, and in DrDLID that
-- none comes after it
abbrev pub permissive_lid : ℕ
permissive_lid = 0xFFFF

-- the greatest number of hops of a directed path
abbrev pub max_hops : ℕ
max_hops = 63

-- the first fault in the fields that only the directed class has; None if these fields have no fault
abbrev pub directed_fault_of : List ℕ → Option SmpFault
directed_fault_of packet =
    if nat_lt max_hops (number_in hop_count packet) then Some HopCount
    else if nat_lt (number_in hop_count packet + 1) (number_in hop_pointer packet) then Some HopPointer
    else if not (number_in dr_slid packet == permissive_lid
    && number_in dr_dlid packet == permissive_lid) then Some DrLid
    else None

-- the first fault of 256 bytes; None if they form a packet
abbrev pub fault_of : List ℕ → Option SmpFault
fault_of packet =
    if not (number_in base_version packet == 1) then Some BaseVersion
    else if not (is_lid_routed packet || is_directed packet) then Some Class
    else if not (number_in class_version packet == 1) then Some ClassVersion
    else if is_directed packet then directed_fault_of packet
    else None
