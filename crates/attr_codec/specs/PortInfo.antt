-- PortInfo: where its fields are, the LID with its LMC, and the numbers of port states. InfiniBand Architecture
-- Specification, Volume 1: subnet management, PortInfo.
use Rattle.std.specs.Prelude.{ℕ, List, Option, [], ◌∷◌, find, ◌==◌, Bool}
use Rattle.smp_bytes.specs.Field.{Field, Bits, number_in, bits_in}
use Rattle.attr_codec.specs.declared.port_state.PortState.{PortState}
use Rattle.attr_codec.specs.declared.port_state.PortState.TheVariants.{NoChange, Down, Initialize, Armed, Active}

-- M_Key, a component of PortInfo
abbrev pub m_key : Field
m_key = record { at = 0; len = 8 }

-- GIDPrefix, a component of PortInfo
abbrev pub gid_prefix : Field
gid_prefix = record { at = 8; len = 8 }

-- LID, a component of PortInfo: the first LID of the port
abbrev pub base_lid : Field
base_lid = record { at = 16; len = 2 }

-- MasterSMLID, a component of PortInfo
abbrev pub master_sm_lid : Field
master_sm_lid = record { at = 18; len = 2 }

-- CapabilityMask, a component of PortInfo
abbrev pub capability_mask : Field
capability_mask = record { at = 20; len = 4 }

-- LocalPortNum, a component of PortInfo
abbrev pub local_port_num : Field
local_port_num = record { at = 28; len = 1 }

-- LinkSpeedSupported, a component of PortInfo
abbrev pub link_speed_supported : Bits
link_speed_supported = record { at = 32; shift = 4; width = 4 }

-- PortPhysicalState, a component of PortInfo
abbrev pub port_physical_state : Bits
port_physical_state = record { at = 33; shift = 4; width = 4 }

-- LinkDownDefaultState, a component of PortInfo
abbrev pub link_down_default_state : Bits
link_down_default_state = record { at = 33; shift = 0; width = 4 }

-- M_KeyProtectBits, a component of PortInfo
abbrev pub m_key_protect_bits : Bits
m_key_protect_bits = record { at = 34; shift = 6; width = 2 }

-- LMC, a component of PortInfo
abbrev pub lmc : Bits
lmc = record { at = 34; shift = 0; width = 3 }

-- the LID and the LMC in the PortInfo `payload`
abbrev pub range_in : List ℕ → ℕ × ℕ
range_in payload = (number_in base_lid payload, bits_in lmc payload)

-- PortState, a component of PortInfo
abbrev pub port_state : Bits
port_state = record { at = 32; shift = 0; width = 4 }

-- IsSM, bit 1 of CapabilityMask, which says that a subnet manager sits at the port
abbrev pub is_sm_bit : Bits
is_sm_bit = record { at = 23; shift = 1; width = 1 }

-- the number of a port state
abbrev pub number_of_state : PortState → ℕ
number_of_state NoChange = 0
number_of_state Down = 1
number_of_state Initialize = 2
number_of_state Armed = 3
number_of_state Active = 4

-- the port state with the number `number`; None if no port state has this number
abbrev pub state_of_number : ℕ → Option PortState
state_of_number number =
    find (λ state. number == number_of_state state) (NoChange ∷ Down ∷ Initialize ∷ Armed ∷ Active ∷ [])

-- LinkWidthEnabled, a component of PortInfo
abbrev pub link_width_enabled : Bits
link_width_enabled = record { at = 29; shift = 0; width = 8 }

-- NeighborMTU, a component of PortInfo
abbrev pub neighbor_mtu : Bits
neighbor_mtu = record { at = 36; shift = 4; width = 4 }

-- MTUCap, a component of PortInfo
abbrev pub mtu_cap : Bits
mtu_cap = record { at = 41; shift = 0; width = 4 }

-- LinkSpeedEnabled, a component of PortInfo
abbrev pub link_speed_enabled : Bits
link_speed_enabled = record { at = 35; shift = 0; width = 4 }

-- LinkSpeedExtEnabled, a component of PortInfo
abbrev pub link_speed_ext_enabled : Bits
link_speed_ext_enabled = record { at = 63; shift = 0; width = 5 }

-- HOQLife, a component of PortInfo
abbrev pub hoq_life : Bits
hoq_life = record { at = 42; shift = 0; width = 5 }

-- ClientReregister, a component of PortInfo
abbrev pub client_reregister : Bits
client_reregister = record { at = 51; shift = 7; width = 1 }

-- SubnetTimeOut, a component of PortInfo
abbrev pub subnet_timeout : Bits
subnet_timeout = record { at = 51; shift = 0; width = 5 }

-- whether PortInfo says that a manager sits at the port
abbrev pub has_manager : List ℕ → Bool
has_manager info = bits_in is_sm_bit info == 1
