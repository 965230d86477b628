-- SwitchInfo: where its fields are. InfiniBand Architecture Specification, Volume 1: subnet management, SwitchInfo.
use Rattle.smp_bytes.specs.Field.{Field, Bits}

-- LinearFDBCap, a component of SwitchInfo: how many LIDs a switch's table has room for
abbrev pub linear_fdb_cap : Field
linear_fdb_cap = record { at = 0; len = 2 }

-- RandomFDBCap, a component of SwitchInfo
abbrev pub random_fdb_cap : Field
random_fdb_cap = record { at = 2; len = 2 }

-- MulticastFDBCap, a component of SwitchInfo
abbrev pub multicast_fdb_cap : Field
multicast_fdb_cap = record { at = 4; len = 2 }

-- LinearFDBTop, a component of SwitchInfo: the greatest LID for which a switch uses its table (its top)
abbrev pub linear_fdb_top : Field
linear_fdb_top = record { at = 6; len = 2 }

-- DefaultPort, a component of SwitchInfo
abbrev pub default_port : Field
default_port = record { at = 8; len = 1 }

-- DefaultMulticastPrimaryPort, a component of SwitchInfo
abbrev pub default_multicast_primary_port : Field
default_multicast_primary_port = record { at = 9; len = 1 }

-- DefaultMulticastNotPrimaryPort, a component of SwitchInfo
abbrev pub default_multicast_not_primary_port : Field
default_multicast_not_primary_port = record { at = 10; len = 1 }

-- LIDsPerPort, a component of SwitchInfo
abbrev pub lids_per_port : Field
lids_per_port = record { at = 12; len = 2 }

-- PartitionEnforcementCap, a component of SwitchInfo
abbrev pub partition_enforcement_cap : Field
partition_enforcement_cap = record { at = 14; len = 2 }

-- LifeTimeValue, a component of SwitchInfo
abbrev pub life_time_value : Bits
life_time_value = record { at = 11; shift = 3; width = 5 }

-- PortStateChange, a component of SwitchInfo
abbrev pub port_state_change : Bits
port_state_change = record { at = 11; shift = 2; width = 1 }
