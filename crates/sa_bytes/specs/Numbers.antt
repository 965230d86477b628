-- The numbers of the class, of methods, statuses and attributes of subnet administration. InfiniBand Architecture
-- Specification, Volume 1: subnet administration, methods, attributes and status.
use Rattle.std.specs.Prelude.{ℕ}

-- the class of subnet administration
abbrev pub sa_class : ℕ
sa_class = 0x03

-- the version of this class
abbrev pub sa_version : ℕ
sa_version = 2

-- the method Get, a request for one record
abbrev pub sa_get : ℕ
sa_get = 0x01

-- the method Set
abbrev pub sa_set : ℕ
sa_set = 0x02

-- the method GetTable, a request for all records that are as it asks
abbrev pub sa_get_table : ℕ
sa_get_table = 0x12

-- the method Delete
abbrev pub sa_delete : ℕ
sa_delete = 0x15

-- the method GetResp, the answer to Get and to Set
abbrev pub sa_get_resp : ℕ
sa_get_resp = 0x81

-- the attribute ClassPortInfo
abbrev pub class_port_info : ℕ
class_port_info = 0x0001

-- the attribute NodeRecord
abbrev pub node_record : ℕ
node_record = 0x0011

-- the attribute PortInfoRecord
abbrev pub port_info_record : ℕ
port_info_record = 0x0012

-- the attribute PathRecord
abbrev pub path_record : ℕ
path_record = 0x0035

-- the attribute MCMemberRecord
abbrev pub member_record : ℕ
member_record = 0x0038

-- the status of a request that was done
abbrev pub sa_done : ℕ
sa_done = 0x0000

-- the status of a request whose method is not supported for its attribute
abbrev pub not_supported : ℕ
not_supported = 0x000C

-- the status of a request with a component that cannot be
abbrev pub invalid_request : ℕ
invalid_request = 0x0200

-- the status of a request to which no record answers
abbrev pub no_records : ℕ
no_records = 0x0300

-- the status of a request for one record to which more than one answers
abbrev pub too_many_records : ℕ
too_many_records = 0x0400

-- the status of a request with a GID that it cannot have
abbrev pub invalid_gid : ℕ
invalid_gid = 0x0500

-- the status of a request that lacks components
abbrev pub insufficient_components : ℕ
insufficient_components = 0x0600
