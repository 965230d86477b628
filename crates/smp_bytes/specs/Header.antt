-- The numbers of classes, methods, statuses and attributes.
-- InfiniBand Architecture Specification, Volume 1: management datagram header; subnet management class: methods,
-- status, attributes.
use Rattle.std.specs.Prelude.{ℕ}

-- the classes: LID routed, and directed route

-- the class of LID-routed packets
abbrev pub lid_routed_class : ℕ
lid_routed_class = 0x01

-- the class of packets on directed routes
abbrev pub directed_class : ℕ
directed_class = 0x81

-- the methods: the two requests, and the answer to either

-- the method Get, a request to read an attribute
abbrev pub get : ℕ
get = 0x01

-- the method Set, a request to write an attribute
abbrev pub set : ℕ
set = 0x02

-- the method GetResp, the answer to Get and to Set
abbrev pub get_resp : ℕ
get_resp = 0x81

-- the statuses: that of a request that was done, and those of requests that were refused

-- the status of a request that was done
abbrev pub done : ℕ
done = 0x0000

-- the status of a request whose method is not supported
abbrev pub method_not_supported : ℕ
method_not_supported = 0x0008

-- the status of a request whose method is not supported for its attribute
abbrev pub method_and_attribute_not_supported : ℕ
method_and_attribute_not_supported = 0x000C

-- the status of a request with an invalid value in a field
abbrev pub invalid_field : ℕ
invalid_field = 0x001C

-- the attributes

-- the attribute NodeDescription
abbrev pub node_description : ℕ
node_description = 0x0010

-- the attribute NodeInfo
abbrev pub node_info : ℕ
node_info = 0x0011

-- the attribute SwitchInfo
abbrev pub switch_info : ℕ
switch_info = 0x0012

-- the attribute PortInfo
abbrev pub port_info : ℕ
port_info = 0x0015

-- the attribute LinearForwardingTable
abbrev pub linear_forwarding_table : ℕ
linear_forwarding_table = 0x0019

-- the attribute MulticastForwardingTable
abbrev pub multicast_forwarding_table : ℕ
multicast_forwarding_table = 0x001B

-- the attribute SMInfo
abbrev pub sm_info : ℕ
sm_info = 0x0020
