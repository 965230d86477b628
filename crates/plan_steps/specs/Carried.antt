-- What a Set of PortInfo or SwitchInfo carries besides what its step sets: the image that was read, with some changes.
-- InfiniBand Architecture Specification, Volume 1: subnet management, PortInfo and SwitchInfo.
use Rattle.std.specs.Prelude.{ℕ, min, List, [], ◌∷◌, Option, Some, None, option_and_then, option_map, ◌==◌}
use Rattle.std.specs.Prelude.{if◌then◌else◌, replicate}
use Rattle.smp_bytes.specs.Field.{Bits, Field, bits_in, number_in, with_bits, with_number}
use Rattle.attr_codec.specs.PortInfo.{gid_prefix, link_down_default_state, port_physical_state, link_width_enabled}
use Rattle.attr_codec.specs.PortInfo.{neighbor_mtu, mtu_cap, link_speed_enabled, link_speed_ext_enabled, hoq_life}
use Rattle.attr_codec.specs.PortInfo.{client_reregister, subnet_timeout}
use Rattle.attr_codec.specs.SwitchInfo.{life_time_value, port_state_change}
use Rattle.subnet_view.specs.Reading.{Cells}
use Rattle.subnet_view.specs.Wires.{across}
use Rattle.sweep.specs.Sweep.{Sweep, port_image}
use Rattle.plan_steps.specs.declared.carried.PortRead.{PortRead}

-- what is changed of what was read ---------------------------------------------------------------

-- some bits, and the number that a Set carries in these bits instead of the one that was read
pub record Change : Type 0 where
  pub bits : Bits
  pub number : ℕ

-- `bytes` with each change made, one after the other
abbrev pub changed : List Change → List ℕ → List ℕ
changed [] bytes = bytes
changed (c ∷ changes) bytes = changed changes (with_bits c.bits c.number bytes)

-- `number`; if it is 0, `otherwise`
abbrev pub or_default : ℕ → ℕ → ℕ
or_default otherwise number = if number == 0 then otherwise else number

-- the prefix of link-local GIDs, fe80::/64
abbrev pub link_local_prefix : ℕ
link_local_prefix = 0xFE80000000000000

-- the number that leaves a component unchanged
abbrev pub no_change : ℕ
no_change = 0

-- the n for which 4.096 us * 2^n is about 268 ms
abbrev pub quarter_second : ℕ
quarter_second = 16

-- the n for which 4.096 us * 2^n is about 1 s
abbrev pub one_second : ℕ
one_second = 18

-- the NeighborMTU of a port: the lesser of the MTUCaps in `own` and in the far image, if there is a far image and
-- neither MTUCap is 0; else the NeighborMTU in `own`
abbrev pub mtu_of : List ℕ → Option (List ℕ) → ℕ
mtu_of own None = bits_in neighbor_mtu own
mtu_of own (Some far) = or_default (bits_in neighbor_mtu own) (min (bits_in mtu_cap own) (bits_in mtu_cap far))

-- the changes that a Set makes in the PortInfo that was read, besides those of the GID prefix and of the fields that
-- its step sets
abbrev pub port_changes : PortRead → List Change
port_changes read =
    record { bits = link_width_enabled; number = no_change }
    ∷ record { bits = link_speed_enabled; number = no_change }
    ∷ record { bits = link_speed_ext_enabled; number = no_change }
    ∷ record { bits = port_physical_state; number = no_change }
    ∷ record { bits = link_down_default_state; number = no_change }
    ∷ record { bits = neighbor_mtu; number = mtu_of read.own read.far }
    ∷ record { bits = hoq_life; number = or_default quarter_second (bits_in hoq_life read.own) }
    ∷ record { bits = subnet_timeout; number = or_default one_second (bits_in subnet_timeout read.own) }
    ∷ record { bits = client_reregister; number = 0 } ∷ []

-- the changes that a Set makes in the SwitchInfo that was read, besides that of the field that its step sets. Writing
-- 1 to PortStateChange clears it
abbrev pub switch_changes : List ℕ → List Change
switch_changes read =
    record { bits = life_time_value; number = or_default one_second (bits_in life_time_value read) }
    ∷ record { bits = port_state_change; number = 1 } ∷ []

-- what was read ---------------------------------------------------------------------------------------

-- the image of PortInfo of the far end of the wire at port `port` of node `guid`; None if there is no wire, or the
-- image is not kept
abbrev pub far_image : Cells → Sweep → ℕ → ℕ → Option (List ℕ)
far_image cells sweep guid port = option_and_then (λ far. port_image sweep far.0 far.1) (across cells guid port)

-- the images of PortInfo of port `port` of node `guid` and of the far end of its wire; None if the image of the port
-- itself is not kept
abbrev pub port_read : Cells → Sweep → ℕ → ℕ → Option PortRead
port_read cells sweep guid port =
    option_map (λ own. record { own = own; far = far_image cells sweep guid port }) (port_image sweep guid port)

-- what is carried ------------------------------------------------------------------------------------

-- the 64 bytes of an attribute as one field
abbrev pub all_bytes : Field
all_bytes = record { at = 0; len = 64 }

-- the first 64 bytes of `read`
abbrev pub copied : List ℕ → List ℕ
copied read = with_number all_bytes (number_in all_bytes read) (replicate 64 0)

-- PortInfo as a Set carries it, before the step sets its own fields: the image that was read, with `port_changes`
-- applied, and with the link-local prefix if its GID prefix is 0; zeros if there is no image
abbrev pub carried_port : Option PortRead → List ℕ
carried_port None = replicate 64 0
carried_port (Some read) =
    changed (port_changes read)
    (with_number gid_prefix (or_default link_local_prefix (number_in gid_prefix read.own)) (copied read.own))

-- SwitchInfo as a Set carries it, before the step sets its own field: the image that was read, with `switch_changes`
-- applied; zeros if there is no image
abbrev pub carried_switch : Option (List ℕ) → List ℕ
carried_switch None = replicate 64 0
carried_switch (Some read) = changed (switch_changes read) (copied read)
