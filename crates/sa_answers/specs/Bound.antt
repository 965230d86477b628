-- How great a packet may be, and how fast it goes, through a port. InfiniBand Architecture Specification, Volume 1:
-- subnet management, PortInfo (MTUCap, NeighborMTU, LinkWidthActive, LinkSpeedActive, LinkSpeedExtActive).
use Rattle.std.specs.Prelude.{ℕ, ◌*◌, ◌==◌, min, List, Option, Some, None, option_and_then, if◌then◌else◌}
use Rattle.smp_bytes.specs.Field.{Bits, bits_in}
use Rattle.attr_codec.specs.PortInfo.{mtu_cap}
use Rattle.plan_steps.specs.Carried.{mtu_of, or_default}
use Rattle.subnet_view.specs.Wires.{across}
use Rattle.sweep.specs.Images.{image_at}
use Rattle.sa_answers.specs.Told.{Told}
use Rattle.sa_answers.specs.declared.bound.Bound.{Bound}

-- LinkWidthActive, a component of PortInfo
abbrev pub link_width_active : Bits
link_width_active = record { at = 31; shift = 0; width = 8 }

-- LinkSpeedActive, a component of PortInfo
abbrev pub link_speed_active : Bits
link_speed_active = record { at = 35; shift = 4; width = 4 }

-- LinkSpeedExtActive, a component of PortInfo
abbrev pub link_speed_ext_active : Bits
link_speed_ext_active = record { at = 62; shift = 4; width = 4 }

-- the number of the least MTU, 256 bytes
abbrev pub least_mtu : ℕ
least_mtu = 1

-- what each port lets through: 256 bytes, and 2.5 Gb/s
abbrev pub least_bound : Bound
least_bound = record { mtu = least_mtu; rate = 25 }

-- a rate above all that ports have, in tenths of Gb/s
abbrev pub no_rate : ℕ
no_rate = 65535

-- the lesser MTU and the lesser rate of both
abbrev pub lesser : Bound → Bound → Bound
lesser one other = record { mtu = min one.mtu other.mtu; rate = min one.rate other.rate }

-- the number of lanes of a width; 0 if the width is none
abbrev pub lanes : ℕ → ℕ
lanes width =
    if width == 1 then 1 else (if width == 2 then 4 else (if width == 4 then 8 else
    (if width == 8 then 12 else (if width == 16 then 2 else 0))))

-- the speed of a lane in tenths of Gb/s: that of the extended speed if there is one
abbrev pub lane_speed : ℕ → ℕ → ℕ
lane_speed extended speed =
    if extended == 1 then 140 else (if extended == 2 then 250 else (if extended == 4 then 500 else
    (if extended == 8 then 1000 else (if speed == 4 then 100 else (if speed == 2 then 50 else 25)))))

-- the rate of a number of lanes of a speed; a port that has none bounds no rate
abbrev pub rate_of_lanes : ℕ → ℕ → ℕ
rate_of_lanes count speed = if count == 0 then no_rate else count * speed

-- the rate of a port with the PortInfo `own`, in tenths of Gb/s
abbrev pub rate_through : List ℕ → ℕ
rate_through own =
    rate_of_lanes (lanes (bits_in link_width_active own))
    (lane_speed (bits_in link_speed_ext_active own) (bits_in link_speed_active own))

-- the number of the MTU of a port: MTUCap for port 0, and otherwise NeighborMTU as it is written (`mtu_of`)
abbrev pub mtu_through : ℕ → List ℕ → Option (List ℕ) → ℕ
mtu_through port own far =
    if port == 0 then or_default least_mtu (bits_in mtu_cap own) else or_default least_mtu (mtu_of own far)

-- what a port lets through, by its own PortInfo and that of the far end of its wire
abbrev pub bound_by : ℕ → List ℕ → Option (List ℕ) → Bound
bound_by port own far = record { mtu = mtu_through port own far; rate = rate_through own }

-- what a port lets through, by its own PortInfo, if it is kept
abbrev pub bound_with : ℕ → Option (List ℕ) → Option (List ℕ) → Bound
bound_with port None far = least_bound
bound_with port (Some own) far = bound_by port own far

-- the PortInfo that is kept of the far end of the wire in a port; None if there is no wire, or it is not kept
abbrev pub far_image : Told → ℕ × ℕ → Option (List ℕ)
far_image told at = option_and_then (λ far. image_at told.images far.0 far.1) (across told.cells at.0 at.1)

-- what a port, given by its node and its number, lets through
abbrev pub bound_at : Told → ℕ × ℕ → Bound
bound_at told at = bound_with at.1 (image_at told.images at.0 at.1) (far_image told at)
