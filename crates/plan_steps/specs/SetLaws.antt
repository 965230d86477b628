-- Laws of Sets of PortInfo and SwitchInfo: a Set says what the plan asks for, and changes nothing else except what is
-- listed.
use Rattle.std.specs.Prelude.{◌≡◌, ℕ, ◌<◌, ◌^◌, Bool, true, ◌&&◌, List, [], ◌∷◌, Contains, Option, Some, length, map}
use Rattle.smp_bytes.specs.Field.{Bits, Field, are_apart, are_bits_apart, bits_in, number_in, with_bits}
use Rattle.attr_codec.specs.PortInfo.{base_lid, gid_prefix, lmc, master_sm_lid, number_of_state, port_state, range_in}
use Rattle.attr_codec.specs.Spelling.{Are64Bytes}
use Rattle.attr_codec.specs.SwitchInfo.{linear_fdb_top}
use Rattle.attr_codec.specs.declared.port_state.PortState.{PortState}
use Rattle.subnet_view.specs.Reading.{Cells}
use Rattle.subnet_view.specs.declared.end_port.EndPort.{EndPort}
use Rattle.lid_assign.specs.Lids.{Given, range_of}
use Rattle.sweep.specs.Sweep.{Sweep}
use Rattle.plan_steps.specs.declared.step.Step.{Step}
use Rattle.plan_steps.specs.declared.carried.PortRead.{PortRead}
use Rattle.plan_steps.specs.Carried.{Change, link_local_prefix, or_default, port_changes, switch_changes}
use Rattle.plan_steps.specs.LidSteps.{lid_step, port_data}
use Rattle.plan_steps.specs.StateSteps.{state_step}
use Rattle.plan_steps.specs.BlockSteps.{top_data}

-- what the plan asks for ---------------------------------------------------------------------------

-- `payload` is 64 bytes of PortInfo with the LID and the LMC of `range`, the manager's LID `master` and the state
-- `state`
pub record SaysPort (range : ℕ × ℕ) (master : ℕ) (state : PortState) (payload : List ℕ) : Type 0 where
  pub whole : length payload ≡ 64
  pub range_is : range_in payload ≡ range
  pub master_is : number_in master_sm_lid payload ≡ master
  pub state_is : bits_in port_state payload ≡ number_of_state state

-- `payload` is 64 bytes of SwitchInfo with the LinearFDBTop `top`
pub record SaysTop (top : ℕ) (payload : List ℕ) : Type 0 where
  pub whole : length payload ≡ 64
  pub top_is : number_in linear_fdb_top payload ≡ top

-- if the LIDs, the LMC and the top fit in their fields, a Set says what the plan asks for, whatever was read
pub record SetsSayThePlan : Type 0 where
  pub port : (read : Option PortRead) (range : ℕ × ℕ) (master : ℕ) (state : PortState)
      → range.0 < 2 ^ 16 → range.1 < 8 → master < 2 ^ 16
      → SaysPort range master state (port_data read range master state)
  pub switch : (read : Option (List ℕ)) (top : ℕ) → top < 2 ^ 16 → SaysTop top (top_data read top)

-- all else -------------------------------------------------------------------------------------------

-- whether the bits `b` have no bit in common with any of the bits in the list
abbrev pub are_apart_from : List Bits → Bits → Bool
are_apart_from [] b = true
are_apart_from (other ∷ others) b = are_bits_apart b other && are_apart_from others b

-- whether the byte of the bits `b` is in none of the fields
abbrev pub are_outside : List Field → Bits → Bool
are_outside [] b = true
are_outside (f ∷ fields) b = are_apart (record { at = b.at; len = 1 }) f && are_outside fields b

-- the bits that the changes are made in
abbrev pub bits_of : List Change → List Bits
bits_of changes = map (λ c. c.bits) changes

-- the fields of PortInfo in which a Set may differ from what was read, apart from `port_bits`
abbrev pub port_fields : List Field
port_fields = base_lid ∷ master_sm_lid ∷ gid_prefix ∷ []

-- the bits of PortInfo in which a Set may differ from what was read, apart from `port_fields`
abbrev pub port_bits : PortRead → List Bits
port_bits read = port_state ∷ lmc ∷ bits_of (port_changes read)

-- `payload` is the image that was read, except in `port_fields` and `port_bits`. It has the numbers of
-- `port_changes`. Its GID prefix is the one that was read or, if that is 0, the link-local one
pub record CarriesPort (read : PortRead) (payload : List ℕ) : Type 0 where
  pub others : (b : Bits) → are_outside port_fields b ≡ true → are_apart_from (port_bits read) b ≡ true
      → bits_in b payload ≡ bits_in b read.own
  pub changes : (c : Change) → Contains (port_changes read) c → bits_in c.bits payload ≡ c.number
  pub prefix : number_in gid_prefix payload ≡ or_default link_local_prefix (number_in gid_prefix read.own)

-- `payload` is what was read, except in LinearFDBTop and in the bits of `switch_changes`; in these bits it has the
-- numbers of `switch_changes`
pub record CarriesSwitch (read payload : List ℕ) : Type 0 where
  pub others : (b : Bits) → are_outside (linear_fdb_top ∷ []) b ≡ true
      → are_apart_from (bits_of (switch_changes read)) b ≡ true
      → bits_in b payload ≡ bits_in b read
  pub changes : (c : Change) → Contains (switch_changes read) c → bits_in c.bits payload ≡ c.number

-- if the image that was read has 64 bytes and the LMC is below 8, a Set leaves the image as it is, except for what
-- the plan asks for and for the changes (`CarriesPort`, `CarriesSwitch`)
pub record SetsChangeNothingElse : Type 0 where
  pub port : (read : PortRead) (range : ℕ × ℕ) (master : ℕ) (state : PortState) → Are64Bytes read.own → range.1 < 8
      → CarriesPort read (port_data (Some read) range master state)
  pub switch : (read : List ℕ) (top : ℕ) → Are64Bytes read → CarriesSwitch read (top_data (Some read) top)

-- two Sets of one port -------------------------------------------------------------------------------

-- if an end port has a LID, the Set of a state there is the Set of this LID with the state. So whichever of the two
-- Sets comes last, the port keeps the LID and the LMC
abbrev pub LidAndStateAgree : Type 0
LidAndStateAgree =
    (cells : Cells) (sweep : Sweep) (given : Given) (master : ℕ) (state : PortState) (e : EndPort) (range : ℕ × ℕ)
    (of_lid of_state : Step) → range_of given e ≡ Some range → lid_step cells sweep master range e ≡ Some of_lid
    → state_step cells sweep given master state (e.node, e.port) ≡ Some of_state
    → of_state.payload ≡ with_bits port_state (number_of_state state) of_lid.payload
