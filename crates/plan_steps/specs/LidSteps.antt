-- The steps that set LIDs at end ports, and with them the LID of the manager. InfiniBand Architecture Specification,
-- Volume 1: subnet management, PortInfo; addressing, unicast LIDs.
use Rattle.std.specs.Prelude.{◌≡◌, ◌≤◌, ◌⊎◌, ℕ, Bool, false, List, Contains, Option, Some, ◌==◌, ◌&&◌, option_and_then}
use Rattle.std.specs.Option.{option_map_or}
use Rattle.std.specs.List.{filter_map, find}
use Rattle.smp_bytes.specs.Field.{with_bits, with_number}
use Rattle.smp_bytes.specs.Header.{port_info}
use Rattle.attr_codec.specs.PortInfo.{base_lid, master_sm_lid, lmc, port_state, number_of_state}
use Rattle.attr_codec.specs.declared.port_state.PortState.{PortState}
use Rattle.attr_codec.specs.declared.port_state.PortState.TheVariants.{NoChange}
use Rattle.fact_store.specs.View.{Facts, cells_of}
use Rattle.subnet_view.specs.declared.end_port.EndPort.{EndPort}
use Rattle.reply_facts.specs.Known.{port_guid_of}
use Rattle.subnet_view.specs.Reading.{Cells}
use Rattle.lid_assign.specs.Lids.{Given, owner_of, lmc_of, rising_lids, lids, IsNoRoom}
use Rattle.sweep.specs.Sweep.{Sweep}
use Rattle.plan_steps.specs.declared.step.Step.{Step}
use Rattle.plan_steps.specs.declared.carried.PortRead.{PortRead}
use Rattle.plan_steps.specs.Carried.{carried_port, port_read}
use Rattle.plan_steps.specs.Step.{step_at}

-- whether the end port `e` has the number `port`, and is known to have the GUID `port_guid`
abbrev pub is_own_port : Cells → ℕ → ℕ → EndPort → Bool
is_own_port cells port_guid port e =
    e.port == port && option_map_or (λ guid. guid == port_guid) (port_guid_of cells e.node e.port) false

-- the LID of the manager's end port, which is the first in `given` with the GUID `port_guid` and the number `port`; 0
-- if there is none
abbrev pub own_lid : Cells → List (EndPort × ℕ) → ℕ → ℕ → ℕ
own_lid cells given port_guid port = option_map_or (λ x. x.1) (find (λ x. is_own_port cells port_guid port x.0) given) 0

-- PortInfo with the LID and the LMC of `range`, the manager's LID `master` and a state, and with all else as a Set
-- carries it (`carried_port`)
abbrev pub port_data : Option PortRead → ℕ × ℕ → ℕ → PortState → List ℕ
port_data read range master state =
    with_bits port_state (number_of_state state)
    (with_bits lmc range.1 (with_number master_sm_lid master (with_number base_lid range.0 (carried_port read))))

-- the step that sets the LID and the LMC of the end port `e`, and the manager's LID `master`; None if the sweep did not
-- reach `e`
abbrev pub lid_step : Cells → Sweep → ℕ → ℕ × ℕ → EndPort → Option Step
lid_step cells sweep master range e =
    step_at sweep e.node e.port port_info e.port (port_data (port_read cells sweep e.node e.port) range master NoChange)

-- the step that sets the LID `lid` at the end port that owns it; None if no end port owns `lid`, or if the sweep did
-- not reach this end port
abbrev pub owner_step : Cells → Sweep → ℕ → Given → ℕ → Option Step
owner_step cells sweep master given lid =
    option_and_then (λ e. lid_step cells sweep master (lid, lmc_of given e) e) (owner_of given lid)

-- the steps that set the LID and the LMC of each end port that the sweep reached, in ascending order of LID
abbrev pub lid_steps : Cells → Sweep → ℕ → Given → List Step
lid_steps cells sweep master given = filter_map (owner_step cells sweep master given) (rising_lids given)

-- the law of the manager's LID, in words: ----------------------------------------------------

-- the end port `e` can be the manager's: it has the number `port`, and is known to have the GUID `port_guid`
abbrev pub IsOwnPort : Cells → ℕ → ℕ → EndPort → Type 0
IsOwnPort cells port_guid port e = (e.port ≡ port) × (port_guid_of cells e.node e.port ≡ Some port_guid)

-- `lid` is the LID of an end port that can be the manager's; if there are several, it is that of the one with the
-- least node GUID
pub record IsOwnLid (cells : Cells) (given : List (EndPort × ℕ)) (port_guid port lid : ℕ) : Type 0 where
  pub end : EndPort
  pub held : Contains given (end, lid)
  pub own : IsOwnPort cells port_guid port end
  pub first : (e : EndPort) (n : ℕ) → Contains given (e, n) → IsOwnPort cells port_guid port e → end.node ≤ e.node

-- no end port with a LID can be the manager's
abbrev pub HasNoOwnPort : Cells → List (EndPort × ℕ) → ℕ → ℕ → Type 0
HasNoOwnPort cells given port_guid port =
    (e : EndPort) (n : ℕ) → Contains given (e, n) → IsOwnPort cells port_guid port e → ⊥

-- `lid` is the LID of the manager's end port, or 0 if no end port with a LID can be the manager's
abbrev pub IsOwnLidOr0 : Cells → List (EndPort × ℕ) → ℕ → ℕ → ℕ → Type 0
IsOwnLidOr0 cells given port_guid port lid =
    IsOwnLid cells given port_guid port lid ⊎ (HasNoOwnPort cells given port_guid port × (lid ≡ 0))

-- if every end port finds a LID, `own_lid` gives the LID of the manager's end port, or 0 if no end port with a LID
-- can be the manager's
abbrev pub OwnLidLaw : Type 0
OwnLidLaw =
    (lmc : ℕ) (facts : Facts) → ¬ (IsNoRoom lmc (cells_of facts)) → (port_guid port : ℕ)
    → IsOwnLidOr0 (cells_of facts) (lids lmc (cells_of facts)).ports port_guid port
    (own_lid (cells_of facts) (lids lmc (cells_of facts)).ports port_guid port)
