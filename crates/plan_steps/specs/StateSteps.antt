-- The steps that set the states of ports on wires, so that these ports carry data. InfiniBand Architecture
-- Specification, Volume 1: subnet management, PortInfo (PortState); link layer, link states.
use Rattle.std.specs.Prelude.{◌≡◌, ◌↔◌, ℕ, Bool, true, false, List, Contains, Option, Some, None, IsSome, is_some, if◌then◌else◌}
use Rattle.std.specs.Option.{option_map_or}
use Rattle.std.specs.List.{filter_map, AllPairs}
use Rattle.smp_bytes.specs.Header.{port_info}
use Rattle.attr_codec.specs.declared.port_state.PortState.{PortState}
use Rattle.attr_codec.specs.declared.port_state.PortState.TheVariants.{Initialize, Armed, Active}
use Rattle.fact_join.specs.declared.cell.Cell.{Cell}
use Rattle.reply_facts.specs.declared.key.Key.{Key}
use Rattle.reply_facts.specs.declared.key.Key.TheVariants.{Link}
use Rattle.reply_facts.specs.declared.value.Value.{Value}
use Rattle.fact_store.specs.View.{Facts, cells_of}
use Rattle.subnet_view.specs.Reading.{Cells, is_usable}
use Rattle.subnet_view.specs.Wires.{across}
use Rattle.lid_assign.specs.Lids.{Given, range_of}
use Rattle.sweep.specs.Order.{is_before}
use Rattle.sweep.specs.Sweep.{Sweep, seen_state}
use Rattle.plan_steps.specs.declared.step.Step.{Step}
use Rattle.plan_steps.specs.declared.carried.PortRead.{PortRead}
use Rattle.plan_steps.specs.Carried.{port_read}
use Rattle.plan_steps.specs.Step.{step_at}
use Rattle.plan_steps.specs.LidSteps.{port_data}

-- the port whose link a cell is about; None if the cell is not about a link, or if the port is not on a wire
abbrev pub wired_port : Cells → Key × Cell Value → Option (ℕ × ℕ)
wired_port cells ((Link g p), c) = if is_some (across cells g p) then Some (g, p) else None
wired_port cells (_, c) = None

-- the ports on wires, both ends of each wire, in ascending order of node GUID and port
abbrev pub wired_ports : Cells → List (ℕ × ℕ)
wired_ports cells = filter_map (wired_port cells) cells

-- whether a port that was seen in the second state is due to be set to the first state: from Initialize to Armed or
-- Active, or from Armed to Active
abbrev pub is_due : PortState → PortState → Bool
is_due Armed Initialize = true
is_due Active Initialize = true
is_due Active Armed = true
is_due state seen = false

-- the port number of the vertex that the port `at` belongs to: 0 if its node is a usable switch, else the number of
-- the port itself
abbrev pub vertex_port : Cells → ℕ × ℕ → ℕ
vertex_port cells at = if is_usable cells at.0 then 0 else at.1

-- PortInfo that sets `state` at the port `at`. For a port with a LID, it has this LID, the port's LMC and the
-- manager's LID `master`. For a port without a LID, such as the external ports of a switch, these three are 0
abbrev pub state_data : Option PortRead → Given → ℕ → PortState → ℕ × ℕ → List ℕ
state_data read given master state at =
    option_map_or (λ range. port_data read range master state) (range_of given (record { node = at.0; port = at.1 }))
    (port_data read (0, 0) 0 state)

-- the step that sets `state` at the port `at`; None if the port was not seen in a state that `is_due` for `state`, or
-- if the sweep did not reach the port's vertex
abbrev pub state_step : Cells → Sweep → Given → ℕ → PortState → ℕ × ℕ → Option Step
state_step cells sweep given master state at =
    if option_map_or (is_due state) (seen_state sweep at.0 at.1) false
    then step_at sweep at.0 (vertex_port cells at) port_info at.1
    (state_data (port_read cells sweep at.0 at.1) given master state at)
    else None

-- the steps that set `state`, one for each port on a wire that was seen in a state that `is_due` for `state` and
-- whose vertex the sweep reached, in ascending order of node GUID and port
abbrev pub state_steps : Cells → Sweep → Given → ℕ → PortState → List Step
state_steps cells sweep given master state = filter_map (state_step cells sweep given master state) (wired_ports cells)

-- the law of the ports on wires, in words: -------------------------------------------------

-- `ports` has exactly the ports on wires as members
abbrev pub HasWiredPorts : Cells → List (ℕ × ℕ) → Type 0
HasWiredPorts cells ports = (g p : ℕ) → Contains ports (g, p) ↔ IsSome (across cells g p)

-- `ports` has exactly the ports on wires as members, each once, in ascending order of node GUID and port
abbrev pub AreWiredPorts : Cells → List (ℕ × ℕ) → Type 0
AreWiredPorts cells ports = HasWiredPorts cells ports × AllPairs (λ a b. is_before a b ≡ true) ports

-- `wired_ports` has exactly the ports on wires as members, each once, in ascending order of node GUID and port
abbrev pub WiredPortsLaw : Type 0
WiredPortsLaw = (facts : Facts) → AreWiredPorts (cells_of facts) (wired_ports (cells_of facts))
