-- The first fault of a schedule's text, found from its lines and the managers so far alone.
use Rattle.std.specs.Prelude.{◌≡◌, ◌⊎◌, ◌<◌, ◌+◌, ℕ, Bool, true, false, List, ◌++◌, Option, None, Some, Result, Ok, Err, length}
use Rattle.topo_file.specs.declared.node.Node.{Node}
use Rattle.schedule_file.specs.declared.schedule_fault.ScheduleFault.{ScheduleFault}
use Rattle.schedule_file.specs.declared.schedule_fault.ScheduleFault.TheVariants.{Syntax}
use Rattle.schedule_file.specs.declared.line.ScheduleLine.{ScheduleLine}
use Rattle.schedule_file.specs.declared.line.ScheduleLine.TheVariants as line
use Rattle.schedule_file.specs.Manner.{newest_of}
use Rattle.schedule_file.specs.Schedule.{◌>>=◌, Script, known_with, new_seat, schedule_of_lines}
use Rattle.schedule_file.specs.Resolve.{Managers, resolved}

-- the fault of a result; None if it is a value
abbrev pub fault_of : {T : Type 0} → Result T ScheduleFault → Option ScheduleFault
fault_of (Ok value) = None
fault_of (Err fault) = Some fault

-- the lines begin with some that have no fault and add more than 64 managers
pub record IsCrowded (nodes : List Node) (lines : List (List ℕ)) : Type 0 where
  pub front : List (List ℕ)
  pub back : List (List ℕ)
  pub parts : lines ≡ front ++ back
  pub script : Script
  pub told : schedule_of_lines nodes front ≡ Ok script
  pub many : 64 < length script.seats + length script.deciders

-- the lines have no fault, or begin with some that have no fault and add more than 64 managers (`IsCrowded`)
abbrev pub IsSoundOrCrowded : List Node → List (List ℕ) → Type 0
IsSoundOrCrowded nodes lines = (fault_of (schedule_of_lines nodes lines) ≡ None) ⊎ IsCrowded nodes lines

-- the managers so far, `known`, with the one that the given line adds, if any; or the line's fault. The line has the
-- number `number`
abbrev pub managers_with : List Node → ℕ → Managers → Option ScheduleLine → Result Managers ScheduleFault
managers_with nodes number known None = Err (Syntax number)
managers_with nodes number known (Some line.Empty) = Ok known
managers_with nodes number known (Some (line.Manager new)) =
    new_seat nodes known number new >>= λ seat. Ok (known_with known seat (newest_of seat.manner))
managers_with nodes number known (Some (line.Command named)) =
    resolved nodes known number named >>= λ command. Ok known

-- a call that should give the managers or the fault of the first result did so: it returned `true` and left these
-- managers as `new`, returned `false` and they are more than 64, or returned this fault
abbrev pub Leaves : Result Managers ScheduleFault → Result Bool ScheduleFault → Managers → Type 0
Leaves (Ok now) (Ok true) new = new ≡ now
Leaves (Ok now) (Ok false) new = 64 < length now.seats + length now.deciders
Leaves (Err fault) (Err answered) new = answered ≡ fault
Leaves _ _ new = ⊥
