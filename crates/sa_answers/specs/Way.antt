-- The way of a packet by the facts and the tables of a plan: the wires that it takes, one after the other, until the
-- owner of its LID takes it. InfiniBand Architecture Specification, Volume 1: switches, unicast forwarding by the linear
-- forwarding table.
use Rattle.std.specs.Prelude.{◌≡◌, ℕ, zero, suc, ◌+◌, ◌/◌, ◌%◌, ◌==◌, ◌&&◌, Bool, true, false, List, [], ◌∷◌, length, Option, Some, None, slice_index_or, if◌then◌else◌}
use Rattle.std.specs.Option.{option_map_or}
use Rattle.subnet_view.specs.declared.end_port.EndPort.{EndPort}
use Rattle.subnet_view.specs.Reading.{is_usable}
use Rattle.subnet_view.specs.Wires.{across}
use Rattle.lft_blocks.specs.Plan.{PlanValue, block_at}
use Rattle.sa_answers.specs.Bound.{bound_at, lesser}
use Rattle.sa_answers.specs.Told.{Told}
use Rattle.sa_answers.specs.declared.bound.Bound.{Bound}
use Rattle.sa_answers.specs.declared.way.WayNext.{WayNext}
use Rattle.sa_answers.specs.declared.way.WayNext.TheVariants.{Ends, Goes}
use Rattle.sa_answers.specs.declared.way.WayStep.{WayStep}
use Rattle.sa_answers.specs.declared.way.WayStep.TheVariants.{Takes, Leaves, Drops}

-- the entry of switch `g` for `lid` in a plan; 255 if the plan has no such entry
abbrev pub planned_entry : PlanValue → ℕ → ℕ → ℕ
planned_entry plan g lid = option_map_or (λ block. slice_index_or block (lid % 64) 255) (block_at plan g (lid / 64)) 255

-- what a switch does with a packet: it takes the packet at its port 0 if the entry is 0, and drops it if the entry is
-- 255
abbrev pub by_entry : ℕ → WayStep
by_entry entry = if entry == 0 then Takes 0 else (if entry == 255 then Drops else Leaves entry)

-- whether `at` is the port `e`
abbrev pub is_port : EndPort → ℕ × ℕ → Bool
is_port e at = at.0 == e.node && at.1 == e.port

-- what an adapter's port does with a packet for a LID of `owner`: the owner takes it, and the sender sends it out
abbrev pub by_adapter : EndPort → ℕ × ℕ → Bool → WayStep
by_adapter owner at by_wire = if is_port owner at then Takes at.1 else (if by_wire then Drops else Leaves at.1)

-- what becomes of a packet for `lid`, a LID of `owner`, at a port to which it came by a wire, or whose own it is
abbrev pub step_at : Told → ℕ → EndPort → ℕ × ℕ → Bool → WayStep
step_at told lid owner at by_wire =
    if is_usable told.cells at.0 then by_entry (planned_entry told.plan at.0 lid) else by_adapter owner at by_wire

-- a packet is taken at a port: if this is the owner of its LID, the bound is `least`
abbrev pub taken_at : EndPort → ℕ × ℕ → Bound → Option Bound
taken_at owner at least = if is_port owner at then Some least else None

-- the least of `least` and of what the two ends of a wire let through
abbrev pub over_wire : Told → Bound → ℕ × ℕ → ℕ × ℕ → Bound
over_wire told least out into = lesser (lesser least (bound_at told out)) (bound_at told into)

-- a packet left by the port `out`, in which is the given wire, if there is one
abbrev pub over : Told → Bound → ℕ × ℕ → Option (ℕ × ℕ) → WayNext
over told least out None = Ends None
over told least out (Some into) = Goes into (over_wire told least out into)

-- what follows a step at the port `at`
abbrev pub after_step : Told → EndPort → ℕ × ℕ → Bound → WayStep → WayNext
after_step told owner at least (Takes port) = Ends (taken_at owner (at.0, port) least)
after_step told owner at least Drops = Ends None
after_step told owner at least (Leaves port) = over told least (at.0, port) (across told.cells at.0 port)

-- the outcome, or what `onward` makes of where the packet came to
abbrev pub gone_on : (ℕ × ℕ → Bound → Option Bound) → WayNext → Option Bound
gone_on onward (Ends outcome) = outcome
gone_on onward (Goes into least) = onward into least

-- a packet at a port is followed for at most `count` steps: the least of `least` and of what the ports that it passes
-- let through. None if the packet does not come to the owner of its LID
abbrev pub followed : Told → ℕ → EndPort → ℕ → ℕ × ℕ → Bool → Bound → Option Bound
followed told lid owner zero at by_wire least = None
followed told lid owner (suc count) at by_wire least =
    gone_on (λ into less. followed told lid owner count into true less)
    (after_step told owner at least (step_at told lid owner at by_wire))

-- as many steps as a packet that passes no switch twice may need: one at each switch, and one at each end
abbrev pub most_steps : Told → ℕ
most_steps told = length told.plan.tables + 2

-- what the ports let through that a packet from `source` for `lid`, a LID of `owner`, passes, and the two end ports.
-- None if the packet does not come to the owner
abbrev pub bound_of_way : Told → ℕ → EndPort → EndPort → Option Bound
bound_of_way told lid owner source =
    followed told lid owner (most_steps told) (source.node, source.port) false
    (lesser (bound_at told (source.node, source.port)) (bound_at told (owner.node, owner.port)))

-- the same as a relation -----------------------------------------------------------------------------

-- a wire that a packet takes by the facts: from the port `out` to the port `into`
pub record Wire : Type 0 where
  pub out : ℕ × ℕ
  pub into : ℕ × ℕ

-- the packet for `lid`, a LID of `owner`, that is at a port goes along `wires`, and the owner takes it
abbrev pub GoesAlong : Told → ℕ → EndPort → ℕ × ℕ → Bool → List Wire → Type 0
GoesAlong told lid owner at by_wire [] =
    (step_at told lid owner at by_wire ≡ Takes owner.port) × (at.0 ≡ owner.node)
GoesAlong told lid owner at by_wire (w ∷ wires) =
    (step_at told lid owner at by_wire ≡ Leaves w.out.1) × (w.out.0 ≡ at.0)
    × (across told.cells w.out.0 w.out.1 ≡ Some w.into) × GoesAlong told lid owner w.into true wires

-- the ports at the ends of wires
abbrev pub ports_of : List Wire → List (ℕ × ℕ)
ports_of [] = []
ports_of (w ∷ wires) = w.out ∷ w.into ∷ ports_of wires

-- the least of a bound and of what some ports let through
abbrev pub least_of : Told → Bound → List (ℕ × ℕ) → Bound
least_of told least [] = least
least_of told least (p ∷ ports) = least_of told (lesser least (bound_at told p)) ports
