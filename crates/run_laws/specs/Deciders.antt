-- What becomes of the managers of a world that decide by themselves while a schedule runs.
use Rattle.std.specs.Prelude.{◌≡◌, ℕ, List, [], ◌∷◌, slice_get, Some}
use Rattle.topo_file.specs.Topology.{Layout}
use Rattle.schedule_file.specs.Schedule.{Script}
use Rattle.schedule_file.specs.declared.schedule.Seat.{Seat}
use Rattle.lft_blocks.specs.Planning.{Planning}
use Rattle.schedule_run.specs.Acting.{Acting}
use Rattle.schedule_run.specs.Commands.{new_decider}
use Rattle.schedule_run.specs.Working.{Told, after_told, given_away}
use Rattle.schedule_run.specs.World.{DeciderValue}
use Rattle.run_laws.specs.Accounts.{world_after}

-- a manager after it was told things, each at its time, one after the other. Each time it gave out its notes and packets
abbrev pub after_all_told : List (ℕ × Told) → Acting → Acting
after_all_told [] a = a
after_all_told (told ∷ later) a = after_all_told later (given_away (after_told told.0 told.1 a))

-- the decider `later` has the name and the seat of `d`, and its manager is what being told things leaves of that of `d`
pub record IsToldOnly (d later : DeciderValue) : Type 0 where
  pub name : later.name ≡ d.name
  pub at : later.at ≡ d.at
  pub told : List (ℕ × Told)
  pub are : after_all_told told d.acting ≡ later.acting

-- whatever runs: each manager that decides by itself is, in the end, what being told things, each at its time, leaves of
-- a new one
abbrev pub DecidersAreTold : Type 0
DecidersAreTold = (planning : Planning) (topology : Layout) (script : Script) (index : ℕ) (seat : Seat) (d : DeciderValue)
    → slice_get script.deciders index ≡ Some seat
    → slice_get (world_after planning topology script).deciders index ≡ Some d
    → IsToldOnly (new_decider planning topology.nodes seat) d
