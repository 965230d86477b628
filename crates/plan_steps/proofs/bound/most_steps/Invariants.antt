use Rattle.std.proofs.Common.{◌≡◌, ◌≤◌, ◌+◌, ◌*◌, ◌-◌, ◌^◌, ◌++◌, length}
use Rattle.std.specs.Prelude.{min}
use Rattle.std.specs.List.{filter_map}
use Rattle.fact_store.specs.View.{cells_of}
use Rattle.fact_store.specs.Iter.{cells_left}
use Rattle.subnet_view.specs.Reading.{usable_guid}
use Rattle.plan_steps.specs.Bound.{most_steps}
use Rattle.plan_steps.proofs.bound.most_steps.Given as goal

-- with what the cells that are left add there are as many as 64 bits count of all; and the cells given and left are the store's
abbrev pub invariant-loop-sighting : goal.invariant-loop-sighting
invariant-loop-sighting l =
    (min (l.most + 768 * length (filter_map (usable_guid (cells_of l.store)) (cells_left l.sighting-iterator))) (2 ^ 64 - 1)
    ≡ min (most_steps (cells_of l.store)) (2 ^ 64 - 1))
    × (l.yielded ++ cells_left l.sighting-iterator ≡ cells_of l.store)
    × (l.most ≤ 2 ^ 64 - 1)
