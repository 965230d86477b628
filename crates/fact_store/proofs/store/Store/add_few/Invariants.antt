-- Those so far are put in, and there is room for the others.
use Rattle.std.proofs.Common.{◌≡◌, ◌+◌, ◌≤◌, length, take}
use Rattle.fact_store.specs.Cells.{AreHeld}
use Rattle.fact_store.specs.Merge.{merge}
use Rattle.fact_store.specs.View.{view, view_at}
use Rattle.fact_store.proofs.store.Store.add_few.Given as goal

abbrev pub invariant-loop-sighting : goal.invariant-loop-sighting
invariant-loop-sighting l =
    AreHeld l.self-inside.floor l.self-inside.cells.items
    × (view_at l.self-inside.floor l.self-inside.cells.items ≡ merge l.fn.self (view (take l.sighting-index l.sightings)))
    × (length l.sightings ≤ l.sighting-index + l.self-inside.cells.room)
