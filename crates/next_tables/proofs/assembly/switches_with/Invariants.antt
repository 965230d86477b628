-- The switches so far.
use Rattle.std.proofs.Common.{◌≡◌, map, take}
use Rattle.fact_store.specs.View.{cells_of}
use Rattle.subnet_view.specs.Reading.{switches}
use Rattle.next_tables.specs.NextTables.{next_switch}
use Rattle.next_tables.proofs.assembly.switches_with.Given as goal

abbrev pub invariant-loop-index : goal.invariant-loop-index
invariant-loop-index l = l.made.items ≡ map (next_switch l.held.held l.plan.held) (take l.index (switches (cells_of l.held.facts)))
