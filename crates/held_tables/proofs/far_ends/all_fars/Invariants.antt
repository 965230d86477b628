use Rattle.std.proofs.Common.{◌≡◌, map}
use Rattle.std.specs.List.{range_with_len}
use Rattle.fact_store.specs.View.{cells_of}
use Rattle.held_tables.specs.Switches.{far_of}
use Rattle.held_tables.proofs.far_ends.all_fars.Given as goal

-- the ports so far
abbrev pub invariant-loop-port : goal.invariant-loop-port
invariant-loop-port l = l.fars.items ≡ map (far_of (cells_of l.subnet) l.node) (range_with_len 0 l.port)
