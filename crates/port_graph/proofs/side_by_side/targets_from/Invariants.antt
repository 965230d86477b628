use Rattle.std.proofs.Common.{◌≡◌, ◌<◌, ℕ, length}
use Rattle.std.specs.Prelude.{slice_index}
use Rattle.port_graph.specs.ByteLanes.{target_in}
use Rattle.port_graph.proofs.side_by_side.targets_from.Given as goal

-- the targets of the lanes so far
abbrev pub invariant-loop-lane : goal.invariant-loop-lane
invariant-loop-lane l = record { all : length l.targets ≡ 16; done : (k : ℕ) → k < l.lane → slice_index l.targets k ≡ target_in l.vertices l.first k }
