-- It is none of those so far.
use Rattle.std.proofs.Common.{◌≡◌, ◌<◌, ℕ}
use Rattle.std.specs.Prelude.{slice_index_or}
use Rattle.spread_labels.proofs.vertex_positions.position_of.Given as goal

abbrev pub invariant-loop-index : goal.invariant-loop-index
invariant-loop-index l = (i : ℕ) → i < l.index → slice_index_or l.vertices i 0 ≡ l.vertex → ⊥
