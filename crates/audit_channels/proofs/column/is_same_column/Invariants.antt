-- They agree so far.
use Rattle.std.proofs.Common.{◌≡◌, ◌<◌, ℕ}
use Rattle.std.specs.Prelude.{None, slice_index_or}
use Rattle.audit_channels.proofs.column.is_same_column.Given as goal

abbrev pub invariant-loop-vertex : goal.invariant-loop-vertex
invariant-loop-vertex l = (k : ℕ) → k < l.vertex → slice_index_or l.column k None ≡ slice_index_or l.other k None
