-- Rounds over a list of marks, one for each vertex.
use Rattle.std.specs.Prelude.{◌≡◌, ◌<◌, ℕ, List, length, Option, None, slice_index_or}
use Rattle.port_graph.specs.declared.edge.Edge.{Edge}
use Rattle.spread_labels.specs.declared.label.Mark.{Mark}
use Rattle.spread_labels.specs.Labels.{marks_after}

-- `marks` has the mark of each vertex towards `target` after `round` rounds
pub record AreMarksAfter (edges : List (List Edge)) (target round : ℕ) (marks : List (Option Mark)) : Type 0 where
  pub all : length marks ≡ length edges
  pub each : (s : ℕ) → s < length edges → slice_index_or marks s None ≡ marks_after edges target round s
