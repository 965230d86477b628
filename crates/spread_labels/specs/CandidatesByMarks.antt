-- The candidates of a vertex, found from the marks of vertices alone, and the candidate that a number chooses.
use Rattle.std.specs.Prelude.{◌≡◌, ◌<◌, ℕ, suc, ◌&&◌, ◌||◌, ◌==◌, ◌%◌, Bool, false}
use Rattle.std.specs.Prelude.{nat_lt, List, [], ◌∷◌, filter, length, Option, None, Some, slice_get, slice_index_or}
use Rattle.port_graph.specs.declared.edge.Edge.{Edge}
use Rattle.port_graph.specs.Heads.{edges_at, LeadToVertices}
use Rattle.spread_labels.specs.declared.label.Mark.{Mark}
use Rattle.spread_labels.specs.Labels.{candidates, is_down}
use Rattle.spread_labels.specs.RoundMarks.{AreMarksAfter}

-- whether edge `e` of vertex `s` leads to a vertex whose cost is one less, and either leads up or leads to a vertex
-- labeled Down. The first mark is that of `s`, and the second is that of the vertex that `e` leads to. False if either
-- mark is None
abbrev pub is_nearer_by : ℕ → Edge → Option Mark → Option Mark → Bool
is_nearer_by s e (Some m) (Some to) = (suc to.cost == m.cost) && (nat_lt e.to s || is_down to.label)
is_nearer_by s e _ _ = false

-- whether, according to `marks`, edge `e` of vertex `s` leads to a vertex whose cost is one less, and either leads up
-- or leads to a vertex labeled Down; false if either of the two vertices has no mark
abbrev pub is_nearer : ℕ → List (Option Mark) → Edge → Bool
is_nearer s marks e = is_nearer_by s e (slice_index_or marks s None) (slice_index_or marks e.to None)

-- the edge at index `choice` modulo the number of edges; None if there are no edges
abbrev pub chosen : List Edge → ℕ → Option Edge
chosen [] choice = None
chosen (e ∷ es) choice = slice_get (e ∷ es) (choice % length (e ∷ es))

-- if `marks` has every vertex's mark towards vertex `t`, the candidates of a vertex are exactly its edges that pass
-- `is_nearer`
abbrev pub CandidatesAreNearer : Type 0
CandidatesAreNearer =
    (edges : List (List Edge)) (t : ℕ) (marks : List (Option Mark)) → LeadToVertices edges → t < length edges
    → AreMarksAfter edges t (length edges) marks → (s : ℕ) → s < length edges
    → filter (is_nearer s marks) (edges_at edges s) ≡ candidates edges t s
