-- Edges of vertices that are kept end to end in one list. A span gives the part of each vertex.
use Rattle.std.specs.Prelude.{◌≤◌, List, map, length, All, slice_range}
use Rattle.port_graph.specs.declared.edge.Edge.{Edge}
use Rattle.port_graph.specs.declared.adjacency.Span.{Span}

-- the edges of `edges` that `span` covers
abbrev pub part : List Edge → Span → List Edge
part edges span = slice_range edges span.start span.end

-- for each span, the edges of `edges` that it covers
abbrev pub cut : List Edge → List Span → List (List Edge)
cut edges spans = map (part edges) spans

-- each span lies within `edges`, and does not end before it starts
abbrev pub AreWithin : List Edge → List Span → Type 0
AreWithin edges spans = All (λ span. (span.start ≤ span.end) × (span.end ≤ length edges)) spans
