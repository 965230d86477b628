-- Labels towards a target, which are given in rounds, and candidates, which are the edges that gave a label. Vertices
-- are numbered by their positions in an order. An edge leads up if it leads to a lesser number, and down if it leads to
-- a greater number.
use Rattle.std.specs.Prelude.{ℕ, zero, suc, Bool, true, false, ◌||◌, ◌==◌, nat_lt}
use Rattle.std.specs.Prelude.{List, [], ◌∷◌, filter, length, Option, None, Some, if◌then◌else◌}
use Rattle.std.specs.List.{list_any}
use Rattle.port_graph.specs.declared.edge.Edge.{Edge}
use Rattle.port_graph.specs.Heads.{edges_at}
use Rattle.spread_labels.specs.declared.label.Label.{Label}
use Rattle.spread_labels.specs.declared.label.Label.TheVariants.{Up, Down}
use Rattle.spread_labels.specs.declared.label.Mark.{Mark}

-- whether a label is Down
abbrev pub is_down : Label → Bool
is_down Up = false
is_down Down = true

-- the mark of each vertex, which is its label and cost; None for a vertex without a mark
abbrev pub Marks : Type 0
Marks = ℕ → Option Mark

-- whether edge `e` gives vertex `s` a label, given the mark of the vertex that `e` leads to. It does if `e` leads up,
-- or if that vertex is labeled Down; false if that vertex has no mark
abbrev pub gives_from : ℕ → Edge → Option Mark → Bool
gives_from s e None = false
gives_from s e (Some m) = nat_lt e.to s || is_down m.label

-- whether edge `e` gives vertex `s` a label, according to `marks`
abbrev pub gives : Marks → ℕ → Edge → Bool
gives marks s e = gives_from s e (marks e.to)

-- the edges of vertex `s` that give `s` a label, according to `marks`
abbrev pub givers : List (List Edge) → Marks → ℕ → List Edge
givers edges marks s = filter (gives marks s) (edges_at edges s)

-- whether any of the edges `es` of vertex `s` leads up
abbrev pub leads_up : ℕ → List Edge → Bool
leads_up s es = list_any (λ e. nat_lt e.to s) es

-- the mark that edges give vertex `s` in round `round`. Its cost is `round`, and it is Up if one of the edges leads up,
-- and otherwise Down; None if there are no edges
abbrev pub mark_by : ℕ → ℕ → List Edge → Option Mark
mark_by round s [] = None
mark_by round s (e ∷ es) = Some (record { cost = round; label = if leads_up s (e ∷ es) then Up else Down })

-- the first mark if there is one, else the second
abbrev pub mark_or : Option Mark → Option Mark → Option Mark
mark_or None other = other
mark_or (Some m) other = Some m

-- the mark of vertex `s` towards vertex `t` after the given number of rounds. At first only `t` has a mark, Down at
-- cost 0. In each round, a vertex that has no mark gets one if an edge gives it a label, according to the marks of
-- the round before
abbrev pub marks_after : List (List Edge) → ℕ → ℕ → ℕ → Option Mark
marks_after edges t zero s = if s == t then Some (record { cost = 0; label = Down }) else None
marks_after edges t (suc round) s =
    mark_or (marks_after edges t round s) (mark_by (suc round) s (givers edges (marks_after edges t round) s))

-- the mark of vertex `s` towards vertex `t`, after as many rounds as there are vertices
abbrev pub marks : List (List Edge) → ℕ → ℕ → Option Mark
marks edges t s = marks_after edges t (length edges) s

-- the edges that give vertex `s` a label in the given round, according to the marks of the round before; none in
-- round 0
abbrev pub givers_before : List (List Edge) → ℕ → ℕ → ℕ → List Edge
givers_before edges t s zero = []
givers_before edges t s (suc round) = givers edges (marks_after edges t round) s

-- the edges that gave vertex `s` this mark; none if there is no mark
abbrev pub candidates_by : List (List Edge) → ℕ → ℕ → Option Mark → List Edge
candidates_by edges t s None = []
candidates_by edges t s (Some m) = givers_before edges t s m.cost

-- the candidates of vertex `s` towards vertex `t`: the edges that gave `s` its label; none if `s` is `t` or has no
-- label
abbrev pub candidates : List (List Edge) → ℕ → ℕ → List Edge
candidates edges t s = candidates_by edges t s (marks edges t s)
