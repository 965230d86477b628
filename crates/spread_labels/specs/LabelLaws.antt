-- Laws of labels, costs and candidates at each vertex.
use Rattle.std.specs.Prelude.{◌≡◌, ◌≢◌, ◌<◌, ◌≤◌, ◌⊎◌, ℕ, suc, List, length, Contains, None, Some}
use Rattle.port_graph.specs.declared.edge.Edge.{Edge}
use Rattle.port_graph.specs.Walks.{Walk}
use Rattle.port_graph.specs.Heads.{edges_at, heads, LeadToVertices}
use Rattle.spread_labels.specs.declared.label.Label.{Label}
use Rattle.spread_labels.specs.declared.label.Label.TheVariants.{Up, Down}
use Rattle.spread_labels.specs.declared.label.Mark.{Mark}
use Rattle.spread_labels.specs.Labels.{Marks, marks, candidates}

-- edge `e` of vertex `s` leads to a vertex of cost `cost` and gives `s` a label: `e` leads up, or that vertex is
-- labeled Down
pub record Gives (edges : List (List Edge)) (marks : Marks) (s : ℕ) (e : Edge) (cost : ℕ) : Type 0 where
  pub edge : Contains (edges_at edges s) e
  pub label : Label
  pub labelled : marks e.to ≡ Some (record { cost = cost; label = label })
  pub up_or_down : (e.to < s) ⊎ (label ≡ Down)

-- an edge of vertex `s` to a vertex of cost `round` gives `s` a label, and no edge of `s` to a vertex of lesser cost
-- does. `label` is Up if one of the edges to vertices of cost `round` that give a label leads up, and otherwise Down
pub record IsGiven (edges : List (List Edge)) (marks : Marks) (s round : ℕ) (label : Label) : Type 0 where
  pub edge : Edge
  pub given : Gives edges marks s edge round
  pub least : (e : Edge) (cost : ℕ) → Gives edges marks s e cost → round ≤ cost
  pub when_up : label ≡ Up → edge.to < s
  pub when_down : label ≡ Down → (e : Edge) → Gives edges marks s e round → s ≤ e.to

-- `marks` are labels and costs towards vertex `t`. `t` is Down at cost 0. Each other vertex with a mark has the label
-- that its edges give it (`IsGiven`). Its cost is one more than the least cost among the vertices that the edges
-- giving it a label lead to. No edge gives a label to a vertex that has no mark
pub record AreMarks (edges : List (List Edge)) (t : ℕ) (marks : Marks) : Type 0 where
  pub target : marks t ≡ Some (record { cost = 0; label = Down })
  pub other : (s : ℕ) (m : Mark) → s ≢ t → marks s ≡ Some m → (round : ℕ) × (m.cost ≡ suc round)
      × IsGiven edges marks s round m.label
  pub without : (s : ℕ) → marks s ≡ None → (e : Edge) (cost : ℕ) → Gives edges marks s e cost → ⊥

-- the marks that rounds give towards a vertex of the graph satisfy `AreMarks`
abbrev pub LabelledLaw : Type 0
LabelledLaw = (edges : List (List Edge)) (t : ℕ) → LeadToVertices edges → t < length edges
    → AreMarks edges t (marks edges t)

-- if two `Marks` satisfy `AreMarks` towards the same vertex, they are equal at each vertex
abbrev pub UniqueLaw : Type 0
UniqueLaw = (edges : List (List Edge)) (t : ℕ) (one other : Marks) → AreMarks edges t one → AreMarks edges t other
    → (s : ℕ) → one s ≡ other s

-- if an edge leads from `a` to `b`, one leads from `b` to `a`
abbrev pub IsSymmetric : List (List Edge) → Type 0
IsSymmetric edges = (a b : ℕ) → Contains (heads edges a) b → Contains (heads edges b) a

-- each vertex from which a walk leads to a lesser vertex has an edge to a lesser vertex
abbrev pub IsGrown : List (List Edge) → Type 0
IsGrown edges = (a b n : ℕ) → Walk (heads edges) a b n → b < a → (e : Edge) × Contains (edges_at edges a) e × (e.to < a)

-- the graph is numbered in a grown order. Its edges lead to vertices and go both ways, and each vertex except the first
-- of its component has an edge to a lesser vertex
pub record IsGrownGraph (edges : List (List Edge)) : Type 0 where
  pub lead : LeadToVertices edges
  pub symmetric : IsSymmetric edges
  pub grown : IsGrown edges

-- exactly the vertices from which a walk leads to vertex `t` have labels towards `t`. Each cost is the length of a walk
-- to `t`, and is less than the number of vertices
pub record AreReached (edges : List (List Edge)) (t : ℕ) : Type 0 where
  pub component : (s n : ℕ) → Walk (heads edges) s t n → (m : Mark) × (marks edges t s ≡ Some m)
  pub no_other : (s : ℕ) (m : Mark) → marks edges t s ≡ Some m → Walk (heads edges) s t m.cost
  pub bounded : (s : ℕ) (m : Mark) → marks edges t s ≡ Some m → m.cost < length edges

-- if a graph is numbered in a grown order, exactly the vertices from which a walk leads to `t` have labels towards
-- `t`, and the costs are the lengths of walks (`AreReached`)
abbrev pub ReachedLaw : Type 0
ReachedLaw = (edges : List (List Edge)) (t : ℕ) → IsGrownGraph edges → t < length edges → AreReached edges t

-- edge `e` leads from vertex `s`, which has the mark `m`, to a vertex whose cost is one less. `e` leads up, or leads
-- down to a vertex labeled Down. If `s` is labeled Down, `e` leads down to a vertex labeled Down
pub record IsStep (edges : List (List Edge)) (t s : ℕ) (m : Mark) (e : Edge) : Type 0 where
  pub edge : Contains (edges_at edges s) e
  pub to : Mark
  pub labelled : marks edges t e.to ≡ Some to
  pub nearer : m.cost ≡ suc to.cost
  pub up_or_down : (e.to < s) ⊎ ((s < e.to) × (to.label ≡ Down))
  pub from_down : m.label ≡ Down → (s < e.to) × (to.label ≡ Down)

-- vertex `s`, which has the mark `m`, has a candidate unless `s` is the target `t`. Each candidate is a step
-- (`IsStep`). Each edge that gives `s` a label, and leads to a vertex whose cost is one less than that of `m`, is a
-- candidate
pub record AreCandidates (edges : List (List Edge)) (t s : ℕ) (m : Mark) : Type 0 where
  pub some : s ≢ t → (e : Edge) × Contains (candidates edges t s) e
  pub steps : (e : Edge) → Contains (candidates edges t s) e → IsStep edges t s m e
  pub all : (e : Edge) (cost : ℕ) → m.cost ≡ suc cost → Gives edges (marks edges t) s e cost
      → Contains (candidates edges t s) e

-- the candidates of each vertex with a mark satisfy `AreCandidates`
abbrev pub CandidatesLaw : Type 0
CandidatesLaw = (edges : List (List Edge)) (t s : ℕ) (m : Mark) → marks edges t s ≡ Some m → AreCandidates edges t s m
