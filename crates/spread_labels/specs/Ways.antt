-- Ways along candidates, and the numbers of the channels that they take.
use Rattle.std.specs.Prelude.{◌≡◌, ◌≢◌, ◌<◌, ℕ, zero, suc, ◌+◌, ◌-◌, ◌==◌, nat_lt}
use Rattle.std.specs.Prelude.{List, [], ◌∷◌, ◌++◌, length, Contains, Option, Some, option_map, if◌then◌else◌}
use Rattle.std.specs.List.{IsDistinct}
use Rattle.std.specs.List.Sorted.{IsStrictlyIncreasing}
use Rattle.port_graph.specs.declared.edge.Edge.{Edge}
use Rattle.port_graph.specs.Heads.{edges_at, LeadToVertices}
use Rattle.spread_labels.specs.declared.label.Mark.{Mark}
use Rattle.spread_labels.specs.Labels.{marks, candidates}

-- the edges, one after another, lead up from vertex `s` to vertex `u`
abbrev pub Climbs : List (List Edge) → ℕ → List Edge → ℕ → Type 0
Climbs edges s [] u = s ≡ u
Climbs edges s (e ∷ es) u = Contains (edges_at edges s) e × (e.to < s) × Climbs edges e.to es u

-- the edges, one after another, lead down from vertex `s` to vertex `u`
abbrev pub Descends : List (List Edge) → ℕ → List Edge → ℕ → Type 0
Descends edges s [] u = s ≡ u
Descends edges s (e ∷ es) u = Contains (edges_at edges s) e × (s < e.to) × Descends edges e.to es u

-- from `s` until they reach `t`, the edges are those that are picked at each vertex
abbrev pub Follows : (ℕ → Edge) → ℕ → ℕ → List Edge → Type 0
Follows pick t s [] = s ≡ t
Follows pick t s (e ∷ es) = (s ≢ t) × (pick s ≡ e) × Follows pick t e.to es

-- the cost of vertex `s` towards vertex `t`; None if `s` has no label
abbrev pub cost : List (List Edge) → ℕ → ℕ → Option ℕ
cost edges t s = option_map (λ m. m.cost) (marks edges t s)

-- the costs towards vertex `t` of the vertices that the edges lead to fall by one each; the first is one less than `n`
abbrev pub CostsFall : List (List Edge) → ℕ → ℕ → List Edge → Type 0
CostsFall edges t n [] = Unit {0}
CostsFall edges t zero (e ∷ es) = ⊥
CostsFall edges t (suc n) (e ∷ es) = (cost edges t e.to ≡ Some n) × CostsFall edges t n es

-- the vertices along the edges, starting at vertex `s` and including the last
abbrev pub vertices_along : ℕ → List Edge → List ℕ
vertices_along s [] = s ∷ []
vertices_along s (e ∷ es) = s ∷ vertices_along e.to es

-- a way from vertex `s` to vertex `t` along the picked edges. It goes up and then down, and has `n` edges, each to a
-- vertex whose cost is one less. It passes no vertex twice
pub record Way (edges : List (List Edge)) (pick : ℕ → Edge) (t s n : ℕ) : Type 0 where
  pub ups : List Edge
  pub downs : List Edge
  pub summit : ℕ
  pub climbs : Climbs edges s ups summit
  pub descends : Descends edges summit downs t
  pub follows : Follows pick t s (ups ++ downs)
  pub falls_by_one : CostsFall edges t n (ups ++ downs)
  pub wires : length (ups ++ downs) ≡ n
  pub none_twice : IsDistinct (λ a b. a == b) (vertices_along s (ups ++ downs))

-- for each LID, `pick` gives a candidate at each vertex that has a label towards the LID's home, except at the home
abbrev pub PicksCandidates : List (List Edge) → (ℕ → ℕ) → (ℕ → ℕ → Edge) → Type 0
PicksCandidates edges home pick = (lid s : ℕ) (m : Mark) → marks edges (home lid) s ≡ Some m → s ≢ home lid
    → Contains (candidates edges (home lid) s) (pick lid s)

-- whichever candidates are picked for each LID, a way along the picked edges leads to the LID's home from each vertex
-- that has a label towards the home. The way has as many edges as the vertex's cost
abbrev pub WaysLaw : Type 0
WaysLaw = (edges : List (List Edge)) (home : ℕ → ℕ) (pick : ℕ → ℕ → Edge) → PicksCandidates edges home pick
    → (lid s : ℕ) (m : Mark) → marks edges (home lid) s ≡ Some m → Way edges (pick lid) (home lid) s m.cost

-- the number of the channel from vertex `a` to vertex `b`, if there are `n` vertices. It is `n` minus `b` if the
-- channel leads up, and otherwise `n` plus `b`
abbrev pub channel_number : ℕ → ℕ → ℕ → ℕ
channel_number n a b = if nat_lt b a then n - b else n + b

-- the numbers of the channels that the edges take, starting at vertex `s`, if there are `n` vertices
abbrev pub channels_along : ℕ → ℕ → List Edge → List ℕ
channels_along n s [] = []
channels_along n s (e ∷ es) = channel_number n s e.to ∷ channels_along n e.to es

-- channel numbers rise along edges that go up and then down
abbrev pub ChannelsLaw : Type 0
ChannelsLaw = (edges : List (List Edge)) → LeadToVertices edges → (s u t : ℕ) (ups downs : List Edge)
    → Climbs edges s ups u → Descends edges u downs t
    → IsStrictlyIncreasing (channels_along (length edges) s (ups ++ downs))

-- a vertex and one of its edges
abbrev pub Channel : Type 0
Channel = ℕ × Edge

-- a packet that occupies the channel `held` may wait for `next`. `held` leads to the vertex of `next`, and both are
-- candidates towards the same target
pub record MayWait (edges : List (List Edge)) (held next : Channel) : Type 0 where
  pub target : ℕ
  pub holds : Contains (candidates edges target held.0) held.1
  pub there : held.1.to ≡ next.0
  pub wants : Contains (candidates edges target next.0) next.1

-- in the given number of steps, a sequence of channels leads from `a` to `b`. Each channel before the last may wait
-- for the next
abbrev pub MayWaitInTurn : List (List Edge) → ℕ → Channel → Channel → Type 0
MayWaitInTurn edges zero a b = a ≡ b
MayWaitInTurn edges (suc n) a b = (c : Channel) × MayWait edges a c × MayWaitInTurn edges n c b

-- in a graph, no channels may wait for each other in a cycle, for all targets together. So no packets wait in a credit
-- loop
abbrev pub NoCycleLaw : Type 0
NoCycleLaw = (edges : List (List Edge)) → LeadToVertices edges → (n : ℕ) (a : Channel) → MayWaitInTurn edges (suc n) a a
    → ⊥
