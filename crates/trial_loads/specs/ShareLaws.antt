-- Laws of trial loads: each vertex shares out its packets once, when all packets have reached it, and shares no more
-- than it has.
use Rattle.std.specs.Prelude.{◌≡◌, ◌≢◌, ◌<◌, ◌≤◌, ◌*◌, ℕ, List, [], ◌∷◌, length, Contains}
use Rattle.port_graph.specs.declared.edge.Edge.{Edge}
use Rattle.spread_labels.specs.Labels.{candidates}
use Rattle.trial_loads.specs.TrialLoads.{in_turn, share}

-- if vertices share in the order of the list, each shares when all packets have reached it: no candidate of the vertex
-- or of a later vertex leads to the vertex
abbrev pub ShareWhenAllHasCome : (ℕ → List Edge) → List ℕ → Type 0
ShareWhenAllHasCome towards [] = Unit {0}
ShareWhenAllHasCome towards (s ∷ ss) =
    ((r : ℕ) (e : Edge) → Contains (s ∷ ss) r → Contains (towards r) e → e.to ≢ s) × ShareWhenAllHasCome towards ss

-- each of `n` vertices shares once in `turns`, when all packets have reached it
pub record AreTurns (towards : ℕ → List Edge) (n : ℕ) (turns : List ℕ) : Type 0 where
  pub all : (s : ℕ) → s < n → Contains turns s
  pub once : length turns ≡ n
  pub last : ShareWhenAllHasCome towards turns

-- towards a target, the turns (`in_turn`) of the vertices of a graph satisfy `AreTurns`
abbrev pub TurnsLaw : Type 0
TurnsLaw = (graph : List (List Edge)) (t : ℕ)
    → AreTurns (candidates graph t) (length graph) (in_turn (candidates graph t) (length graph))

-- equal shares of `n` packets, one for each candidate, add up to at most `n`
abbrev pub SharesLaw : Type 0
SharesLaw = (n : ℕ) (es : List Edge) → length es * share n es ≤ n
