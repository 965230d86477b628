-- Marks towards many targets at once, as sets. Each vertex has a set of the targets for which it has a mark, and a set
-- of those for which this mark is Down. Each edge has a set of the targets for which it gave the mark; for these it is
-- a candidate.
use Rattle.std.specs.Prelude.{◌≡◌, ◌<◌, ℕ, zero, suc, Bool, false, not, ◌&&◌, ◌||◌, ◌==◌, nat_lt, List, [], ◌∷◌, length, replicate, Option, None, Some, is_some, slice_index, slice_index_or, if◌then◌else◌}
use Rattle.std.specs.List.{list_any}
use Rattle.port_graph.specs.declared.edge.Edge.{Edge}
use Rattle.port_graph.specs.Heads.{edges_at}
use Rattle.spread_labels.specs.declared.label.Mark.{Mark}
use Rattle.spread_labels.specs.declared.target_set.TargetSet.{TargetSet}
use Rattle.spread_labels.specs.Labels.{candidates, gives, is_down, marks_after}
use Rattle.spread_labels.specs.TargetSet.{EachTarget, has, no_targets}

-- the set of a vertex or an edge, at index `i`; the empty set if `i` is past the end
abbrev pub set_at : List TargetSet → ℕ → TargetSet
set_at sets i = slice_index_or sets i no_targets

-- the targets for which edge `e` gives vertex `s` a label. If `e` leads up, they are those for which the vertex that
-- `e` leads to has a mark. Otherwise they are those for which that vertex is Down
abbrev pub giver_set : ℕ → List TargetSet → List TargetSet → Edge → TargetSet
giver_set s marked downs e = if nat_lt e.to s then set_at marked e.to else set_at downs e.to

-- the edge at index `j`; if `j` is past the end, the edge with port 0 to vertex 0
abbrev pub edge_at : List Edge → ℕ → Edge
edge_at es j = slice_index_or es j (record { port = 0; to = 0 })

-- for each edge of vertex `s`, `row` has the targets that `old` has for this edge, and also those of `new` for which
-- the edge gives a label
abbrev pub AreNoted : ℕ → List Edge → List TargetSet → List TargetSet → TargetSet → List TargetSet → List TargetSet
    → Type 0
AreNoted s es marked downs new old row = EachTarget (λ k. (j : ℕ) → j < length es → has (set_at row j) k
    ≡ (has (set_at old j) k || (has (giver_set s marked downs (edge_at es j)) k && has new k)))

-- whether a round gives vertex `s` a mark for target `k`: `s` has no mark for `k`, and an edge gives `s` a label
abbrev pub is_new : ℕ → List Edge → List TargetSet → List TargetSet → ℕ → Bool
is_new s es marked downs k =
    list_any (λ e. has (giver_set s marked downs e) k) es && not (has (set_at marked s) k)

-- `its_marked`, `its_downs` and `its_row` are the sets of vertex `s` and of its edges after one more round
pub record IsSetStep (s : ℕ) (es : List Edge) (marked downs row : List TargetSet) (its_marked its_downs : TargetSet)
    (its_row : List TargetSet) : Type 0 where
  pub is_marked : EachTarget (λ k. has its_marked k ≡ (has (set_at marked s) k || is_new s es marked downs k))
  pub is_down : EachTarget (λ k. has its_downs k ≡ (has (set_at downs s) k || (is_new s es marked downs k
      && not (list_any (λ e. has (giver_set s marked downs e) k && nat_lt e.to s) es))))
  pub as_long : length its_row ≡ length row
  pub noted : EachTarget (λ k. (j : ℕ) → j < length es → has (set_at its_row j) k
      ≡ (has (set_at row j) k || (has (giver_set s marked downs (edge_at es j)) k && is_new s es marked downs k)))

-- the empty set for each edge
abbrev pub no_sets : List Edge → List TargetSet
no_sets es = replicate (length es) no_targets

-- the sets of the edges of vertex `s`; none past the end
abbrev pub sets_at : List (List TargetSet) → ℕ → List TargetSet
sets_at rows s = slice_index_or rows s []

-- `next_marked` and `next_downs` are the sets of the first `count` vertices after one more round, and `next_rows` has
-- the sets of their edges
pub record AreSetSteps (edges : List (List Edge)) (marked downs : List TargetSet) (rows : List (List TargetSet))
    (count : ℕ) (next_marked next_downs : List TargetSet) (next_rows : List (List TargetSet)) : Type 0 where
  pub all_marked : length next_marked ≡ count
  pub all_downs : length next_downs ≡ count
  pub all_rows : length next_rows ≡ length rows
  pub steps : (s : ℕ) → s < count → IsSetStep s (edges_at edges s) marked downs (sets_at rows s) (set_at next_marked s)
      (set_at next_downs s) (sets_at next_rows s)

-- whether edge `e` gives vertex `s` a label in the given round, according to the marks of the round before; false in
-- round 0
abbrev pub gave_before : List (List Edge) → ℕ → ℕ → Edge → ℕ → Bool
gave_before edges t s e zero = false
gave_before edges t s e (suc round) = gives (marks_after edges t round) s e

-- whether edge `e` gave vertex `s` this mark; false if there is no mark
abbrev pub gave_by : List (List Edge) → ℕ → ℕ → Edge → Option Mark → Bool
gave_by edges t s e None = false
gave_by edges t s e (Some m) = gave_before edges t s e m.cost

-- whether edge `e` gave vertex `s` the mark that `s` has after `round` rounds; false if `s` has no mark then
abbrev pub gave : List (List Edge) → ℕ → ℕ → ℕ → Edge → Bool
gave edges t round s e = gave_by edges t s e (marks_after edges t round s)

-- whether a mark is Down; false if there is no mark
abbrev pub down_of : Option Mark → Bool
down_of None = false
down_of (Some m) = is_down m.label

-- after `round` rounds, target `k` is in `marked` for exactly the vertices that have a mark towards vertex `t`, in
-- `downs` for exactly those whose mark is Down, and in `rows` for exactly the edges that gave a mark
pub record AreSetsTowards (edges : List (List Edge)) (t k round : ℕ) (marked downs : List TargetSet)
    (rows : List (List TargetSet)) : Type 0 where
  pub is_marked : (s : ℕ) → s < length edges → has (set_at marked s) k ≡ is_some (marks_after edges t round s)
  pub is_down : (s : ℕ) → s < length edges → has (set_at downs s) k ≡ down_of (marks_after edges t round s)
  pub noted : (s j : ℕ) → s < length edges → j < length (edges_at edges s)
      → has (set_at (sets_at rows s) j) k ≡ gave edges t round s (edge_at (edges_at edges s) j)

-- `rows` has a row for each vertex, with a set for each of its edges
pub record AreRowsOf (edges : List (List Edge)) (rows : List (List TargetSet)) : Type 0 where
  pub all : length rows ≡ length edges
  pub long : (s : ℕ) → s < length edges → length (sets_at rows s) ≡ length (edges_at edges s)

-- `marked`, `downs` and `rows` are the sets of the marks towards each of `targets` after `round` rounds
pub record AreSetsAfter (edges : List (List Edge)) (targets : List ℕ) (round : ℕ) (marked downs : List TargetSet)
    (rows : List (List TargetSet)) : Type 0 where
  pub all_marked : length marked ≡ length edges
  pub all_downs : length downs ≡ length edges
  pub are_rows : AreRowsOf edges rows
  pub each : (k : ℕ) → k < length targets → AreSetsTowards edges (slice_index targets k) k round marked downs rows

-- the edges whose sets in `sets` have target `k`; edges past the end of `sets` are left out
abbrev pub picked : ℕ → List TargetSet → List Edge → List Edge
picked k sets [] = []
picked k [] (e ∷ es) = []
picked k (set ∷ sets) (e ∷ es) = if has set k then e ∷ picked k sets es else picked k sets es

-- for each edge of each vertex, `rows` has the targets towards which the edge is a candidate
pub record AreCandidateSets (edges : List (List Edge)) (targets : List ℕ) (rows : List (List TargetSet)) : Type 0 where
  pub are_rows : AreRowsOf edges rows
  pub each : (k s : ℕ) → k < length targets → s < length edges
      → picked k (sets_at rows s) (edges_at edges s) ≡ candidates edges (slice_index targets k) s

-- `sets` has a set for each of `count` vertices. Among the indices less than `n`, the set has those at which `targets`
-- has the vertex
pub record AreAtTargets (count : ℕ) (targets : List ℕ) (n : ℕ) (sets : List TargetSet) : Type 0 where
  pub all : length sets ≡ count
  pub each : (k s : ℕ) → k < n → s < count → has (set_at sets s) k ≡ (s == slice_index targets k)

-- the sets of the first `n` vertices are equal in `old` and `new`
abbrev pub AreSame : List TargetSet → List TargetSet → ℕ → Type 0
AreSame old new n = EachTarget (λ k. (s : ℕ) → s < n → has (set_at old s) k ≡ has (set_at new s) k)
