-- Down distances, costs, next ports and ways of up/down routing, as statements.
use Rattle.std.specs.Prelude.{◌≡◌, ◌≢◌, ◌≤◌, ℕ, zero, suc, ◌+◌, ◌⊎◌, ◌==◌, false, List, [], ◌∷◌, ◌++◌, length, Contains, Some}
use Rattle.port_graph.specs.declared.edge.Edge.{Edge}
use Rattle.port_graph.specs.Walks.{IsShortest, HasNoWalk}
use Rattle.port_graph.specs.Slopes.{Slope, ups_at, downs_at, below, cost, next_port}

-- `n` is the down distance from `s` to `t`: the length of a shortest walk down
abbrev pub IsDownDistance : List Slope → ℕ → ℕ → ℕ → Type 0
IsDownDistance slopes s t n = IsShortest (below slopes) s t n

-- `k` wires, one after another, lead up from `s` to `u`. No walk down leads to `t` from any switch that they leave
abbrev pub Climb : List Slope → ℕ → ℕ → ℕ → ℕ → Type 0
Climb slopes t s u zero = s ≡ u
Climb slopes t s u (suc k) =
    HasNoWalk (below slopes) s t × ((e : Edge) × Contains (ups_at slopes s) e × Climb slopes t e.to u k)

-- a climb (`Climb`) from `s` and then a shortest walk down to `t` take `n` wires in all
abbrev pub IsRoute : List Slope → ℕ → ℕ → ℕ → Type 0
IsRoute slopes s t n = (u k d : ℕ) × Climb slopes t s u k × IsDownDistance slopes u t d × (n ≡ k + d)

-- `n` is the cost from `s` to `t`: a route takes `n` wires, and no route takes fewer
pub record IsCost (slopes : List Slope) (s t n : ℕ) : Type 0 where
  pub route : IsRoute slopes s t n
  pub least : (m : ℕ) → IsRoute slopes s t m → n ≤ m

-- a walk down leads from `s` to `t`, and `p` is the least port of a wire down to a switch one nearer
pub record IsPortDown (slopes : List Slope) (s t p : ℕ) : Type 0 where
  pub distance : ℕ
  pub is_distance : IsDownDistance slopes s t (suc distance)
  pub to : ℕ
  pub wire : Contains (downs_at slopes s) (record { port = p; to = to })
  pub nearer : IsDownDistance slopes to t distance
  pub least : (e : Edge) → Contains (downs_at slopes s) e → IsDownDistance slopes e.to t distance → p ≤ e.port

-- no walk down leads from `s` to `t`, and `p` is the least port of a wire up to a switch of least cost to `t`
pub record IsPortUp (slopes : List Slope) (s t p : ℕ) : Type 0 where
  pub no_walk_down : HasNoWalk (below slopes) s t
  pub to : ℕ
  pub wire : Contains (ups_at slopes s) (record { port = p; to = to })
  pub its_cost : ℕ
  pub is_cost : IsCost slopes to t its_cost
  pub least_cost : (e : Edge) (n : ℕ) → Contains (ups_at slopes s) e → IsCost slopes e.to t n → its_cost ≤ n
  pub least : (e : Edge) → Contains (ups_at slopes s) e → IsCost slopes e.to t its_cost → p ≤ e.port

-- `p` is the next port from `s` towards another switch `t`. It is the port down or, if no walk down leads to `t`, the
-- port up
abbrev pub IsNextPort : List Slope → ℕ → ℕ → ℕ → Type 0
IsNextPort slopes s t p = (s ≢ t) × (IsPortDown slopes s t p ⊎ IsPortUp slopes s t p)

-- the wires, one after another, lead up from `s` to `u`
abbrev pub Climbs : List Slope → ℕ → List Edge → ℕ → Type 0
Climbs slopes s [] u = s ≡ u
Climbs slopes s (e ∷ es) u = Contains (ups_at slopes s) e × Climbs slopes e.to es u

-- the wires, one after another, lead down from `s` to `u`
abbrev pub Descends : List Slope → ℕ → List Edge → ℕ → Type 0
Descends slopes s [] u = s ≡ u
Descends slopes s (e ∷ es) u = Contains (downs_at slopes s) e × Descends slopes e.to es u

-- from `s` until they reach `t`, the wires leave each switch by its next port towards `t`
abbrev pub GoesBy : List Slope → ℕ → ℕ → List Edge → Type 0
GoesBy slopes t s [] = s ≡ t
GoesBy slopes t s (e ∷ es) = ((s == t) ≡ false) × (next_port slopes s t ≡ Some e.port) × GoesBy slopes t e.to es

-- the costs to `t` of the switches that the wires lead to are `n - 1`, `n - 2` and so on
abbrev pub CostsFall : List Slope → ℕ → ℕ → List Edge → Type 0
CostsFall slopes t n [] = Unit {0}
CostsFall slopes t zero (e ∷ es) = ⊥
CostsFall slopes t (suc n) (e ∷ es) = (cost slopes e.to t ≡ Some n) × CostsFall slopes t n es

-- a way from `s` to `t` along next ports, first up and then down. It takes `n` wires, and each wire leads to a switch
-- whose cost is one less
pub record Way (slopes : List Slope) (s t n : ℕ) : Type 0 where
  pub ups : List Edge
  pub downs : List Edge
  pub summit : ℕ
  pub climbs : Climbs slopes s ups summit
  pub descends : Descends slopes summit downs t
  pub goes : GoesBy slopes t s (ups ++ downs)
  pub falls_by_one : CostsFall slopes t n (ups ++ downs)
  pub wires : length (ups ++ downs) ≡ n
