-- Costs and next ports towards 16 targets at once. Each target has one of 16 lanes: a byte of each row.
use Rattle.std.specs.Prelude.{◌≡◌, ◌<◌, ◌+◌, ◌-◌, ℕ, suc, true, Bool, List, [], ◌∷◌, length, min, Option, None, Some, ◌&&◌, option_map, nat_lt, slice_index, slice_index_or, if◌then◌else◌}
use Rattle.port_graph.specs.declared.edge.Edge.{Edge}
use Rattle.port_graph.specs.Slopes.{cost, next_port}
use Rattle.port_graph.specs.NextPorts.{indexed}

-- each of the 16 lanes satisfies `P`
abbrev pub EachLane : (ℕ → Type 0) → Type 0
EachLane P = (k : ℕ) → k < 16 → P k

-- at least one of the 16 lanes satisfies `P`
abbrev pub AnyLane : (ℕ → Type 0) → Type 0
AnyLane P = (k : ℕ) × (k < 16) × P k

-- the number in lane `k` of the row of vertex `a`
abbrev pub at : List (List ℕ) → ℕ → ℕ → ℕ
at rows a k = slice_index (slice_index_or rows a []) k

-- the number that the value `x` of a lane stands for: `x` itself if it is below 255, otherwise None
abbrev pub number_in : ℕ → Option ℕ
number_in x = if nat_lt x 255 then Some x else None

-- `port` if the number `x` that it belongs to is from 1 to 254; None if `x` is 0, as at the target, or over 254
abbrev pub port_in : ℕ → ℕ → Option ℕ
port_in x port = if nat_lt 0 x && nat_lt x 255 then Some port else None

-- the value `more` of a lane stands for one more than the number that the value `x` stands for; if `x` stands for no
-- number, so does `more`
abbrev pub IsOneMore : ℕ → ℕ → Type 0
IsOneMore x more = number_in more ≡ option_map suc (number_in x)

-- the lesser of two numbers, with its port: `x` with `port` if `x` is less than the number of `found`; otherwise
-- `found`
abbrev pub nearer : ℕ × ℕ → ℕ → ℕ → ℕ × ℕ
nearer found x port = if nat_lt x found.0 then (x, port) else found

-- the least number with its port, among `found` and the vertices that the edges lead to. `x` gives the number of each
-- vertex. If numbers are equal, the first counts
abbrev pub nearest_from : (ℕ → ℕ) → ℕ × ℕ → List Edge → ℕ × ℕ
nearest_from x found [] = found
nearest_from x found (e ∷ edges) = nearest_from x (nearer found (x e.to) e.port) edges

-- the least number that `x` gives for a vertex that the edges lead to, with the port of the first edge to such a
-- vertex. 255 and port 0 if no number is below 255
abbrev pub nearest_by : (ℕ → ℕ) → List Edge → ℕ × ℕ
nearest_by x edges = nearest_from x (255, 0) edges

-- `x` and `its_port` are a vertex's down distance and its next port. `nearest` is the least down distance of the
-- vertices that edges down lead to, with the port of the first such edge. `x` is 0 at the target. Otherwise it is one
-- more than this distance, or stands for no number if this distance does. `its_port` is the port of `nearest`
pub record IsStepDown (is_target : Bool) (nearest : ℕ × ℕ) (x its_port : ℕ) : Type 0 where
  pub number : number_in x ≡ (if is_target then Some 0 else option_map suc (number_in nearest.0))
  pub port : its_port ≡ nearest.1

-- `x` and `its_port` are a vertex's cost and next port. If its down distance `y` is a number (below 255), they are `y`
-- and `port_down`. Otherwise `nearest` is the least cost of the vertices that edges up lead to, with the port of the
-- first such edge: `x` is one more than this cost, or stands for no number if this cost does, and `its_port` is this
-- port
pub record IsStepUp (y port_down : ℕ) (nearest : ℕ × ℕ) (x its_port : ℕ) : Type 0 where
  pub number : number_in x ≡ (if nat_lt y 255 then number_in y else option_map suc (number_in nearest.0))
  pub port : its_port ≡ (if nat_lt y 255 then port_down else nearest.1)

-- the target of lane `k`: the vertex at index `first` plus `k` of `vertices`, or the last of `vertices` if there are
-- fewer
abbrev pub target_in : List ℕ → ℕ → ℕ → ℕ
target_in vertices first k = slice_index vertices (first + min k (length vertices - 1 - first))

-- lane `k` of `numbers` and `ports` has, for each vertex, its cost to vertex `t` and its next port towards `t`
pub record AreRouted (ups downs : List (List Edge)) (t k : ℕ) (numbers ports : List (List ℕ)) : Type 0 where
  pub cost : (a : ℕ) → a < length ups → number_in (at numbers a k) ≡ cost (indexed ups downs) a t
  pub next : (a : ℕ) → a < length ups → port_in (at numbers a k) (at ports a k) ≡ next_port (indexed ups downs) a t

-- `numbers` and `ports` have a row for each vertex; if `is_routed`, each lane has the costs and next ports towards its
-- target in `targets`
pub record IsBlock (ups downs : List (List Edge)) (is_routed : Bool) (targets : List ℕ) (numbers ports : List (List ℕ))
    : Type 0 where
  pub all_numbers : length numbers ≡ length ups
  pub all_ports : length ports ≡ length ups
  pub routed : is_routed ≡ true → EachLane (λ k. AreRouted ups downs (slice_index targets k) k numbers ports)
