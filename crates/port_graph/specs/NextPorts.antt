-- Slopes of vertices that are numbered from 0, and their costs and next ports.
use Rattle.std.specs.Prelude.{◌≡◌, ◌<◌, ℕ, suc, List, [], ◌∷◌, length, map, Contains, Option, None, Some, is_some}
use Rattle.std.specs.Prelude.{option_map, slice_index_or, if◌then◌else◌}
use Rattle.std.specs.List.{filter_map, find}
use Rattle.port_graph.specs.declared.edge.Edge.{Edge}
use Rattle.port_graph.specs.Heads.{edges_at, heads}
use Rattle.port_graph.specs.Slopes.{Slope, least_of, same_number, cost, next_port}
use Rattle.port_graph.specs.Routes.{Way}

-- the slopes of vertices whose numbers start at `first`, with the edges up `ups` and the edges down `downs`. There
-- are as many slopes as the shorter of the two lists has items
abbrev pub indexed_from : ℕ → List (List Edge) → List (List Edge) → List Slope
indexed_from first [] downs = []
indexed_from first (u ∷ ups) [] = []
indexed_from first (u ∷ ups) (d ∷ downs) =
    record { guid = first; ups = u; downs = d } ∷ indexed_from (suc first) ups downs

-- the slopes of vertices whose numbers start at 0, with the edges up `ups` and the edges down `downs`
abbrev pub indexed : List (List Edge) → List (List Edge) → List Slope
indexed ups downs = indexed_from 0 ups downs

-- each edge of a vertex leads to a vertex with a lesser number
abbrev pub LeadToLesser : List (List Edge) → Type 0
LeadToLesser edges = (a : ℕ) (e : Edge) → Contains (edges_at edges a) e → e.to < a

-- `ups` and `downs` have edges of equally many vertices. Edges up lead to vertices with lesser numbers. For each edge
-- up, an edge down leads back; for each edge down, an edge up leads back
pub record AreSlopes (ups downs : List (List Edge)) : Type 0 where
  pub all : length downs ≡ length ups
  pub rise : LeadToLesser ups
  pub back_up : (a b : ℕ) → Contains (heads downs a) b → Contains (heads ups b) a
  pub back_down : (a b : ℕ) → Contains (heads ups a) b → Contains (heads downs b) a

-- each of `numbers` that is not None is less than `bound`
abbrev pub AreLess : ℕ → List (Option ℕ) → Type 0
AreLess bound numbers = (a n : ℕ) → slice_index_or numbers a None ≡ Some n → n < bound

-- the cost of a vertex. It is its down distance `distance`, if that is not None. Otherwise it is one more than the
-- least of the costs in `costs` of the vertices that `edges`, its edges up, lead to. None if none of these vertices has
-- a cost
abbrev pub cost_of : Option ℕ → List Edge → List (Option ℕ) → Option ℕ
cost_of distance edges costs =
    if is_some distance then distance else option_map suc
    (least_of (filter_map (λ e. slice_index_or costs e.to None) edges))

-- `costs` has the cost of each of the first `n` vertices. It follows from the vertex's down distance and the costs of
-- the vertices that its edges up lead to
pub record AreCosts (ups : List (List Edge)) (distances : List (Option ℕ)) (n : ℕ) (costs : List (Option ℕ)) : Type 0
  where
    pub all : length costs ≡ n
    pub cost : (a : ℕ) → a < n → slice_index_or costs a None
        ≡ cost_of (slice_index_or distances a None) (edges_at ups a) costs

-- the port of the first edge to a vertex whose number is one less than `number`; None if no edge leads to such a
-- vertex, or if `number` is None
abbrev pub port_nearer : List Edge → List (Option ℕ) → Option ℕ → Option ℕ
port_nearer edges numbers number =
    option_map (λ e. e.port) (find (λ e. same_number (option_map suc (slice_index_or numbers e.to None)) number) edges)

-- the next port of vertex `a`. If `a` has a down distance, the port leads down to a vertex whose distance is one less.
-- Otherwise it leads up to a vertex whose cost is one less. None if no edge leads to such a vertex
abbrev pub port_by : List (List Edge) → List (List Edge) → List (Option ℕ) → List (Option ℕ) → ℕ → Option ℕ
port_by ups downs distances costs a =
    let distance = slice_index_or distances a None in
    if is_some distance then port_nearer (edges_at downs a) distances distance else port_nearer (edges_at ups a) costs
    (slice_index_or costs a None)

-- `ports` has, for each vertex, the next port towards `target` (`next_port`), or None if there is none
pub record AreNextPorts (ups downs : List (List Edge)) (target : ℕ) (ports : List (Option ℕ)) : Type 0 where
  pub all : length ports ≡ length ups
  pub next : (a : ℕ) → a < length ups → slice_index_or ports a None ≡ next_port (indexed ups downs) a target

-- for each of `vertices` as a target, the next port of each of `vertices` towards that target
abbrev pub ports_between : List (List Edge) → List (List Edge) → List ℕ → List (List (Option ℕ))
ports_between ups downs vertices = map (λ t. map (λ s. next_port (indexed ups downs) s t) vertices) vertices

-- if the edges are slopes (`AreSlopes`) and a vertex `s` has the cost `n` to a vertex `t`, next ports lead from `s`
-- to `t` along `n` edges, first up and then down
abbrev pub WaysLaw : Type 0
WaysLaw = (ups downs : List (List Edge)) → AreSlopes ups downs → (s t n : ℕ) → t < length ups
    → cost (indexed ups downs) s t ≡ Some n → Way (indexed ups downs) s t n
