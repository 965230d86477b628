-- The stage of each vertex while an order grows: left, beside a placed vertex, or placed.
use Rattle.std.specs.Prelude.{ℕ, Bool, true, false, List, [], ◌∷◌, filter, Option, None, Some, slice_index_or, slice_set, if◌then◌else◌}
use Rattle.port_graph.specs.declared.edge.Edge.{Edge}
use Rattle.spread_labels.specs.declared.growth.Stage.{Stage}
use Rattle.spread_labels.specs.declared.growth.Stage.TheVariants.{Left, Beside, Placed}
use Rattle.spread_labels.specs.Orders.{earliest, numbers_from}

-- whether two stages are equal
abbrev pub is_stage : Stage → Stage → Bool
is_stage Left Left = true
is_stage Beside Beside = true
is_stage Placed Placed = true
is_stage _ _ = false

-- the stage of vertex `s`; `Left` if `s` is past the end
abbrev pub stage_at : List Stage → ℕ → Stage
stage_at stages s = slice_index_or stages s Left

-- the earliest of some vertices, by the test `before`; None if there are none
abbrev pub earliest_of : (ℕ → ℕ → Bool) → List ℕ → Option ℕ
earliest_of before [] = None
earliest_of before (x ∷ xs) = Some (earliest before x xs)

-- `y` if no vertex was found yet, or if `y` is before the vertex that was found; otherwise the vertex that was found
abbrev pub earlier_of : (ℕ → ℕ → Bool) → Option ℕ → ℕ → ℕ
earlier_of before None y = y
earlier_of before (Some x) y = if before y x then y else x

-- the earliest vertex at `stage` among the first `n` vertices; None if none of these is at `stage`
abbrev pub earliest_at : (ℕ → ℕ → Bool) → List Stage → Stage → ℕ → Option ℕ
earliest_at before stages stage n =
    earliest_of before (filter (λ s. is_stage (stage_at stages s) stage) (numbers_from 0 n))

-- the first number if there is one, else the second
abbrev pub first_of : Option ℕ → Option ℕ → Option ℕ
first_of None other = other
first_of (Some x) other = Some x

-- the vertex, among the first `n`, that is placed next: the earliest that is beside a placed vertex. If there is none,
-- it is the earliest that is left; None if there is none of these either
abbrev pub next_at : (ℕ → ℕ → Bool) → List Stage → ℕ → Option ℕ
next_at before stages n = first_of (earliest_at before stages Beside n) (earliest_at before stages Left n)

-- `stages`, with vertex `s` set to `Beside` if it was `Left`
abbrev pub beside : List Stage → ℕ → List Stage
beside stages s = if is_stage (stage_at stages s) Left then slice_set stages s Beside else stages

-- `stages`, with each vertex that the edges lead to set to `Beside` if it was `Left`
abbrev pub beside_all : List Stage → List Edge → List Stage
beside_all stages [] = stages
beside_all stages (e ∷ es) = beside_all (beside stages e.to) es

-- `stages`, with vertex `v` set to `Placed`, and then each vertex that `edges` lead to set to `Beside` if it was `Left`
abbrev pub after_add_vertex : ℕ → List Edge → List Stage → List Stage
after_add_vertex v edges stages = beside_all (slice_set stages v Placed) edges
