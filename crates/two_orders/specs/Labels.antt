-- Labels of vertices. A label says, for each of two orders, whether a walk from the vertex to a target begins up or
-- down. Walks that follow labels go up and then down by both orders.
use Rattle.std.specs.Prelude.{ℕ, ◌&&◌, ◌||◌, not, Bool, true, false, List, [], ◌∷◌, Option, None, Some, slice_get, slice_index_or, slice_set, if◌then◌else◌}
use Rattle.std.specs.List.{list_any}
use Rattle.port_graph.specs.declared.edge.Edge.{Edge}
use Rattle.port_graph.specs.Heads.{edges_at}
use Rattle.two_orders.specs.declared.labels.Sides.{Sides}
use Rattle.two_orders.specs.TwoOrders.{TwoOrders}
use Rattle.two_orders.specs.Trees.{is_earlier}

-- if `up`, whether an edge from vertex `i` to `j` leads to an earlier position; otherwise whether it leads to a later
-- position
abbrev pub is_side : List ℕ → Bool → ℕ → ℕ → Bool
is_side positions up i j = if up then is_earlier positions j i else is_earlier positions i j

-- whether an edge from vertex `i` to `j` leads up or down by each of the two orders as `sides` says
abbrev pub leads : TwoOrders → Sides → ℕ → ℕ → Bool
leads orders sides i j = is_side orders.first sides.first_up i j && is_side orders.second sides.second_up i j

-- whether a walk may go on by an edge that leads as `after` says, if its last edge led as `before` says. The next edge
-- may lead up by an order only if the last edge led up by that order
abbrev pub may_follow : Sides → Sides → Bool
may_follow before after = (not after.first_up || before.first_up) && (not after.second_up || before.second_up)

-- whether a walk may go on from a vertex with the given label, if its last edge led as `before` says; false if the
-- vertex has no label
abbrev pub goes_on : Sides → Option Sides → Bool
goes_on before None = false
goes_on before (Some after) = may_follow before after

-- the label of vertex `i`; None if `i` has no label or is past the end
abbrev pub label_at : List (Option Sides) → ℕ → Option Sides
label_at labels i = slice_index_or labels i None

-- whether an edge from vertex `i` to `j` leads up or down as `sides` says, and a walk may go on from `j` by the label
-- of `j`
abbrev pub leads_on : TwoOrders → List (Option Sides) → Sides → ℕ → ℕ → Bool
leads_on orders labels sides i j = leads orders sides i j && goes_on sides (label_at labels j)

-- whether a vertex exists and has no label
abbrev pub is_open : Option (Option Sides) → Bool
is_open None = false
is_open (Some None) = true
is_open (Some (Some label)) = false

-- whether vertex `i` exists and has no label, and one of its edges leads on by the label `sides`
abbrev pub gets_label : List (List Edge) → TwoOrders → Sides → List (Option Sides) → ℕ → Bool
gets_label edges orders sides labels i =
    is_open (slice_get labels i) && list_any (λ e. leads_on orders labels sides i e.to) (edges_at edges i)

-- the labels after vertex `i` gets the label `sides`, if it had no label and one of its edges leads on by `sides`;
-- otherwise unchanged
abbrev pub labelled : List (List Edge) → TwoOrders → Sides → List (Option Sides) → ℕ → List (Option Sides)
labelled edges orders sides labels i =
    if gets_label edges orders sides labels i then slice_set labels i (Some sides) else labels

-- the labels after each vertex of a list, one after another, gets the label `sides`, if it had no label and one of its
-- edges leads on by `sides`
abbrev pub all_labelled : List (List Edge) → TwoOrders → Sides → List (Option Sides) → List ℕ → List (Option Sides)
all_labelled edges orders sides labels [] = labels
all_labelled edges orders sides labels (i ∷ vertices) =
    all_labelled edges orders sides (labelled edges orders sides labels i) vertices

-- the label of walks that begin down by both orders
abbrev pub both_down : Sides
both_down = record { first_up = false; second_up = false }

-- the label of walks that begin up by the first order and down by the second
abbrev pub first_goes_up : Sides
first_goes_up = record { first_up = true; second_up = false }

-- the label of walks that begin down by the first order and up by the second
abbrev pub second_goes_up : Sides
second_goes_up = record { first_up = false; second_up = true }

-- the label of walks that begin up by both orders
abbrev pub both_up : Sides
both_up = record { first_up = true; second_up = true }

-- the labels of vertices, from the first labels `labels`, after four rounds. The rounds give the labels down by both
-- orders, up by the first alone, up by the second alone, and up by both
unfoldable pub labels_from : List (List Edge) → TwoOrders → List (Option Sides) → List (Option Sides)
labels_from edges orders labels =
    all_labelled edges orders both_up
    (all_labelled edges orders second_goes_up
    (all_labelled edges orders first_goes_up
    (all_labelled edges orders both_down labels orders.falling) orders.falling) orders.rising) orders.rising
