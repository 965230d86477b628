-- The order of the switches that a rule of routing plans by.
use Rattle.std.specs.Prelude.{ℕ, Bool, List, length, map, count_by, ◌==◌, ◌&&◌, ◌||◌, nat_lt, unwrap_or}
use Rattle.subnet_view.specs.Reading.{Cells}
use Rattle.subnet_view.specs.SwitchEdges.{SwitchEdges}
use Rattle.subnet_view.specs.Graph.{graph_of, guids_of}
use Rattle.updown_routes.specs.Ranks.{is_before, rank_of}
use Rattle.spread_labels.specs.Orders.{at_position, position_of}
use Rattle.two_orders.specs.Growth.{positions_in}
use Rattle.lft_blocks.specs.Rule.{RuleValue, order_of, spread_in, up_and_down}

-- the position of switch `b` in the order by rank: the number of switches that have a lesser rank, or an equal rank
-- and a lesser GUID
abbrev pub rank_position : List SwitchEdges → ℕ → ℕ
rank_position graph b = count_by (λ a. is_before graph a b) (guids_of graph)

-- the pair of the rank of switch `g` and its GUID; a missing rank counts as 0
abbrev pub ranked : List SwitchEdges → ℕ → ℕ × ℕ
ranked graph g = (unwrap_or (rank_of graph g) 0, g)

-- whether switch `a` comes before switch `b`, each given as its rank and its GUID: the rank of `a` is less, or equal
-- and its GUID is less
abbrev pub comes_before : ℕ × ℕ → ℕ × ℕ → Bool
comes_before a b = nat_lt a.0 b.0 || (a.0 == b.0 && nat_lt a.1 b.1)

-- the position of each usable switch, in ascending order of GUID, in the order by which a rule plans: by rank and
-- then by GUID for up/down routing; in its own order for a rule that spreads
abbrev pub positions_by : RuleValue → Cells → List ℕ
positions_by up_and_down cells = map (rank_position (graph_of cells)) (guids_of (graph_of cells))
positions_by (spread_in order) cells =
    map (position_of (order_of order cells)) (guids_of (graph_of cells))

-- the switches of a list in the order of their positions
abbrev pub by_positions : List ℕ → List ℕ → List ℕ
by_positions switches positions = map (at_position switches) (positions_in positions (length positions))

-- the usable switches in the order by which a rule plans: by rank and then by GUID for up/down routing; in its own
-- order for a rule that spreads
abbrev pub switches_by : RuleValue → Cells → List ℕ
switches_by up_and_down cells = by_positions (guids_of (graph_of cells)) (positions_by up_and_down cells)
switches_by (spread_in order) cells = order_of order cells
