-- Down distances, costs and next ports in a graph whose edges lead up or down, as functions.
use Rattle.std.specs.Prelude.{ℕ, zero, suc, Bool, false, List, [], ◌∷◌, min, map, length, Option, None, Some, is_some}
use Rattle.std.specs.Prelude.{◌==◌, option_map, if◌then◌else◌}
use Rattle.std.specs.List.{filter_map, find}
use Rattle.port_graph.specs.declared.edge.Edge.{Edge}
use Rattle.port_graph.specs.Walks.{shortest}

-- a switch: its GUID, its edges up, to earlier switches, and its edges down, to later ones
pub record Slope : Type 0 where
  pub guid : ℕ
  pub ups : List Edge
  pub downs : List Edge

-- the edges up of switch `a`; none if the switch is not in `slopes`
abbrev pub ups_at : List Slope → ℕ → List Edge
ups_at [] a = []
ups_at (s ∷ slopes) a = if s.guid == a then s.ups else ups_at slopes a

-- the edges down of switch `a`; none if the switch is not in `slopes`
abbrev pub downs_at : List Slope → ℕ → List Edge
downs_at [] a = []
downs_at (s ∷ slopes) a = if s.guid == a then s.downs else downs_at slopes a

-- the switches that the edges down of switch `a` lead to, once for each edge
abbrev pub below : List Slope → ℕ → List ℕ
below slopes a = map (λ e. e.to) (downs_at slopes a)

-- the down distance from `s` to `t`: the length of a shortest walk down. None if no walk down that has fewer edges
-- than there are switches leads there
abbrev pub down_distance : List Slope → ℕ → ℕ → Option ℕ
down_distance slopes s t = shortest (below slopes) (length slopes) s t

-- the lesser of two numbers; the first if the second is None
abbrev pub lesser : ℕ → Option ℕ → ℕ
lesser n None = n
lesser n (Some m) = min n m

-- the least of some numbers; None if there are none
abbrev pub least_of : List ℕ → Option ℕ
least_of [] = None
least_of (n ∷ ns) = Some (lesser n (least_of ns))

-- the cost from `s` to `t` along at most a given number of wires up. It is the down distance, if there is one.
-- Otherwise it is one more than the least cost, with one wire up fewer, of the switches that wires up lead to. None
-- if there is no such cost
abbrev pub cost_within : List Slope → ℕ → ℕ → ℕ → Option ℕ
cost_within slopes zero s t = down_distance slopes s t
cost_within slopes (suc climbs) s t = let down = down_distance slopes s t in
    if is_some down then down else option_map suc
    (least_of (filter_map (λ e. cost_within slopes climbs e.to t) (ups_at slopes s)))

-- the cost from `s` to `t`; None if no route leads there. As many wires up as there are switches suffice, since no
-- switch comes twice
abbrev pub cost : List Slope → ℕ → ℕ → Option ℕ
cost slopes s t = cost_within slopes (length slopes) s t

-- whether two numbers are equal and not None
abbrev pub same_number : Option ℕ → Option ℕ → Bool
same_number (Some a) (Some b) = a == b
same_number _ _ = false

-- the port of the first edge down from `s` to a switch that is one nearer to `t`; None if no edge down leads to such a
-- switch. If the ports of the edges rise, it is the least such port
abbrev pub port_down : List Slope → ℕ → ℕ → Option ℕ
port_down slopes s t =
    option_map (λ e. e.port)
    (find (λ e. same_number (option_map suc (down_distance slopes e.to t)) (down_distance slopes s t))
    (downs_at slopes s))

-- the port of the first edge up from `s` to a switch whose cost to `t` is one less; None if no edge up leads to such a
-- switch. If the ports of the edges rise, it is the least such port
abbrev pub port_up : List Slope → ℕ → ℕ → Option ℕ
port_up slopes s t =
    option_map (λ e. e.port) (find (λ e. same_number (option_map suc (cost slopes e.to t)) (cost slopes s t))
    (ups_at slopes s))

-- the next port from `s` towards `t`; None at `t` itself, and if no route leads to `t`. The port leads down if a walk
-- down leads to `t`, and otherwise up
abbrev pub next_port : List Slope → ℕ → ℕ → Option ℕ
next_port slopes s t =
    if s == t then None else (if is_some (down_distance slopes s t) then port_down slopes s t else port_up slopes s t)

-- the lesser of two numbers, or the only number if one is None; None if both are
abbrev pub lesser_of : Option ℕ → Option ℕ → Option ℕ
lesser_of None other = other
lesser_of (Some n) other = Some (lesser n other)
