-- How the code finds the port of the spread rule: candidates towards up to 64 switches at once, and the ports of one
-- switch.
use Rattle.std.specs.Prelude.{◌≡◌, ◌<◌, ◌≤◌, ◌+◌, ◌%◌, ℕ, List, [], ◌∷◌, length, Option, None, slice_get, slice_index, slice_index_or, slice_set}
use Rattle.port_graph.specs.declared.edge.Edge.{Edge}
use Rattle.port_graph.specs.Heads.{edges_at}
use Rattle.spread_labels.specs.declared.target_set.TargetSet.{TargetSet}
use Rattle.spread_labels.specs.Labels.{candidates}
use Rattle.spread_labels.specs.MarkSets.{AreRowsOf, picked, sets_at}
use Rattle.spread_labels.specs.TargetSet.{has}
use Rattle.spread_labels.specs.Orders.{position_of}
use Rattle.subnet_view.specs.GraphLaws.{IsGraph}
use Rattle.subnet_view.specs.SwitchGraph.{switch_at}
use Rattle.spread_routes.specs.declared.lid_digit.LidDigit.{LidDigit}
use Rattle.spread_routes.specs.Rule.{by_positions, order_by_keys}
use Rattle.spread_routes.specs.AdapterChoices.{AdapterChoices}
use Rattle.spread_routes.specs.Spread.{Grading, number_with, lid_digit_there, spread_at}

-- the LID digit that is used for positions past the end
abbrev pub no_lid_digit : LidDigit
no_lid_digit = record { level = 0; digit_weight = 1; offset = 0 }

-- the graph in the order that grows by the keys of `by`. `edges` has the edges from position to position, `positions`
-- has the position of each switch, and `lid_digits` has the LID digit of the switch at each position
pub record IsByPositions (by : Grading) (edges : List (List Edge)) (positions : List ℕ) (lid_digits : List LidDigit) :
    Type 0 where
  pub is_graph : IsGraph by.graph
  pub by_position : edges ≡ by_positions by.graph by.keys
  pub all_positions : length positions ≡ length by.graph
  pub position : (i : ℕ) → i < length by.graph → slice_index positions i
      ≡ position_of (order_by_keys by.graph by.keys) i
  pub all_lid_digits : length lid_digits ≡ length edges
  pub lid_digit : (p : ℕ) → p < length edges → slice_index_or lid_digits p no_lid_digit ≡ lid_digit_there by p

-- the candidates of all vertices towards the switches at the indices from `first` up to, but not including, `end`. For
-- each edge there is the set of targets towards which the edge is a candidate
pub record TowardsValue : Type 0 where
  pub first : ℕ
  pub end : ℕ
  pub sets : List (List TargetSet)

-- `towards` has the candidates towards at most 64 switches of the graph
pub record AreTowards (by : Grading) (towards : TowardsValue) : Type 0 where
  pub few : towards.end ≤ towards.first + 64
  pub within : towards.end ≤ length by.graph
  pub are_rows : AreRowsOf (by_positions by.graph by.keys) towards.sets
  pub each : (k p : ℕ) → towards.first + k < towards.end → p < length (by_positions by.graph by.keys)
      → picked k (sets_at towards.sets p) (edges_at (by_positions by.graph by.keys) p)
      ≡ candidates (by_positions by.graph by.keys) (position_of (order_by_keys by.graph by.keys) (towards.first + k)) p

-- how packets leave a switch: the ports of its candidates towards each target; the targets towards which some candidate
-- leads to a higher level; the switch's LID digit; the choices for adapters, if loads are balanced; and the positions
-- of the switch and of the targets
pub record ExitsValue : Type 0 where
  pub ports : List (List ℕ)
  pub higher : TargetSet
  pub lid_digit : LidDigit
  pub choices : Option AdapterChoices
  pub own : ℕ
  pub targets : List ℕ

-- the port at index `choice` modulo the number of ports; None if there are no ports
abbrev pub port_chosen : List ℕ → ℕ → Option ℕ
port_chosen [] choice = None
port_chosen (port ∷ ports) choice = slice_get (port ∷ ports) (choice % length (port ∷ ports))

-- the port at index `choice` modulo the number of ports; `ports` must not be empty
abbrev pub port_turn : List ℕ → ℕ → ℕ
port_turn ports choice = slice_index ports (choice % length ports)

-- the number by which the port towards target `k` is chosen, for a LID with the number `lid`
abbrev pub exit_number : ExitsValue → ℕ → ℕ → ℕ
exit_number exits k lid =
    number_with exits.choices exits.lid_digit (has exits.higher k) lid exits.own (slice_index exits.targets k)

-- the port by which a packet for a LID with the number `lid` leaves towards target `k`; None if there is no port
abbrev pub port_by : ExitsValue → ℕ → ℕ → Option ℕ
port_by exits k lid = port_chosen (slice_index_or exits.ports k []) (exit_number exits k lid)

-- for each LID and each target, `exits` give the port by which packets leave the switch at index `own` according to the
-- spread rule
abbrev pub AreExits : Grading → TowardsValue → ℕ → ExitsValue → Type 0
AreExits by towards own exits = (k lid : ℕ) → towards.first + k < towards.end → port_by exits k lid
    ≡ (spread_at by).next lid (switch_at by.graph own) (switch_at by.graph (towards.first + k))

-- `entries`, with `f lid` as the entry of each `lid` of a list
abbrev pub with_entries : (ℕ → ℕ) → List ℕ → List ℕ → List ℕ
with_entries f entries [] = entries
with_entries f entries (lid ∷ lids) = with_entries f (slice_set entries lid (f lid)) lids
