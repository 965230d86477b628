-- What positions send to ends, and along which edges.
use Rattle.std.specs.Prelude.{◌≡◌, ℕ, List, length}
use Rattle.port_graph.specs.declared.edge.Edge.{Edge}
use Rattle.port_graph.specs.Heads.{LeadToVertices}
use Rattle.balanced_choices.specs.declared.level_digit.LevelDigit.{LevelDigit}
use Rattle.balanced_choices.specs.BalancedChoices.{near_first}

-- the edges of each position, the number of packets that it sends to each end, and its level and digit weight
pub record Sending : Type 0 where
  pub edges : List (List Edge)
  pub sent : List ℕ
  pub digits : List LevelDigit

-- the edges lead to positions, and each position sends a number of packets, and has a level and a digit weight
pub record IsTraffic (graph : List (List Edge)) (sent : List ℕ) (digits : List LevelDigit) : Type 0 where
  pub leads : LeadToVertices graph
  pub sent_long : length sent ≡ length graph
  pub digits_long : length digits ≡ length graph

-- `order` is the order in which positions choose among `ways`, and each position sends a number of packets, and has
-- a level and a digit weight
pub record AreTargetWays (ways : List (List Edge)) (order sent : List ℕ) (digits : List LevelDigit) : Type 0 where
  pub order_is : order ≡ near_first ways
  pub sent_long : length sent ≡ length ways
  pub digits_long : length digits ≡ length ways
