-- The law of rounds: the choices that are taken are those of the lightest round.
use Rattle.std.specs.Prelude.{◌≡◌, ℕ, List, [], ◌∷◌, map, slice_index_or}
use Rattle.port_graph.specs.declared.edge.Edge.{Edge}
use Rattle.spread_labels.specs.Level.{greatest}
use Rattle.balanced_choices.specs.declared.choice_rounds.Destination.{Destination}
use Rattle.balanced_choices.specs.declared.level_digit.LevelDigit.{LevelDigit}
use Rattle.balanced_choices.specs.BalancedChoices.{Balance, after_first, balanced_choices, later_rounds}
use Rattle.balanced_choices.specs.LeastPeakLaw.{IsFirstLeast}

-- the load of the channel that carries most
abbrev pub greatest_load : Balance → ℕ
greatest_load balance = greatest 0 balance.loads

-- the balances after the rounds that are made: after first choices, and after each round of new choices
abbrev pub rounds_made : List (List Edge) → List ℕ → List LevelDigit → List Destination → List Balance
rounds_made graph sent digits destinations =
    let first = after_first graph sent digits destinations in
    first ∷ later_rounds 2 1 graph sent digits destinations first

-- the choices are those of the balance at index `round`, which is the first that has the least greatest load
pub record AreOfLightest (balances : List Balance) (choices : List (List ℕ)) : Type 0 where
  pub round : ℕ
  pub lightest : IsFirstLeast (map greatest_load balances) round
  pub choices_are : choices ≡ (slice_index_or balances round (record { choices = []; loads = [] })).choices

-- balanced choices are those of the first round that has the least greatest load
abbrev pub BalancedAreLightest : Type 0
BalancedAreLightest = (graph : List (List Edge)) (sent : List ℕ) (digits : List LevelDigit) (destinations : List Destination)
    → AreOfLightest (rounds_made graph sent digits destinations) (balanced_choices graph sent digits destinations)
