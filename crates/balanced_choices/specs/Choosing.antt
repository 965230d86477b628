-- The choices for one end, while they are made.
use Rattle.std.specs.Prelude.{◌≡◌, ◌*◌, ℕ, List, Option, length}
use Rattle.port_graph.specs.declared.edge.Edge.{Edge}
use Rattle.balanced_choices.specs.BalancedChoices.{Chosen}
use Rattle.balanced_choices.specs.EdgesTaken.{edges_taken}
use Rattle.balanced_choices.specs.Traffic.{Sending}

-- the ways to the position of an end, and the choices for this end with the loads of channels
pub record AtEnd : Type 0 where
  pub ways : Sending
  pub chosen : Chosen

-- there are a choice and 256 loads for each position, and `taken` are the edges that positions take by their choices
pub record IsChoosing (ways : List (List Edge)) (choices : List ℕ) (taken : List (Option Edge)) (loads : List ℕ) : Type 0
  where
    pub choices_long : length choices ≡ length ways
    pub taken_are : taken ≡ edges_taken ways choices
    pub loads_long : length loads ≡ 256 * length ways
