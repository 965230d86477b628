-- Examples that distinguish laws and definitions from weaker ones.
use Rattle.std.specs.Prelude.{◌≡◌, ℕ, true, false, [], ◌∷◌, List}
use Rattle.fabric_model.specs.declared.cable.NodePort.{NodePort}
use Rattle.fabric_model.specs.Fabric.{Fabric}
use Rattle.fabric_model.specs.Forwarding.{Hop}
use Rattle.fact_join.specs.declared.cell.Cell.{Cell}
use Rattle.fact_join.specs.declared.cell.Cell.TheVariants.{Known}
use Rattle.reply_facts.specs.declared.key.Key.{Key}
use Rattle.reply_facts.specs.declared.key.Key.TheVariants as key
use Rattle.reply_facts.specs.declared.value.Value.{Value}
use Rattle.reply_facts.specs.declared.value.Value.TheVariants.{Up}
use Rattle.fact_store.specs.Merge.{merged, of_raised, of_sightings, of_two}
use Rattle.fact_store.specs.View.{cells_of}
use Rattle.subnet_view.specs.Routing.{Routing}
use Rattle.lft_blocks.specs.Arrival.{IsRoutedWay, switches_met}

-- a sighting of a port that was up in generation 1
abbrev pub up_before : Key × Cell Value
up_before = (key.Port 16 1, Known 1 (Up true))

-- a sighting of another port that is down in generation 3
abbrev pub down_now : Key × Cell Value
down_now = (key.Port 16 2, Known 3 (Up false))

-- merged facts with floor 2 have `down_now` and not `up_before`, whether the floor was raised after the merge or, in
-- one of the two stores, before it; in the latter case, the other store still had `up_before`
abbrev pub FloorsStayInGroupings : Type 0
FloorsStayInGroupings =
    (cells_of (merged (of_two (of_raised (of_sightings (up_before ∷ [])) 2) (of_sightings (up_before ∷ down_now ∷ []))))
    ≡ down_now ∷ [])
    × (cells_of (merged (of_raised (of_two (of_sightings (up_before ∷ [])) (of_sightings (down_now ∷ []))) 2))
    ≡ down_now ∷ [])

-- a route that passes two switches and then the first one again is not a route of any rule of routing
abbrev pub NoSwitchTwice : Type 0
NoSwitchTwice =
    (rule : Routing) (f : Fabric) (source : NodePort) (hops : List Hop) (s t : ℕ) → switches_met f source hops
    ≡ s ∷ t ∷ s ∷ [] → ¬ (IsRoutedWay rule f source hops)
