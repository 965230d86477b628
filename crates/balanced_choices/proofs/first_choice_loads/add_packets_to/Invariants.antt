use Rattle.std.proofs.Common.{◌≡◌, drop}
use Rattle.std.specs.Prelude.{reverse}
use Rattle.balanced_choices.specs.BalancedChoices.{near_first}
use Rattle.balanced_choices.specs.Loads.{Passing, passed_on}
use Rattle.balanced_choices.proofs.first_choice_loads.add_packets_to.Given as goal

-- the positions that are left do the rest
abbrev pub invariant-loop-position : goal.invariant-loop-position
invariant-loop-position l =
    let d = l.destination in
    let order = reverse (near_first l.ways) in
    let now : Passing = record { had = l.had; loads = l.loads } in
    let before : Passing = record { had = l.fn.had; loads = l.fn.loads } in
    passed_on l.ways l.digits d.number d.ends now (drop l.position-index order) ≡ passed_on l.ways l.digits d.number d.ends before order
