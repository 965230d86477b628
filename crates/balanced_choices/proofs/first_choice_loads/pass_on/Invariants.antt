use Rattle.std.proofs.Common.{◌≡◌, ◌-◌, ◌%◌, length, min}
use Rattle.std.specs.Prelude.{max}
use Rattle.port_graph.specs.Heads.{edges_at}
use Rattle.spread_labels.specs.Orders.{numbers_from}
use Rattle.balanced_choices.specs.BalancedChoices.{weight_among}
use Rattle.balanced_choices.specs.Loads.{Passing, passed_to}
use Rattle.balanced_choices.specs.RoundRobin.{IsTurn}
use Rattle.balanced_choices.proofs.first_choice_loads.pass_on.Given as goal

-- the ends that are left do the rest, in turn
abbrev pub invariant-loop-k : goal.invariant-loop-k
invariant-loop-k l =
    let edges = edges_at l.ways l.position in
    let digit = weight_among l.digits edges l.position in
    let now : Passing = record { had = l.had; loads = l.loads } in
    let before : Passing = record { had = l.fn.had; loads = l.fn.loads } in
    record {
      turn : IsTurn l.turn;
      count : l.turn.count ≡ min (length edges) 256;
      offset : l.turn.offset ≡ l.position % min (length edges) 256;
      weight : l.turn.weight ≡ max digit 1;
      left : passed_to l.destination.ends edges digit l.position l.destination.number now (numbers_from l.k (l.destination.ends - l.k))
          ≡ passed_to l.destination.ends edges digit l.position l.destination.number before (numbers_from 0 l.destination.ends);
    }
