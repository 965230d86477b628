use Rattle.std.proofs.Common.{◌≡◌, ◌%◌, drop, get_or, length}
use Rattle.std.specs.Prelude.{max}
use Rattle.spread_routes.specs.AdapterChoices.{choice_towards}
use Rattle.spread_routes.specs.Exits.{port_turn, with_entries}
use Rattle.balanced_choices.specs.RoundRobin.{IsTurn}
use Rattle.spread_routes.proofs.exits.write_in_turn.Given as goal

-- the LIDs that are left do the rest, in turn
abbrev pub invariant-loop-lid : goal.invariant-loop-lid
invariant-loop-lid l =
    record {
      all : length l.entries ≡ length l.fn.entries;
      turn : IsTurn l.turn;
      count : l.turn.count ≡ length l.ports;
      offset : l.turn.offset ≡ l.own % length l.ports;
      weight : l.turn.weight ≡ max l.weight 1;
      left : with_entries (λ lid. port_turn l.ports (choice_towards l.choices l.weight (get_or l.numbers lid 0) l.own l.target)) l.entries (drop l.lid-index l.lids)
          ≡ with_entries (λ lid. port_turn l.ports (choice_towards l.choices l.weight (get_or l.numbers lid 0) l.own l.target)) l.fn.entries l.lids;
    }
