use Rattle.std.proofs.Common.{◌≡◌, cond, drop, get_or, length}
use Rattle.spread_routes.specs.Spread.{number_by}
use Rattle.spread_routes.specs.Exits.{port_turn, with_entries}
use Rattle.balanced_choices.specs.RoundRobin.{IsTurn}
use Rattle.spread_routes.proofs.exits.write_ports.Given as goal

-- the LIDs that are left do the rest, in turn
abbrev pub invariant-loop-lid : goal.invariant-loop-lid
invariant-loop-lid l =
    record {
      all : length l.entries ≡ length l.fn.entries;
      turn : IsTurn l.turn;
      count : l.turn.count ≡ length l.ports;
      offset : l.turn.offset ≡ l.lid_digit.offset;
      weight : l.turn.weight ≡ cond l.is_higher l.lid_digit.digit_weight 1;
      left : with_entries (λ lid. port_turn l.ports (number_by l.lid_digit l.is_higher (get_or l.numbers lid 0))) l.entries (drop l.lid-index l.lids)
          ≡ with_entries (λ lid. port_turn l.ports (number_by l.lid_digit l.is_higher (get_or l.numbers lid 0))) l.fn.entries l.lids;
    }
