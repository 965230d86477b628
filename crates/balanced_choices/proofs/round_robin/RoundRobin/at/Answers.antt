use Rattle.std.proofs.Common.{◌+◌, ◌*◌, ◌/◌, ◌%◌, sym, ap}
use Rattle.balanced_choices.proofs.Counting.{digit_again}
use Rattle.balanced_choices.proofs.round_robin.RoundRobin.at.Goals as goal

pub returns-clause-turn : goal.returns-clause-turn
returns-clause-turn c =
    let digit = sym (digit_again (c.args.number / c.args.weight) c.args.weight c.requires.weight) in
    record {
      weight = c.requires.weight;
      offset = c.requires.offset;
      count = c.requires.count;
      whole = ap (λ d. d * c.args.weight) digit;
      choice = ap (λ d. (d + c.args.offset) % c.args.count) digit;
    }
