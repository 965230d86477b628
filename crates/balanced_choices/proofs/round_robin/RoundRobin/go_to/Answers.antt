use Rattle.std.proofs.Common.{◌≡◌, ◌+◌, ◌*◌, ◌/◌, ◌%◌, sym, ap, ◌∙◌, arith}
use Rattle.balanced_choices.proofs.Counting.{next_choice, next_digit, next_start, same_digit}
use Rattle.balanced_choices.proofs.round_robin.RoundRobin.go_to.Goals as goal

pub returns-then-past-self-clause-choice : goal.returns-then-past-self-clause-choice
returns-then-past-self-clause-choice c =
    let turn = c.args.self.now in
    c.requires.turn.choice
    ∙ ap (λ d. (d + turn.offset) % turn.count) (sym (same_digit turn.start turn.weight c.args.number c.requires.turn.whole
    c.if-number-self.false c.if-past-self.true))

pub returns-then-past-self-2-clause-turn : goal.returns-then-past-self-2-clause-turn
returns-then-past-self-2-clause-turn c =
    let turn = c.args.self.now in
    let digit = next_start turn.start turn.weight c.requires.turn.weight c.requires.turn.whole in
    record {
      weight = c.requires.turn.weight;
      offset = c.requires.turn.offset;
      count = c.requires.turn.count;
      whole = (let next : turn.start + turn.weight ≡ (turn.start / turn.weight + 1) * turn.weight = omega (arith, c.requires.turn.whole) in
          next ∙ ap (λ d. d * turn.weight) (sym digit));
      choice = c.next_round-self.ensures ∙ next_choice (turn.start / turn.weight) turn.offset turn.count turn.choice c.requires.turn.choice
          ∙ ap (λ d. (d + turn.offset) % turn.count) (sym digit);
    }

pub returns-then-past-self-2-clause-choice : goal.returns-then-past-self-2-clause-choice
returns-then-past-self-2-clause-choice c =
    let turn = c.args.self.now in
    c.next_round-self.ensures ∙ next_choice (turn.start / turn.weight) turn.offset turn.count turn.choice c.requires.turn.choice
    ∙ ap (λ d. (d + turn.offset) % turn.count)
    (sym (next_digit turn.start turn.weight c.args.number c.requires.turn.whole c.if-number-self.false c.if-past-self.false c.if-past-self-2.true))
