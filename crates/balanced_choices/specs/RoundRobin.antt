-- Candidates taken in turn. The turn of a number is the index of a candidate: the number divided by a weight, plus an
-- offset, modulo the number of candidates.
use Rattle.std.specs.Prelude.{◌≡◌, ◌<◌, ◌+◌, ◌*◌, ◌/◌, ◌%◌, ◌^◌}
use Rattle.balanced_choices.specs.declared.round_robin.RoundRobin.{RoundRobin}

-- `turn.start` is a multiple of the weight, and so the first of `turn.weight` numbers that have the same turn.
-- `turn.choice` is that turn: the start divided by the weight, plus the offset, modulo the count
pub record IsTurn (turn : RoundRobin) : Type 0 where
  pub weight : 0 < turn.weight
  pub offset : turn.offset < 2 ^ 63
  pub count : 0 < turn.count
  pub whole : turn.start ≡ turn.start / turn.weight * turn.weight
  pub choice : turn.choice ≡ (turn.start / turn.weight + turn.offset) % turn.count

-- the turns `old` and `new` have the same weight, the same offset and the same count
pub record IsOfSame (old new : RoundRobin) : Type 0 where
  pub weight : new.weight ≡ old.weight
  pub offset : new.offset ≡ old.offset
  pub count : new.count ≡ old.count
