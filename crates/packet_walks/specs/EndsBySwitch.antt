-- Walks of packets from switch to switch, along the next hops of the switches.
use Rattle.std.specs.Prelude.{◌≡◌, ◌⊎◌, ◌<◌, ℕ, zero, suc, Bool, true, false, List, Option, None, Some, length, slice_index_or}
use Rattle.packet_walks.specs.declared.packet_end.End.{End}
use Rattle.packet_walks.specs.declared.next_hop.NextHop.{NextHop}
use Rattle.packet_walks.specs.declared.next_hop.NextHop.TheVariants.{To, Ends}

-- the step after a step, where `steps` has the step of each switch; an end stays as it is, and so does a hop to a
-- switch past the end of `steps`
abbrev pub onward : List NextHop → NextHop → NextHop
onward steps (To i) = slice_index_or steps i (To i)
onward steps (Ends e) = Ends e

-- the step `n` steps after `s`, where `steps` has the step of each switch
abbrev pub after : ℕ → List NextHop → NextHop → NextHop
after zero steps s = s
after (suc n) steps s = after n steps (onward steps s)

-- the walk from `s` along `steps` ends at the given end; if the end is None, the walk goes on forever
abbrev pub IsEndOf : List NextHop → NextHop → Option End → Type 0
IsEndOf steps s (Some e) = (n : ℕ) × (after n steps s ≡ Ends e)
IsEndOf steps s None = (n : ℕ) → (i : ℕ) × (after n steps s ≡ To i)

-- whether the step leads to a switch, and so is not an end
abbrev pub is_to : NextHop → Bool
is_to (To i) = true
is_to (Ends e) = false

-- the end that a walk has reached; None if the walk is still at a switch
abbrev pub end_of : NextHop → Option End
end_of (To i) = None
end_of (Ends e) = Some e

-- `ends` has the end of the walk from each switch along `steps`, or a hop to a switch if the walk goes on forever
pub record HaveEnded (steps ends : List NextHop) : Type 0 where
  pub as_many : length ends ≡ length steps
  pub ended : (s : NextHop) → IsEndOf steps s (end_of (onward ends s))

-- for each switch, `jumps` has the step that is reached from this switch after `n` steps along `steps`
pub record AreAfter (steps jumps : List NextHop) (n : ℕ) : Type 0 where
  pub as_many : length jumps ≡ length steps
  pub onward_is : (s : NextHop) → onward jumps s ≡ after n steps s

-- let `s` be the switch that the walk from switch `i` had reached in `old`. In `new`, the walk from `i` has gone on
-- to where the walk from `s` was in `old` or, if `s` comes before `i`, to where the walk from `s` is in `new`
abbrev pub IsFurther : List NextHop → List NextHop → ℕ → Type 0
IsFurther old new i =
    (onward new (To i) ≡ onward old (onward old (To i)))
    ⊎ ((j : ℕ) × (j < i) × (onward old (To i) ≡ To j) × (onward new (To i) ≡ onward new (To j)))

-- `new` is `old` after the walks from all switches have gone on once, one after the other
pub record AreFurther (old new : List NextHop) : Type 0 where
  pub as_many : length new ≡ length old
  pub each : (i : ℕ) → i < length old → IsFurther old new i
