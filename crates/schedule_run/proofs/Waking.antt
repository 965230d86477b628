-- Turns of a wait: the next one, and those that are left; and the deciders that come first.
use Rattle.std.proofs.Common.{◌≡◌, ◌∙◌, ◌∷◌, ℕ, suc, ◌+◌, ◌-◌, ◌<◌, ◌≤◌, Bool, true, false, cond, List, map, length, get_or, drop, None, Some, Option, add-one, sym, ap, arith}
use Rattle.std.specs.Prelude.{nat_lt, position, slice_get}
use Rattle.std.specs.List.{position_or_len}
use Rattle.std.specs.Option.{option_map_or}
use Rattle.std.proofs.Math.ListN.{drop_of_length-le}
use Rattle.std.proofs.Math.Seq.{drop-cons}
use Rattle.std.proofs.lemmas.Bool.{lt-ltb}
use Rattle.std.proofs.lemmas.List.Sums.{position_or_len_is}
use Rattle.std.proofs.lemmas.Option.{get_or_from_slice_get, slice_get_within}
use Rattle.schedule_lines.specs.Outcome.{and_then, quiet}
use Rattle.schedule_run.specs.Waiting.{after_turn, after_turns, earlier, first_wake, next_turn, wake_at}
use Rattle.schedule_run.specs.World.{WorldValue, decider_value}
use Rattle.schedule_run.specs.declared.waiting.WaitTurn.{WaitTurn}
use Rattle.schedule_run.specs.declared.world.Decider.{Decider}

pub turn_next : (w : WorldValue) (until most i : ℕ) (turn : WaitTurn) → i < most → next_turn w until ≡ Some turn
    → after_turns w until (most - i) ≡ and_then (after_turn w turn) (λ now. after_turns now until (most - (i + 1)))
turn_next w until most i turn h there =
    let left : most - i ≡ suc (most - (i + 1)) = omega arith in
    ap (after_turns w until) left
    ∙ ap (λ o. option_map_or (λ (t : WaitTurn). and_then (after_turn w t) (λ now. after_turns now until (most - (i + 1)))) o
    (quiet (record w { time = until }))) there

pub turn_none : (w : WorldValue) (until most i : ℕ) → i < most → next_turn w until ≡ None
    → after_turns w until (most - i) ≡ quiet (record w { time = until })
turn_none w until most i h there =
    let left : most - i ≡ suc (most - (i + 1)) = omega arith in
    ap (after_turns w until) left
    ∙ ap (λ o. option_map_or (λ (t : WaitTurn). and_then (after_turn w t) (λ now. after_turns now until (most - (i + 1)))) o
    (quiet (record w { time = until }))) there

pub turn_end : (w : WorldValue) (until most i : ℕ) → most ≤ i → after_turns w until (most - i) ≡ quiet w
turn_end w until most i h = let none : most - i ≡ 0 = omega arith in ap (after_turns w until) none

-- the first that passes, and none before it
pub index_found : {X : Type 0} (p : X → Bool) (xs : List X) (i : ℕ) (x : X) → slice_get xs i ≡ Some x → p x ≡ true
    → ((k : ℕ) (d : X) → k < i → p (get_or xs k d) ≡ false) → Some i ≡ position p xs
index_found p xs i x there passes before =
    let within = slice_get_within xs i x there in
    let first : position_or_len p xs ≡ i = position_or_len_is p xs i x (omega arith) (λ k h. before k x h)
    (λ h. ap p (get_or_from_slice_get xs i x x there) ∙ passes) in
    sym (ap (λ n. cond (nat_lt n (length xs)) (Some n) None) first ∙ ap (λ b. cond b (Some i) None) (lt-ltb i (length xs) within))

-- the earliest so far, and those that are left
pub wake_next : (items : List Decider) (i : ℕ) (d : Decider) (first : Option ℕ) → i < length items → d ≡ get_or items i d
    → first_wake first (map decider_value (drop i items)) ≡ first_wake (earlier first (wake_at (decider_value d))) (map decider_value (drop (i + 1) items))
wake_next items i d first h e =
    ap (λ ds. first_wake first (map decider_value ds)) (drop-cons items i d h ∙ ap (λ x. x ∷ drop (suc i) items) (sym e) ∙ ap (λ n. d ∷ drop n items) (sym (add-one i)))

pub wake_none : (items : List Decider) (i : ℕ) (first : Option ℕ) → length items ≤ i → first_wake first (map decider_value (drop i items)) ≡ first
wake_none items i first h = ap (λ ds. first_wake first (map decider_value ds)) (drop_of_length-le items h)
