-- Numbers that are counted round, by digits.
use Rattle.std.proofs.Common.{◌≡◌, ◌<◌, ◌≤◌, ◌+◌, ◌-◌, ◌*◌, ◌/◌, ◌%◌, ℕ, zero, suc, sym, ap, ◌∙◌, arith, add-one}
use Rattle.std.proofs.Math.Nat.{add-mod-mod, div-eq_of_lt-le, suc-mod}
use Rattle.std.specs.Prelude.{max}
use Rattle.balanced_choices.specs.BalancedChoices.{digits_from}

-- the first number with a digit has it
pub digit_again : (digit weight : ℕ) → 0 < weight → digit * weight / weight ≡ digit
digit_again digit weight some = div-eq_of_lt-le weight (omega arith) (omega (arith, some))

-- and so has one near it
pub same_digit : (start weight lid : ℕ) → start ≡ start / weight * weight → start ≤ lid → lid - start < weight → lid / weight ≡ start / weight
same_digit start weight lid whole from less = div-eq_of_lt-le weight (omega (arith, whole, from)) (omega (arith, whole, less, from))

-- or the next
pub next_digit : (start weight lid : ℕ) → start ≡ start / weight * weight → start ≤ lid → weight ≤ lid - start → lid - start - weight < weight
    → lid / weight ≡ start / weight + 1
next_digit start weight lid whole from past less =
    div-eq_of_lt-le weight (omega (arith, whole, from, past)) (omega (arith, whole, less, from, past))

-- which begins as far behind
pub next_start : (start weight : ℕ) → 0 < weight → start ≡ start / weight * weight → (start + weight) / weight ≡ start / weight + 1
next_start start weight some whole = div-eq_of_lt-le weight (omega (arith, whole)) (omega (arith, whole, some))

-- and has the next number, counted round
pub next_choice : (digit offset count choice : ℕ) → choice ≡ (digit + offset) % count → (choice + 1) % count ≡ (digit + 1 + offset) % count
next_choice digit offset count choice is =
    let more : suc (digit + offset) ≡ digit + 1 + offset = omega arith in
    ap (λ x. (x + 1) % count) is ∙ ap (λ x. x % count) (add-one ((digit + offset) % count)) ∙ sym (suc-mod (digit + offset) count) ∙ ap (λ x. x % count) more

-- the turn of n among some, by the digits from this weight on, from `own` on
pub turn_of : (weight n own count : ℕ)
    → (n / max weight 1 + own % count) % count ≡ (digits_from weight n + own) % count
turn_of zero n own count =
    let one : n / 1 ≡ n = omega arith in
    ap (λ d. (d + own % count) % count) one ∙ add-mod-mod n own count
turn_of (suc weight) n own count =
    let most : max (suc weight) 1 ≡ suc weight = omega arith in
    ap (λ w. (n / w + own % count) % count) most ∙ add-mod-mod (n / suc weight) own count
