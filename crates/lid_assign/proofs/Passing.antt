-- Numbers that are passed: none of them is open again, since marks are only set.
use Rattle.std.proofs.Common.{◌≡◌, ◌<◌, ◌≤◌, ◌+◌, ◌*◌, ◌/◌, ◌%◌, ◌^◌, ℕ, List, inl, inr, sym, ap, ◌∙◌, subst, arith, Bool, true, false, ◌||◌, length}
use Rattle.std.proofs.lemmas.Bool.{both_ways, cases_eq, cases_lt, or_parts}
use Rattle.std.proofs.lemmas.Nat.{mod-mul-add, pow_pos}
use Rattle.std.specs.Prelude.{Option, Some}
use Rattle.lid_assign.specs.declared.hand_out.Next.{Next}
use Rattle.lid_assign.specs.Ranges.{Range, fits, Fits}
use Rattle.lid_assign.specs.LidMarks.{is_marked, any_marked, from_on, is_in_some, AreMarkedMore, IsUnmarked, NoneUnmarked, IsLeastUnmarked, IsPassed, ArePassed}
use Rattle.lid_assign.proofs.Marking.{marked_at, none_marked, not_marked}
use Rattle.lid_assign.proofs.Ranges.{fits_from_test, test_from_fits, multiples_apart, test_from_in}

-- the next multiple
pub next_multiple : (n w : ℕ) → 1 ≤ w → n % w ≡ 0 → (n + w) % w ≡ 0
next_multiple n w some h =
    let q : ℕ = n / w in
    let is : n + w ≡ (n / w + 1) * w + 0 = omega (arith, h) in
    ap (λ m. m % w) is ∙ mod-mul-add (n / w + 1) w 0 (omega arith)

module _ (marks : List Bool) (w : ℕ) where
  pub unmarked_fits : (c : ℕ) → IsUnmarked marks w c → Fits (length marks) (from_on w c)
  unmarked_fits c u = fits_from_test (length marks) (from_on w c) u.is_fit

  -- past a multiple of the width that is marked
  pub past_marked : (low next : ℕ) → 1 ≤ w → next % w ≡ 0 → any_marked marks (from_on w next) ≡ true → NoneUnmarked marks w low next
      → NoneUnmarked marks w low (next + w)
  past_marked low next some aligned marked none c l h u =
      elim (cases_lt c next) [
        | inl m ↦ none c l m u
        | inr m ↦ (elim (cases_eq c next) [
          | inl q ↦ both_ways (any_marked marks (from_on w next)) (ap (λ n. any_marked marks (from_on w n)) (sym q) ∙ u.is_open) marked
          | inr d ↦ omega (arith, multiples_apart w next c some aligned (unmarked_fits c u).aligned (omega (arith, m, d)), h)
        ])
      ]

  -- where no room is left for one more
  pub past_all : (low next : ℕ) → length marks < next + w → NoneUnmarked marks w low next → NoneUnmarked marks w low (length marks)
  past_all low next end none c l h u = elim (cases_lt c next) [ inl m ↦ none c l m u | inr m ↦ omega (arith, (unmarked_fits c u).in_room, m, end) ]

  -- the first that is not marked
  pub first_unmarked : (low next : ℕ) → low ≤ next → 1 ≤ next → next % w ≡ 0 → next + w ≤ length marks → any_marked marks (from_on w next) ≡ false
      → NoneUnmarked marks w low next
      → IsLeastUnmarked marks w low next
  first_unmarked low next l some aligned within no_mark none =
      record {
        unmarked_there =
            record {
              is_fit = test_from_fits (length marks) (from_on w next) (record { not_0 = some; aligned = aligned; in_room = within });
              is_open =
                  no_mark;
            };
        from_low = l;
        none_before = none;
      }

  -- from 0 on, where all before were passed
  pub from_0 : (next high : ℕ) → NoneUnmarked marks w 0 next → NoneUnmarked marks w next high → NoneUnmarked marks w 0 high
  from_0 next high passed none c l h u = elim (cases_lt c next) [ inl m ↦ passed c l m u | inr m ↦ none c m h u ]

  pub least_from_0 : (next c : ℕ) → NoneUnmarked marks w 0 next → IsLeastUnmarked marks w next c → IsLeastUnmarked marks w 0 c
  least_from_0 next c passed l = record { unmarked_there = l.unmarked_there; from_low = omega arith; none_before = from_0 next c passed l.none_before }

module _ (r : Option Range) (old new : List Bool) (m : AreMarkedMore r old new) where
  -- what has no mark had none
  pub was_unmarked : (w c : ℕ) → IsUnmarked new w c → IsUnmarked old w c
  was_unmarked w c u =
      let f = unmarked_fits new w c u in
      record {
        is_fit = ap (λ n. fits n (from_on w c)) (sym m.all) ∙ u.is_fit;
        is_open = none_marked old (from_on w c) (λ n low high.
            (or_parts (is_in_some r n) (is_marked old n) (sym (m.each n (omega (arith, high, f.in_room, m.all)))
            ∙ not_marked new (from_on w c) u.is_open n (low, high))).1);
      }

  pub still_passed : (w next : ℕ) → IsPassed old w next → IsPassed new w next
  still_passed w next p =
      record { aligned = p.aligned; not_0 = p.not_0; near = omega (arith, p.near, m.all); none_before = λ c l h u. p.none_before c l h (was_unmarked w c u) }

-- the range that was found is passed once it is marked
pub passed_found : (old new : List Bool) (w c : ℕ) → 1 ≤ w → AreMarkedMore (Some (from_on w c)) old new → IsLeastUnmarked old w 0 c → IsPassed new w (c + w)
passed_found old new w c some m l =
    let f = unmarked_fits old w c l.unmarked_there in
    let here : any_marked new (from_on w c) ≡ true = marked_at new (from_on w c) c (omega arith) (omega arith)
    (m.each c (omega (arith, f.in_room, some)) ∙ ap (λ t. t || is_marked old c) (test_from_in (from_on w c) c (omega arith, omega (arith, some)))) in
    record {
      aligned = next_multiple c w some f.aligned;
      not_0 = omega (arith, f.not_0);
      near = omega (arith, f.in_room, m.all);
      none_before = past_marked new w 0 c some f.aligned here (λ d a b u. l.none_before d a b (was_unmarked (Some (from_on w c)) old new m w d u));
    }

-- at the start the least multiples are next
passed_start : (marks : List Bool) (w : ℕ) → 1 ≤ w → IsPassed marks w w
passed_start marks w some =
    record {
      aligned = zero_of w some;
      not_0 = some;
      near = omega arith;
      none_before = λ c l h u.
          let f = unmarked_fits marks w c u in
          omega (arith, multiples_apart w 0 c some (least w some) f.aligned (omega (arith, f.not_0)), h);
    }
  where
    zero_of : (w : ℕ) → 1 ≤ w → w % w ≡ 0
    zero_of w some = let is : w ≡ 1 * w + 0 = omega arith in ap (λ m. m % w) is ∙ mod-mul-add 1 w 0 (omega arith)

    least : (w : ℕ) → 1 ≤ w → 0 % w ≡ 0
    least w some = let is : 0 ≡ 0 * w + 0 = omega arith in ap (λ m. m % w) is ∙ mod-mul-add 0 w 0 (omega arith)

pub all_passed_start : (lmc : ℕ) (marks : List Bool) (next : Next) → next ≡ record { switch = 1; adapter = 2 ^ lmc } → ArePassed lmc marks next
all_passed_start lmc marks next is =
    subst (λ (n : Next). ArePassed lmc marks n) (sym is) (record {
      switches = passed_start marks 1 (omega arith);
      adapters =
          passed_start marks (2 ^ lmc) (omega (arith, pow_pos lmc));
    })
