-- Marks on numbers: what is marked of a range, and one more mark.
use Rattle.std.proofs.Common.{◌≡◌, ◌<◌, ◌≤◌, ◌+◌, ℕ, List, inl, inr, refl, sym, ap, ◌∙◌, arith, Bool, true, false, ◌||◌, length, get_or, set}
use Rattle.std.proofs.lemmas.Bool.{both_ways, cases_eq, false_from_ne_true, or_cases, or_left, or_right}
use Rattle.std.specs.Cmp.{both_ways as same_tests}
use Rattle.std.proofs.lemmas.List.{length-set, get_or-set_same, get_or-set_other}
use Rattle.std.specs.Prelude.{None, Some}
use Rattle.subnet_view.proofs.Members.{list_any_true, list_any_at}
use Rattle.lid_assign.specs.Ranges.{Range, is_in, IsIn}
use Rattle.lid_assign.specs.Lids.{count_up}
use Rattle.lid_assign.specs.LidMarks.{is_marked, any_marked, from_on, AreMarkedMore}
use Rattle.lid_assign.proofs.Ranges.{in_from_test, test_from_in}
use Rattle.lid_assign.proofs.Rising.{within-count_up, contains-count_up}

-- a marked number of a range
module _ (marks : List Bool) (r : Range) where
  pub marked_at : (n : ℕ) → r.first ≤ n → n < r.first + r.width → is_marked marks n ≡ true → any_marked marks r ≡ true
  marked_at n low high e = list_any_true (is_marked marks) (count_up r.first r.width) n (contains-count_up r.first r.width n low high) e

  pub at_marked : any_marked marks r ≡ true → (n : ℕ) × IsIn r n × (is_marked marks n ≡ true)
  at_marked e =
      let x = list_any_at (is_marked marks) (count_up r.first r.width) e in
      (x.0, within-count_up r.first r.width x.0 x.1, x.2)

  pub none_marked : ((n : ℕ) → r.first ≤ n → n < r.first + r.width → is_marked marks n ≡ false) → any_marked marks r ≡ false
  none_marked none = false_from_ne_true _ (λ e. let x = at_marked e in both_ways _ (none x.0 x.1.0 x.1.1) x.2)

  pub not_marked : any_marked marks r ≡ false → (n : ℕ) → IsIn r n → is_marked marks n ≡ false
  not_marked none n i = false_from_ne_true _ (λ e. both_ways _ none (marked_at n i.0 i.1 e))

-- no more marks
pub same_marks : (old : List Bool) → AreMarkedMore None old old
same_marks old = record { all = refl; each = λ n h. refl }

pub no_mark : (old : List Bool) (first : ℕ) → AreMarkedMore (Some (from_on 0 first)) old old
no_mark old first =
    record {
      all = refl;
      each = λ n h. same_tests (is_marked old n) (is_in (from_on 0 first) n || is_marked old n) (or_right (is_in (from_on 0 first) n) (is_marked old n))
          (λ e. (elim (or_cases (is_in (from_on 0 first) n) (is_marked old n) e) [
            | inl i ↦ let p = in_from_test (from_on 0 first) n i in absurd (omega (arith, p.0, p.1))
            | inr m ↦ m
          ]));
    }

-- one mark more
pub mark_more : (old new : List Bool) (first width : ℕ) → first + width < length old → AreMarkedMore (Some (from_on width first)) old new
    → AreMarkedMore (Some (from_on (width + 1) first)) old (set new (first + width) true)
mark_more old new first width h m =
    record {
      all = length-set new (first + width) true ∙ m.all;
      each = λ n l. same_tests (get_or (set new (first + width) true) n false) (is_in (from_on (width + 1) first) n
          || is_marked old n) (λ e. to n l e) (λ e. from n l e);
    }
  where
    to : (n : ℕ) → n < length old → get_or (set new (first + width) true) n false ≡ true → (is_in (from_on (width + 1) first) n || is_marked old n) ≡ true
    to n l e =
        elim (cases_eq n (first + width)) [
          | inl q ↦ or_left (is_in (from_on (width + 1) first) n) (is_marked old n)
              (test_from_in (from_on (width + 1) first) n (omega (arith, q), omega (arith, q)))
          | inr d ↦ (elim (or_cases (is_in (from_on width first) n) (is_marked old n) (sym (m.each n l)
              ∙ sym (get_or-set_other new (first + width) n true false d) ∙ e)) [
                | inl i ↦
                    let p = in_from_test (from_on width first) n i in
                    or_left (is_in (from_on (width + 1) first) n) (is_marked old n) (test_from_in (from_on (width + 1) first) n (p.0, omega (arith, p.1)))
                | inr k ↦ or_right (is_in (from_on (width + 1) first) n) (is_marked old n) k
              ])
        ]

    from : (n : ℕ) → n < length old → (is_in (from_on (width + 1) first) n || is_marked old n) ≡ true → get_or (set new (first + width) true) n false ≡ true
    from n l e =
        elim (cases_eq n (first + width)) [
          | inl q ↦ ap (λ k. get_or (set new (first + width) true) k false) q ∙ get_or-set_same new (first + width) true false (omega (arith, m.all, h))
          | inr d ↦ get_or-set_other new (first + width) n true false d ∙ m.each n l
              ∙ (elim (or_cases (is_in (from_on (width + 1) first) n) (is_marked old n) e) [
                | inl i ↦
                    let p = in_from_test (from_on (width + 1) first) n i in
                    or_left (is_in (from_on width first) n) (is_marked old n) (test_from_in (from_on width first) n (p.0, omega (arith, p.1, d)))
                | inr k ↦ or_right (is_in (from_on width first) n) (is_marked old n) k
              ])
        ]
