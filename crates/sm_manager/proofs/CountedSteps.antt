-- How many of the waiting requests, and of the steps still to be sent, count.
use Rattle.std.proofs.Common.{◌≡◌, ◌≤◌, ◌+◌, ℕ, suc, Bool, true, false, cond, List, [], ◌∷◌, ◌++◌, length, refl, sym, ap, ◌∙◌, subst, arith}
use Rattle.std.proofs.lemmas.Bool.{cond_both, eq-eqb, eqb-true}
use Rattle.std.proofs.lemmas.List.{length-append}
use Rattle.std.proofs.lemmas.List.Elements.{filter-append}
use Rattle.std.proofs.lemmas.Option.{slice_get-get_or}
use Rattle.std.specs.Prelude.{◌==◌, ◌||◌, Contains, Some, drop, filter, remove, slice_get}
use Rattle.std.specs.List.{AllByRecursion, list_any}
use Rattle.request_table.specs.Numbers.{AreRising}
use Rattle.request_table.proofs.Numbers.{rising_least, rising_ordered, without_at}
use Rattle.plan_steps.specs.declared.step.Step.{Step}
use Rattle.plan_steps.specs.Phase.{Phase}
use Rattle.sm_manager.specs.declared.pending.Pending.{Pending}
use Rattle.sm_manager.specs.declared.pending.Purpose.{Purpose}
use Rattle.sm_manager.specs.declared.pending.Purpose.TheVariants as purpose
use Rattle.sm_manager.specs.StepsAnswered.{counting_in, one_if}
use Rattle.sm_manager.specs.CallLists.{Poll}
use Rattle.sm_manager.specs.ManagerRequests.{counts, how_many, is_step, without_number}
use Rattle.sm_manager.specs.Writing.{next_phase, numbered, without_empty_phases}
use Rattle.sm_manager.proofs.Numbers as numbers
use Rattle.sm_manager.proofs.Numbers.{many_without}

-- requests that wait ----------------------------------------------------------------------------------

abbrev pub Rising : ℕ → List Pending → Type 0
Rising counter pending = AreRising (λ (p : Pending). p.number) 0 pending counter

pub same_one : (b : Bool) → numbers.one_if b ≡ one_if b
same_one true = refl
same_one false = refl

pub many_both : (ps qs : List Pending) → how_many counts (ps ++ qs) ≡ how_many counts ps + how_many counts qs
many_both ps qs = ap length (filter-append counts ps qs) ∙ length-append (filter counts ps) (filter counts qs)

-- the steps of a phase
pub many_numbered : (c : Bool) (n : ℕ) (steps : List Step) → how_many counts (numbered c n steps) ≡ cond c (length steps) 0
many_numbered true n [] = refl
many_numbered true n (s ∷ steps) = ap suc (many_numbered true (suc n) steps)
many_numbered false n [] = refl
many_numbered false n (s ∷ steps) = many_numbered false (suc n) steps

pub rising_phase : (c : Bool) (n : ℕ) (steps : List Step) → AreRising (λ (p : Pending). p.number) n (numbered c n steps) (n + length steps)
rising_phase c n [] = omega arith
rising_phase c n (s ∷ steps) =
    let one : suc n ≡ n + 1 = omega arith in
    let all : suc n + length steps ≡ n + suc (length steps) = omega arith in (
      omega arith,
      subst (λ k. AreRising (λ (p : Pending). p.number) k (numbered c (suc n) steps) (n + suc (length steps))) one
          (subst (λ k. AreRising (λ (p : Pending). p.number) (suc n) (numbered c (suc n) steps) k) all (rising_phase c (suc n) steps)),
    )

-- fewer rise too
pub rising_filtered : (test : Pending → Bool) (least : ℕ) (ps : List Pending) (next : ℕ) → AreRising (λ (p : Pending). p.number) least ps next
    → AreRising (λ (p : Pending). p.number) least (filter test ps) next
rising_filtered test least [] next rising = rising
rising_filtered test least (p ∷ ps) next rising =
    let rest = rising_filtered test (p.number + 1) ps next rising.1 in
    cond_both (test p) (p ∷ filter test ps) (filter test ps) (λ xs. AreRising (λ (q : Pending). q.number) least xs next) (λ _. (rising.0, rest))
    (λ _. let low = rising.0 in rising_least (λ (q : Pending). q.number) least (p.number + 1) (filter test ps) next (omega (arith, low)) rest)

-- one that waits is over
pub many_over : (counter : ℕ) (ps : List Pending) (p : Pending) → Rising counter ps → Contains ps p
    → how_many counts (without_number p.number ps) + one_if (counts p) ≡ how_many counts ps
many_over counter ps p rising (i, within, is) =
    let at : slice_get ps i ≡ Some p = slice_get-get_or ps i p within ∙ ap (λ (x : Pending). Some x) is in
    let gone : without_number p.number ps ≡ remove ps i =
    without_at (λ (q : Pending). q.number) ps i p (rising_ordered (λ (q : Pending). q.number) 0 ps counter rising) at in
    let less = many_without counts ps i p at in
    let same = same_one (counts p) in
    let left = ap (how_many counts) gone in
    omega (arith, less, same, left)

-- if no step waits, no step that counts does
pub counts_is_step : (p : Pending) → counts p ≡ true → is_step p ≡ true
counts_is_step p e = by_purpose p.purpose e
  where
    by_purpose : (u : Purpose) → counts (record p { purpose = u }) ≡ true → is_step (record p { purpose = u }) ≡ true
    by_purpose purpose.Poll h = absurd (cc)
    by_purpose purpose.Control h = absurd (cc)
    by_purpose (purpose.Step c) h = refl

pub fewer_count : (ps : List Pending) → how_many counts ps ≤ how_many is_step ps
fewer_count [] = omega arith
fewer_count (p ∷ ps) = by_tests (counts p) (is_step p) (counts_is_step p) (fewer_count ps)
  where
    by_tests : (c s : Bool) → (c ≡ true → s ≡ true) → how_many counts ps ≤ how_many is_step ps
        → length (cond c (p ∷ filter counts ps) (filter counts ps)) ≤ length (cond s (p ∷ filter is_step ps) (filter is_step ps))
    by_tests true true h rest = omega (arith, rest)
    by_tests true false h rest = absurd (cc (h refl))
    by_tests false true h rest = omega (arith, rest)
    by_tests false false h rest = rest

-- phases -----------------------------------------------------------------------------------------------

-- the phases that count come first
abbrev pub CountFirst : List Phase → Type 0
CountFirst [] = Unit {0}
CountFirst (p ∷ phases) = (p.counts ≡ false → AllByRecursion (λ (q : Phase). q.counts ≡ false) phases) × CountFirst phases

-- the first of them has steps
abbrev pub StartsWithSteps : List Phase → Type 0
StartsWithSteps [] = Unit {0}
StartsWithSteps (p ∷ phases) = (length p.steps == 0) ≡ false

pub drop_keeps : (phases : List Phase) → CountFirst phases → CountFirst (drop 1 phases)
drop_keeps [] first = tt
drop_keeps (p ∷ phases) first = first.1

pub passed_keeps : (phases : List Phase) → CountFirst phases → CountFirst (without_empty_phases phases)
passed_keeps [] first = tt
passed_keeps (p ∷ phases) first =
    cond_both (length p.steps == 0) (without_empty_phases phases) (p ∷ phases) CountFirst (λ _. passed_keeps phases first.1) (λ _. first)

pub passed_starts : (phases : List Phase) → StartsWithSteps (without_empty_phases phases)
passed_starts [] = tt
passed_starts (p ∷ phases) = cond_both (length p.steps == 0) (without_empty_phases phases) (p ∷ phases) StartsWithSteps (λ _. passed_starts phases) (λ e. e)

pub passed_counting : (phases : List Phase) → counting_in (without_empty_phases phases) ≡ counting_in phases
passed_counting [] = refl
passed_counting (p ∷ phases) =
    cond_both (length p.steps == 0) (without_empty_phases phases) (p ∷ phases) (λ xs. counting_in xs ≡ counting_in (p ∷ phases))
    (λ e. passed_counting phases ∙ none p.counts (eqb-true _ _ e)) (λ _. refl)
  where
    none : (c : Bool) → length p.steps ≡ 0 → counting_in phases ≡ cond c (length p.steps) 0 + counting_in phases
    none true e = omega (arith, e)
    none false e = omega arith

pub first_counting : (phases : List Phase) → cond (next_phase phases).counts (length (next_phase phases).steps) 0 + counting_in (drop 1 phases) ≡ counting_in phases
first_counting [] = refl
first_counting (p ∷ phases) = refl

-- if no step that counts is left, no phase that counts is
pub none_left : (phases : List Phase) → AllByRecursion (λ (q : Phase). q.counts ≡ false) phases → list_any (λ (p : Phase). p.counts) phases ≡ false
none_left [] none = refl
none_left (p ∷ phases) none = ap (λ b. b || list_any (λ (q : Phase). q.counts) phases) none.0 ∙ none_left phases none.1

pub no_phase_left : (phases : List Phase) → CountFirst phases → StartsWithSteps phases → counting_in phases ≡ 0 → list_any (λ (p : Phase). p.counts) phases ≡ false
no_phase_left [] first starts e = refl
no_phase_left (p ∷ phases) first starts e = by_counts p.counts refl
  where
    by_counts : (c : Bool) → p.counts ≡ c → list_any (λ (q : Phase). q.counts) (p ∷ phases) ≡ false
    by_counts false is = none_left (p ∷ phases) (is, first.0 is)
    by_counts true is =
        let some = ap (λ b. cond b (length p.steps) 0 + counting_in phases) is in
        let zero_steps : length p.steps ≡ 0 = omega (arith, some, e) in
        absurd (cc (sym (eq-eqb (length p.steps) 0 zero_steps) ∙ starts))

pub none_counting : (phases : List Phase) → list_any (λ (p : Phase). p.counts) phases ≡ false → counting_in phases ≡ 0
none_counting [] e = refl
none_counting (p ∷ phases) e = by_counts p.counts refl (none_counting phases)
  where
    by_counts : (c : Bool) → p.counts ≡ c → (list_any (λ (q : Phase). q.counts) phases ≡ false → counting_in phases ≡ 0) → counting_in (p ∷ phases) ≡ 0
    by_counts true is none_of = absurd (cc (sym (ap (λ b. b || list_any (λ (q : Phase). q.counts) phases) is) ∙ e))
    by_counts false is none_of =
        let rest : list_any (λ (q : Phase). q.counts) phases ≡ false = sym (ap (λ b. b || list_any (λ (q : Phase). q.counts) phases) is) ∙ e in
        let none = none_of rest in
        let here = ap (λ b. cond b (length p.steps) 0 + counting_in phases) is in
        omega (arith, here, none)
