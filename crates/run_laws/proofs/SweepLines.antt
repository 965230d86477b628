-- What the lines `progress` and `silent` tell together.
use Rattle.std.proofs.Common.{◌≡◌, ◌<◌, ◌^◌, ℕ, Bool, true, false, List, [], ◌∷◌, ◌++◌, append_assoc, drop, get_or, refl, sym, ap, ◌∙◌, arith}
use Rattle.std.specs.Prelude.{Some, codes, decimal, if◌then◌else◌, slice_get}
use Rattle.std.specs.Option.{option_map_or}
use Rattle.std.specs.Str.Parse.{AllDigits}
use Rattle.std.proofs.lemmas.Fmt.{decimal_injective, decimal_is_IsNumeral}
use Rattle.std.proofs.lemmas.Str.Parse.{digit_from_value}
use Rattle.schedule_file.specs.declared.command.Shown.TheVariants.{Progress, Silent}
use Rattle.sweep.specs.Sweep.{IsSweep, Sweep, is_done}
use Rattle.sm_manager.specs.declared.progress.Progress.TheVariants.{Done, Running}
use Rattle.sm_manager.specs.Manager.{progress_of, silent_in}
use Rattle.manager_laws.specs.Complete.{IsWhole}
use Rattle.schedule_lines.specs.Lines.{counts_text, progress_line, silent_line, stage_text}
use Rattle.schedule_run.specs.Commands.{shown_at, shown_of}
use Rattle.schedule_run.specs.World.{SeatedValue, WorldValue}
use Rattle.run_laws.specs.Lines.{SweepLinesTell}

-- the lines of a manager in its seat
progress_shown : (w : WorldValue) (seat : ℕ) (s : SeatedValue) → slice_get w.managers seat ≡ Some s
    → shown_of w seat Progress ≡ progress_line (Some s.name) (progress_of s.manager.sweep)
unfolding shown_of
progress_shown w seat s there = ap (λ o. option_map_or (shown_at Progress) o []) there

silent_shown : (w : WorldValue) (seat : ℕ) (s : SeatedValue) → slice_get w.managers seat ≡ Some s
    → shown_of w seat Silent ≡ silent_line (Some s.name) (silent_in s.manager.sweep)
unfolding shown_of
silent_shown w seat s there = ap (λ o. option_map_or (shown_at Silent) o []) there

-- what stands behind equal beginnings
behind : (xs : List ℕ) {a b : List ℕ} → xs ++ a ≡ xs ++ b → a ≡ b
behind [] e = e
behind (x ∷ xs) e = behind xs (ap (drop 1) e)

-- digits in front of something else
digits_alike : (c : ℕ) → c < 48 → (xs ys r t : List ℕ) → AllDigits 10 xs → AllDigits 10 ys → xs ++ (c ∷ r) ≡ ys ++ (c ∷ t) → (xs ≡ ys) × (r ≡ t)
digits_alike c less [] [] r t p q e = (refl, ap (drop 1) e)
digits_alike c less [] (y ∷ ys) r t p q e =
    let digit = digit_from_value y q.0 in
    let same : c ≡ y = cc in absurd (omega (arith, digit, less, same))
digits_alike c less (x ∷ xs) [] r t p q e =
    let digit = digit_from_value x p.0 in
    let same : x ≡ c = cc in absurd (omega (arith, digit, less, same))
digits_alike c less (x ∷ xs) (y ∷ ys) r t p q e =
    let head : x ≡ y = cc in
    let later = digits_alike c less xs ys r t p.1 q.1 (ap (drop 1) e) in
    ((λ i. head i ∷ later.0 i), later.1)

digits : (n : ℕ) → n < 2 ^ 64 → AllDigits 10 (decimal n)
digits n few = (decimal_is_IsNumeral n few).0.1

-- what stands behind the name
stage_alike : (name stage other : List ℕ) → (name ++ stage) ++ codes "\n" ≡ (name ++ other) ++ codes "\n" → stage ++ codes "\n" ≡ other ++ codes "\n"
stage_alike name stage other e = behind name (sym (append_assoc name stage (codes "\n")) ∙ e ∙ append_assoc name other (codes "\n"))

-- a number at the end of a line
last_alike : (a b : ℕ) → a < 2 ^ 64 → b < 2 ^ 64 → decimal a ++ codes "\n" ≡ decimal b ++ codes "\n" → a ≡ b
last_alike a b few_a few_b e =
    decimal_injective a b few_a few_b (digits_alike 10 (omega arith) (decimal a) (decimal b) [] [] (digits a few_a) (digits b few_b) e).0

too_far_behind : (a b : ℕ) → (decimal a ++ (codes " toofar " ++ decimal b)) ++ codes "\n" ≡ decimal a ++ (32 ∷ (codes "toofar " ++ (decimal b ++ codes "\n")))
too_far_behind a b = append_assoc (decimal a) (codes " toofar " ++ decimal b) (codes "\n")

counts_alike : (a b u v : ℕ) → a < 2 ^ 64 → b < 2 ^ 64 → u < 2 ^ 64 → v < 2 ^ 64
    → counts_text a b ++ codes "\n" ≡ counts_text u v ++ codes "\n" → (a ≡ u) × (b ≡ v)
unfolding counts_text
counts_alike a b u v few_a few_b few_u few_v e =
    let line = sym (too_far_behind a b) ∙ ap (drop 12) e ∙ too_far_behind u v in
    let both = digits_alike 32 (omega arith) (decimal a) (decimal u) (codes "toofar " ++ (decimal b ++ codes "\n"))
    (codes "toofar " ++ (decimal v ++ codes "\n")) (digits a few_a) (digits u few_u) line in
    (decimal_injective a u few_a few_u both.0, last_alike b v few_b few_v (ap (drop 7) both.1))

-- a line of a sweep that is done
done_alike : (name : List ℕ) (a b u v : ℕ) → a < 2 ^ 64 → b < 2 ^ 64 → u < 2 ^ 64 → v < 2 ^ 64
    → progress_line (Some name) (Done a b) ≡ progress_line (Some name) (Done u v) → (a ≡ u) × (b ≡ v)
done_alike name a b u v few_a few_b few_u few_v e =
    counts_alike a b u v few_a few_b few_u few_v
    (ap (drop 5) (stage_alike name (stage_text (Done a b)) (stage_text (Done u v)) (ap (drop 9) e)))

never_running : (name : List ℕ) (a b u v : ℕ) → progress_line (Some name) (Running a b) ≡ progress_line (Some name) (Done u v) → ⊥
never_running name a b u v e =
    let letter : 114 ≡ 100 =
    ap (λ l. get_or l 1 0) (stage_alike name (stage_text (Running a b)) (stage_text (Done u v)) (ap (drop 9) e)) in omega (arith, letter)

silent_alike : (name : List ℕ) (a b : ℕ) → a < 2 ^ 64 → b < 2 ^ 64 → silent_line (Some name) (Some a) ≡ silent_line (Some name) (Some b) → a ≡ b
silent_alike name a b few_a few_b e =
    last_alike a b few_a few_b (ap (drop 1) (stage_alike name (codes " " ++ decimal a) (codes " " ++ decimal b) (ap (drop 7) e)))

module _ (name : List ℕ) (s : Sweep) (is : IsSweep s) where
  abbrev stage : Bool → List ℕ
  stage done = progress_line (Some name) (if done then Done s.unanswered s.too_far else Running s.unanswered s.too_far)

  few_unanswered : s.unanswered < 2 ^ 64
  few_unanswered = omega (arith, is.counted, is.next)

  few_far : s.too_far < 2 ^ 64
  few_far = omega (arith, is.counted, is.next)

  few_silent : s.silent_managers < 2 ^ 64
  few_silent = omega (arith, is.silent, few_unanswered)

  whole_by : (done : Bool) → is_done s ≡ done → (u : ℕ) → u < 2 ^ 64 → stage done ≡ progress_line (Some name) (Done u 0)
      → silent_line (Some name) (Some s.silent_managers) ≡ silent_line (Some name) (Some u) → IsWhole s
  whole_by true h u few e f =
      let counts = done_alike name s.unanswered s.too_far u 0 few_unanswered few_far few (omega arith) e in
      record {
        done = h;
        answered = counts.0 ∙ sym (silent_alike name s.silent_managers u few_silent few f);
        near = counts.1;
      }
  whole_by false h u few e f = absurd (never_running name s.unanswered s.too_far u 0 e)

pub sweep_lines_tell : SweepLinesTell
sweep_lines_tell w seat s sweep there last is =
    let progress = progress_shown w seat s there ∙ ap (λ o. progress_line (Some s.name) (progress_of o)) last in
    let silent = silent_shown w seat s there ∙ ap (λ o. silent_line (Some s.name) (silent_in o)) last in (
      (λ said. (
          let lines = said.1 in
          whole_by s.name sweep is (is_done sweep) refl said.0 lines.few (sym progress ∙ lines.progress) (sym silent ∙ lines.silent))),
      (λ whole. (
        sweep.unanswered,
        record {
          few = few_unanswered s.name sweep is;
          progress = progress ∙ (λ i. progress_line (Some s.name) (if whole.done i then Done sweep.unanswered (whole.near i)
              else Running sweep.unanswered sweep.too_far));
          silent = silent ∙ ap (λ n. silent_line (Some s.name) (Some n)) (sym whole.answered);
        },
      )),
    )
