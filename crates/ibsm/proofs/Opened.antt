-- Files that are opened one after another.
use Rattle.std.proofs.Common.{◌≡◌, ℕ, ◌+◌, ◌<◌, ◌≤◌, Bool, true, false, List, [], ◌∷◌, ◌++◌, Option, Some, Result, Ok, Err, length, length-append, get_or, refl, sym, ap, ◌∙◌, subst, inl, inr, arith}
use Rattle.std.proofs.lemmas.Bool.{ltb-true, ltb-false}
use Rattle.std.proofs.lemmas.Option.{slice_get-get_or}
use Rattle.std.specs.Prelude.{is_err, is_ok, nat_lt, slice_get, if◌then◌else◌}
use Rattle.std.specs.Borrow.{Bor}
use Rattle.sm_cli.proofs.Runs.{front_of_more, last_of_more}
use Rattle.ibsm.specs.Opening.{AreOpened, AreThere, IsThere, WasRefusedMemory}
use Rattle.ibsm.specs.declared.opener.OpenFault.{OpenFault}
use Rattle.ibsm.specs.declared.opener.OpenFault.TheVariants.{Memory}

-- so many files were opened by the first names
pub record FirstAreOpened {S : Type 0} (answers : List ℕ → Result S OpenFault
    → Type 0) (names : List (Bor (List ℕ))) (input : ℕ) (files : List S) : Type 0 where
  pub one_each : length files ≡ input
  pub opened : (k : ℕ) (name : Bor (List ℕ)) (file : S) → slice_get names k ≡ Some name → slice_get files k ≡ Some file → answers name.now (Ok file)

-- or memory was refused for one of them
abbrev pub AreHeld : {S : Type 0} → (List ℕ → Result S OpenFault → Type 0) → List (Bor (List ℕ)) → Bool → ℕ → List S → Type 0
AreHeld answers names true input files = FirstAreOpened answers names input files
AreHeld answers names false input files = WasRefusedMemory answers names

-- the first names were asked for
pub record HaveAsked {S : Type 0} (answers : List ℕ → Result S OpenFault
    → Type 0) (names : List (Bor (List ℕ))) (has_memory : Bool) (input : ℕ) (files : List S) : Type 0 where
  pub there : AreThere answers names input
  pub held : AreHeld answers names has_memory input files

one_name : (o : Option (Bor (List ℕ))) (x y : Bor (List ℕ)) → o ≡ Some x → o ≡ Some y → x ≡ y
one_name o x y e f = cc

there_more : {S : Type 0} (answers : List ℕ → Result S OpenFault → Type 0) (names : List (Bor (List ℕ))) (input : ℕ) (name : Bor (List ℕ))
    → slice_get names input ≡ Some name → AreThere answers names input → IsThere (answers name.now) → AreThere answers names (input + 1)
there_more answers names input name at before here k n within e =
    elim (nat_lt k input) as (λ t. nat_lt k input ≡ t → IsThere (answers n.now)) [
      | true ↦ λ p. before k n (ltb-true _ _ p) e
      | false ↦ λ p.
          let above : input ≤ k = ltb-false _ _ p in
          let same : input ≡ k = omega arith in
          subst (λ (x : Bor (List ℕ)). IsThere (answers x.now)) (one_name _ name n (ap (slice_get names) (sym same) ∙ at) e) here
    ] refl

held_more : {S : Type 0} (answers : List ℕ → Result S OpenFault → Type 0) (names : List (Bor (List ℕ))) (has_memory : Bool) (input : ℕ) (files : List S)
    (name : Bor (List ℕ)) (file : S) → slice_get names input ≡ Some name → answers name.now (Ok file)
    → AreHeld answers names has_memory input files → AreHeld answers names has_memory (input + 1) (files ++ file ∷ [])
held_more answers names false input files name file at opened held = held
held_more {S} answers names true input files name file at opened held = record {
  one_each = length-append files (file ∷ []) ∙ ap (λ n. n + 1) held.one_each;
  opened = λ k n f e there. (elim (nat_lt k (length files)) as (λ t. nat_lt k (length files) ≡ t → answers n.now (Ok f)) [
    | true ↦ λ p. held.opened k n f e (sym (front_of_more files file k (ltb-true _ _ p)) ∙ there)
    | false ↦ λ p.
        let last = last_of_more files file k (ltb-false _ _ p) f there in
        let same : input ≡ k = sym (last.0 ∙ held.one_each) in
        let Answered : S → Type 0 = λ s. answers n.now (Ok s) in
        let Named : Bor (List ℕ) → Type 0 = λ x. answers x.now (Ok file) in
        subst Answered last.1 (subst Named (one_name _ name n (ap (slice_get names) (sym same) ∙ at) e) opened)
  ] refl);
}

-- one more was opened
pub opened_more : {S : Type 0} (answers : List ℕ → Result S OpenFault
    → Type 0) (names : List (Bor (List ℕ))) (has_memory has_memory' : Bool) (input : ℕ) (files files' : List S)
    (d : Bor (List ℕ)) (file : S) → input < length names → has_memory' ≡ has_memory → answers (get_or names input d).now (Ok file) → files' ≡ files ++ file ∷ []
    → HaveAsked answers names has_memory input files → HaveAsked answers names has_memory' (input + 1) files'
opened_more {S} answers names has_memory has_memory' input files files' d file within e opened f h =
    let at : slice_get names input ≡ Some (get_or names input d) = slice_get-get_or names input d within in
    let Held : Bool → Type 0 = λ b. AreHeld answers names b (input + 1) files' in
    let More : List S → Type 0 = λ fs. AreHeld answers names has_memory (input + 1) fs in
    record {
      there = there_more answers names input (get_or names input d) at h.there (inl (file, opened));
      held = subst Held (sym e) (subst More (sym f) (held_more answers names has_memory input files (get_or names input d) file at opened h.held));
    }

-- or memory was refused for one more
pub refused_more : {S : Type 0} (answers : List ℕ → Result S OpenFault
    → Type 0) (names : List (Bor (List ℕ))) (has_memory has_memory' : Bool) (input : ℕ) (files files' : List S)
    (d : Bor (List ℕ)) (fault : OpenFault) → input < length names → has_memory' ≡ false → fault ≡ Memory → answers (get_or names input d).now (Err fault)
    → HaveAsked answers names has_memory input files → HaveAsked answers names has_memory' (input + 1) files'
refused_more {S} answers names has_memory has_memory' input files files' d fault within e f refused h =
    let at : slice_get names input ≡ Some (get_or names input d) = slice_get-get_or names input d within in
    let Held : Bool → Type 0 = λ b. AreHeld answers names b (input + 1) files' in
    let Answered : OpenFault → Type 0 = λ x. answers (get_or names input d).now (Err x) in
    let memory : answers (get_or names input d).now (Err Memory) = subst Answered f refused in
    record {
      there = there_more answers names input (get_or names input d) at h.there (inr memory);
      held = subst Held (sym e) (record { input = input; name = get_or names input d; there = at; refused = memory });
    }

pub all_opened : {S : Type 0} (answers : List ℕ → Result S OpenFault → Type 0) (names : List (Bor (List ℕ))) (files : List S)
    → HaveAsked answers names true (length names) files → AreOpened answers names files
all_opened answers names files h = record { one_each = h.held.one_each; opened = h.held.opened }

-- an element was pushed
pub pushed : {X E : Type 0} (r : Result (Unit {0}) E) (xs ys : List X) (x : X) → ys ≡ (if is_ok r then xs ++ x ∷ [] else xs) → is_err r ≡ false → ys ≡ xs ++ x
    ∷ []
pushed (Ok u) xs ys x e h = e
pushed (Err fault) xs ys x e h = absurd (cc)
