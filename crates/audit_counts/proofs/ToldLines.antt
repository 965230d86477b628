-- The lines that are marked as having all packets arrive, line by line.
use Rattle.std.proofs.Common.{◌≡◌, ℕ, zero, suc, ◌+◌, ◌<◌, Bool, true, false, List, [], ◌∷◌, ◌++◌, length, get_or, refl, sym, ap, ◌∙◌, subst, arith, inl, inr, length-append}
use Rattle.std.specs.Prelude.{Some, slice_get, slice_index_or}
use Rattle.std.proofs.lemmas.Bool.{cases_lt}
use Rattle.std.proofs.lemmas.List.{get_or_past}
use Rattle.std.proofs.lemmas.Option.{same_Some, slice_get-get_or}
use Rattle.subnet_view.specs.Reading.{Cells}
use Rattle.held_tables.specs.declared.held.HeldLid.{HeldLid}
use Rattle.held_tables.specs.Held.{HeldPlan}
use Rattle.held_tables.specs.Tables.{lines_of}
use Rattle.audit_ways.specs.Ways.{AllComeTo, AreKnownToArrive}

last_of : (told : List Bool) (all : Bool) → slice_index_or (told ++ all ∷ []) (length told) false ≡ all
last_of [] all = refl
last_of (t ∷ told) all = last_of told all

before : (told : List Bool) (all : Bool) (k : ℕ) → k < length told → slice_index_or (told ++ all ∷ []) k false ≡ slice_index_or told k false
before [] all k less = absurd (omega arith)
before (t ∷ told) all zero less = refl
before (t ∷ told) all (suc k) less = before told all k (omega arith)

module _ (cells : Cells) (held : HeldPlan) (lines : List HeldLid) where
  -- the marks of the first lines are right
  pub record ToldSoFar (n : ℕ) (told : List Bool) : Type 0 where
    pub as_many : length told ≡ n
    pub each : (k : ℕ) (line : HeldLid) → k < n → slice_get lines k ≡ Some line → slice_index_or told k false ≡ true → AllComeTo cells held line

  pub none_told : ToldSoFar 0 []
  none_told = record { as_many = refl; each = λ k line less at is. absurd (omega arith) }

  pub told_more : (n : ℕ) (line : HeldLid) (told : List Bool) (all : Bool) → ToldSoFar n told → n < length lines → line ≡ get_or lines n line
      → (all ≡ true → AllComeTo cells held line) → ToldSoFar (n + 1) (told ++ all ∷ [])
  told_more n line told all so inside is come = record {
    as_many = (let many = so.as_many in omega (arith, length-append told (all ∷ [])));
    each = each;
  }
    where
      each : (k : ℕ) (x : HeldLid) → k < n + 1 → slice_get lines k ≡ Some x → slice_index_or (told ++ all ∷ []) k false ≡ true → AllComeTo cells held x
      each k x less at h =
          let many = so.as_many in
          elim (cases_lt k n) [
            | inl earlier ↦ so.each k x earlier at (sym (before told all k (omega arith)) ∙ h)
            | inr here ↦
                (let same : k ≡ n = omega arith in
                let own : line ≡ x =
                is ∙ same_Some (get_or lines n line) x (sym (slice_get-get_or lines n line inside) ∙ ap (slice_get lines) (sym same) ∙ at) in
                subst (AllComeTo cells held) own
                (come (sym (last_of told all) ∙ ap (λ i. slice_index_or (told ++ all ∷ []) i false) (many ∙ sym same) ∙ h)))
          ]

  pub all_told : (n : ℕ) (told : List Bool) → ToldSoFar n told → lines ≡ lines_of held → AreKnownToArrive cells held told
  all_told n told so are k line at h =
      let many = so.as_many in
      elim (cases_lt k n) [
        | inl less ↦ so.each k line less (ap (λ ls. slice_get ls k) are ∙ at) h
        | inr past ↦ (let none : slice_index_or told k false ≡ false = get_or_past told k false (omega arith) in absurd (cc))
      ]
