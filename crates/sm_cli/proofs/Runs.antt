-- What a run over files reads, file after file.
use Rattle.std.proofs.Common.{◌≡◌, ℕ, zero, suc, ◌+◌, ◌<◌, ◌≤◌, List, [], ◌∷◌, ◌++◌, refl, sym, ap, ◌∙◌, arith, true, false, Bool, Option, None, Some, Result}
use Rattle.std.proofs.Common.{Ok, Err, IsTrue, ◌↔◌, subst, length, inl, inr}
use Rattle.std.proofs.Math.ListN.{set, length-set}
use Rattle.std.proofs.lemmas.Bool.{ltb-true, ltb-false}
use Rattle.std.proofs.lemmas.List.{get_or-set_same, flat_map_more}
use Rattle.std.proofs.lemmas.Option.{slice_get-get_or}
use Rattle.std.specs.Prelude.{max, nat_lt, IfSome, slice_get}
use Rattle.std.specs.List.{flat_map}
use Rattle.byte_io.specs.Source.{SourceState}
use Rattle.fact_store.specs.Seen.{seen}
use Rattle.fact_store.specs.View.{Facts, raised, view_at, no_facts}
use Rattle.fact_store.specs.Merge.{merge}
use Rattle.fact_store.proofs.Merges.{at_same_floor, merge_empty}
use Rattle.fact_store.proofs.Views.{raising_forgets, view_of_both}
use Rattle.record_file.specs.Absorbs.{Absorbs, AnswersKnown, HasNoFaultYet, HoldsKept}
use Rattle.record_file.specs.Reading.{ending, facts_in, fault_first, fault_in, floor_in, kept, outcome, outcome_as}
use Rattle.record_file.specs.Head.{format_in}
use Rattle.record_file.specs.declared.file_fault.FileFault.{FileFault}
use Rattle.record_file.specs.declared.file_fault.FileFault.TheVariants.{Memory, Read}
use Rattle.sm_cli.specs.InputFiles.{AreReadAs, IsReadAs, IsReadAt, ReadsInto, Refuses, facts_of, floor_among}

-- a source is replaced by what is left of it
pub there_after : {S : Type 0} (sources : List S) (input : ℕ) (after : S) → input < length sources → slice_get (set sources input after) input ≡ Some after
there_after sources input after within =
    let still : input < length (set sources input after) = omega (arith, length-set sources input after) in
    slice_get-get_or (set sources input after) input after still ∙ ap Some (get_or-set_same sources input after after within)

-- the others stay
pub elsewhere : {S : Type 0} (sources : List S) (input : ℕ) (after : S) (k : ℕ) → input + 1 ≤ k → slice_get (set sources input after) k ≡ slice_get sources k
elsewhere [] input after k h = refl
elsewhere (x ∷ sources) zero after (suc k) h = refl
elsewhere (x ∷ sources) (suc input) after (suc k) h = elsewhere sources input after k (omega arith)
elsewhere (x ∷ sources) input after zero h = absurd (omega arith)

earlier : {S : Type 0} (sources : List S) (input : ℕ) (after : S) (k : ℕ) → k < input → slice_get (set sources input after) k ≡ slice_get sources k
earlier [] input after k h = refl
earlier (x ∷ sources) zero after k h = absurd (omega arith)
earlier (x ∷ sources) (suc input) after zero h = refl
earlier (x ∷ sources) (suc input) after (suc k) h = earlier sources input after k (omega arith)

-- an element of a list with one more at its end
pub front_of_more : {X : Type 0} (xs : List X) (last : X) (k : ℕ) → k < length xs → slice_get (xs ++ last ∷ []) k ≡ slice_get xs k
front_of_more [] last k h = absurd (omega arith)
front_of_more (x ∷ xs) last zero h = refl
front_of_more (x ∷ xs) last (suc k) h = front_of_more xs last k (omega arith)

pub last_of_more : {X : Type 0} (xs : List X) (last : X) (k : ℕ) → length xs ≤ k → (x : X) → slice_get (xs ++ last ∷ []) k ≡ Some x → (k ≡ length xs)
    × (last ≡ x)
last_of_more [] last zero h x e = (refl, cc)
last_of_more [] last (suc k) h x e = absurd (cc)
last_of_more (y ∷ xs) last zero h x e = absurd (omega arith)
last_of_more (y ∷ xs) last (suc k) h x e = let i = last_of_more xs last k (omega arith) x e in (ap suc i.0, i.1)

-- an accepted file has no bad record
accepted_has_no_fault : (bytes : List ℕ) → outcome bytes ≡ Ok tt → HasNoFaultYet bytes
unfolding outcome
accepted_has_no_fault bytes h =
    elim (format_in bytes) as (λ o. format_in bytes ≡ o → outcome_as o bytes ≡ Ok tt → HasNoFaultYet bytes) [
      | Err f ↦ λ e k. absurd (cc)
      | Ok format ↦ λ e k.
          (elim (fault_in format bytes) as (λ f. fault_in format bytes ≡ f → fault_first f (ending format (length bytes)) ≡ Ok tt → HasNoFaultYet bytes) [
            | None ↦ λ d l. inr (format, e, d)
            | Some f ↦ λ d l. absurd (cc)
          ] refl k)
    ] refl h

-- nothing is said of known bytes
nothing_known : (o p : Option (List ℕ)) → IfSome o (λ bytes. IfSome p (λ rest. Unit {0}))
nothing_known None p = tt
nothing_known (Some bytes) None = tt
nothing_known (Some bytes) (Some rest) = tt

-- an element that is there stands below the length
pub inside : {X : Type 0} (xs : List X) (k : ℕ) (x : X) → slice_get xs k ≡ Some x → k < length xs
inside [] k x e = absurd (cc)
inside (y ∷ xs) zero x e = omega arith
inside (y ∷ xs) (suc k) x e = let i = inside xs k x e in omega arith

module _ {S : Type 0} (state : S → SourceState) where
  -- what was read of the sources before an input stays when the one there is read
  pub reads_stay : (olds news : List S) (files : List (List ℕ)) (input : ℕ) (after : S) → length files ≡ input → AreReadAs state olds news files
      → AreReadAs state olds (set news input after) files
  reads_stay olds news files input after as_many before k file at =
      let r = before k file at in
      let low : k < input = let i = inside files k file at in omega arith in
      record {
        old = r.old;
        new = r.new;
        there = r.there;
        there_after = earlier news input after k low ∙ r.there_after;
        read = r.read;
      }

  -- one more source was read
  pub read_more :
      (olds news : List S) (files : List (List ℕ)) (input : ℕ) (old after : S) (file : List ℕ)
      → length files ≡ input → AreReadAs state olds news files → slice_get olds input ≡ Some old → input < length news
      → IsReadAs state old after file
      → AreReadAs state olds (set news input after) (files ++ file ∷ [])
  read_more olds news files input old after file as_many before there within read k f at =
      elim (nat_lt k (length files)) as (λ t. nat_lt k (length files) ≡ t → IsReadAt state olds (set news input after) k f) [
        | true ↦ λ p. reads_stay olds news files input after as_many before k f (sym (front_of_more files file k (ltb-true _ _ p)) ∙ at)
        | false ↦ λ p.
            let same = last_of_more files file k (ltb-false _ _ p) f at in
            let here : k ≡ input = same.0 ∙ as_many in
            record {
              old = old;
              new = after;
              there = ap (slice_get olds) here ∙ there;
              there_after = ap (slice_get (set news input after)) here ∙ there_after news input after within;
              read = subst (IsReadAs state old after) same.1 read;
            }
      ] refl

  -- a source was absorbed into an empty store, which was then merged into another
  pub reads_into :
      (u : Unit {0}) (old new : S) (fresh store all sum : Facts)
      → fresh ≡ no_facts → Absorbs state (Ok u) old new fresh store → (state new).has_failed ≡ false → sum ≡ merge all store
      → ReadsInto state old new all sum
  reads_into u old new fresh store all sum is_fresh a works e = record {
    file = a.taken;
    read = record { consumed = a.consumed; at_end = a.decided; accepted = a.answered; works = works };
    merged = e ∙ ap (merge all) (a.held ∙ ap (λ x. merge x (facts_in a.taken)) is_fresh ∙ merge_empty (facts_in a.taken));
  }

  -- or there was no memory for that
  pub refuses_merge :
      (u : Unit {0}) (old new : S) (fresh store : Facts)
      → Absorbs state (Ok u) old new fresh store → (state new).has_failed ≡ false
      → Refuses state old new Memory
  refuses_merge u old new fresh store a works = record {
    taken = a.taken;
    consumed = a.consumed;
    answered = tt;
    decided = tt;
    bounded = a.bounded;
    no_fault_before = λ e. inl (accepted_has_no_fault a.taken a.answered);
    read = (λ e. absurd (cc), λ failed. let f : IsTrue false = subst IsTrue works failed in absurd (cc));
    known = nothing_known (state old).left (state new).left;
  }

  -- or the source was refused
  pub refuses_file :
      (fault : FileFault) (old new : S) (fresh store : Facts)
      → Absorbs state (Err fault) old new fresh store
      → (◌≡◌ {A = Result (Unit {0}) FileFault} (Err fault) (Err Read) ↔ IsTrue (state new).has_failed)
      → AnswersKnown state (Err fault) old new → Refuses state old new fault
  refuses_file fault old new fresh store a read known = record {
    taken = a.taken;
    consumed = a.consumed;
    answered = a.answered;
    decided = a.decided;
    bounded = a.bounded;
    no_fault_before = λ e. inr (subst (λ (f : FileFault). HoldsKept (Err f) fresh store a.taken) e a.held).0;
    read = (λ e. read.0 (ap (λ f. Err f) e), λ failed. let is = read.1 failed in cc);
    known = known;
  }

floor_among-more : (floor : ℕ) (files : List (List ℕ)) (file : List ℕ) → floor_among floor (files ++ file ∷ []) ≡ max (floor_among floor files) (floor_in file)
floor_among-more floor [] file = refl
floor_among-more floor (f ∷ files) file = floor_among-more (max floor (floor_in f)) files file

-- what one more file says is merged into what all before say
pub facts-more : (floor : ℕ) (files : List (List ℕ)) (file : List ℕ) (facts facts' : Facts) → facts ≡ facts_of floor files → facts'
    ≡ merge facts (facts_in file)
    → facts' ≡ facts_of floor (files ++ file ∷ [])
facts-more floor files file facts facts' e more =
    more ∙ ap (λ x. merge x (facts_in file)) e ∙ sym (view_of_both (floor_among floor files) (floor_in file) (flat_map kept files) (kept file))
    ∙ ap (λ n. view_at n (flat_map kept files ++ kept file)) (sym (floor_among-more floor files file))
    ∙ ap (view_at (floor_among floor (files ++ file ∷ []))) (flat_map_more kept [] files file)

-- before the first
pub facts-none : (floor : ℕ) (facts facts' : Facts) → facts ≡ no_facts → facts' ≡ raised facts floor → facts' ≡ facts_of floor []
facts-none floor facts facts' e up =
    up ∙ ap (λ x. raised x floor) e ∙ raising_forgets 1 floor [] ∙ at_same_floor (max 1 floor) floor (seen []) (omega arith)

-- the first sources were read, the others are as they were, and the facts are what the files say
pub record HasReadSome {S : Type 0} (state : S → SourceState) (floor : ℕ) (olds news : List S) (input : ℕ) (facts : Facts) : Type 0 where
  pub as_many : length news ≡ length olds
  pub untouched : (k : ℕ) → input ≤ k → slice_get news k ≡ slice_get olds k
  pub files : List (List ℕ)
  pub one_each : length files ≡ input
  pub read : AreReadAs state olds news files
  pub told : facts ≡ facts_of floor files

-- a source that was read to its end has not failed
pub working : {E : Type 0} (failed : Bool) (u : Unit {0}) (e : E) → (◌≡◌ {A = Result (Unit {0}) E} (Ok u) (Err e) ↔ IsTrue failed) → failed ≡ false
working false u e h = refl
working {E} true u e h = let p : ◌≡◌ {A = Result (Unit {0}) E} (Ok u) (Err e) = h.1 refl in absurd (cc)
