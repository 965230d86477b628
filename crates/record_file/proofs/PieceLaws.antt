-- Pieces that are fed one after the other.
use Rattle.std.proofs.Common.{◌≡◌, ◌⊎◌, inl, inr, ℕ, List, [], ◌∷◌, ◌++◌, Some, Result, Ok, Err, sym, ap, ◌∙◌, subst, append_assoc, append-nil}
use Rattle.std.specs.List.{concat}
use Rattle.fact_store.specs.View.{Facts, view_at}
use Rattle.fact_store.specs.Merge.{merge}
use Rattle.record_file.specs.declared.file_fault.FileFault.{FileFault}
use Rattle.record_file.specs.declared.file_fault.FileFault.TheVariants.{Memory}
use Rattle.record_file.specs.Feeding.{Absorbing, FeedsBehind, FeedsPiece, Finishes, HasStopped, WasFed, fault_so_far}
use Rattle.record_file.specs.PieceLaws.{CutsChangeNothing, FeedsEach, PiecesAreRead}
use Rattle.record_file.specs.Reading.{facts_in, outcome}
use Rattle.record_file.proofs.Pieces.{held-then, nothing-said, stays}

-- the absorber goes on behind these bytes, or stopped with their fault
abbrev pub IsAt : Absorbing → List ℕ → Type 0
IsAt a fed = WasFed a fed ⊎ ((fault : FileFault) × HasStopped a fault × (fault_so_far fed ≡ Some fault))

-- and the store holds what they keep
pub record Stands (a : Absorbing) (fed : List ℕ) (old new : Facts) : Type 0 where
  pub at : IsAt a fed
  pub held : new ≡ merge old (facts_in fed)

goes_on : (fed piece : List ℕ) (answer : Result (Unit {0}) FileFault) (b : Absorbing) (old mid new : Facts) → mid ≡ merge old (facts_in fed)
    → FeedsBehind fed piece answer b mid new → (answer ≡ Err Memory → ⊥) → Stands b (fed ++ piece) old new
goes_on fed piece (Ok u) b old mid new held h ample = record { at = inl h.0; held = held-then old mid new fed piece held h.2 }
goes_on fed piece (Err fault) b old mid new held (stopped, inl wants) ample = absurd (ample (ap (λ f. Err f) wants.0))
goes_on fed piece (Err fault) b old mid new held (stopped, inr told) ample =
    record { at = inr (fault, stopped, told.0); held = held-then old mid new fed piece held told.1 }

step : (a b : Absorbing) (fed piece : List ℕ) (answer : Result (Unit {0}) FileFault) (old mid new : Facts) → Stands a fed old mid
    → FeedsPiece a piece answer b mid new → (answer ≡ Err Memory → ⊥) → Stands b (fed ++ piece) old new
step a b fed piece answer old mid new g h ample = elim g.at [
  | inl on ↦ goes_on fed piece answer b old mid new g.held (h.goes_on fed on) ample
  | inr off ↦
      let same = h.stays off.0 off.1 in
      let later = stays fed piece off.0 off.2 in
      record {
        at = inr (off.0, ap (λ x. x.awaited) same.1 ∙ off.1, later.later);
        held = same.2 ∙ g.held ∙ (λ i. merge old (view_at (sym later.floors i) (sym later.keeps i)));
      }
]

steps : (pieces : List (List ℕ)) (a a' : Absorbing) (fed : List ℕ) (old mid new : Facts) → Stands a fed old mid → FeedsEach pieces a a' mid new
    → Stands a' (fed ++ concat pieces) old new
steps [] a a' fed old mid new g h =
    let P : Absorbing → List ℕ → Facts → Type 0 = λ x l y. Stands x l old y in
    subst (λ (x : Absorbing). P x (fed ++ []) new) (sym h.0)
    (subst (λ (y : Facts). P a (fed ++ []) y) (sym h.1) (subst (λ (l : List ℕ). P a l mid) (sym (append-nil fed)) g))
steps (piece ∷ pieces) a a' fed old mid new g (answer, next, between, fed_one, ample, later) =
    let P : List ℕ → Type 0 = λ l. Stands a' l old new in
    subst P (append_assoc fed piece (concat pieces))
    (steps pieces next a' (fed ++ piece) old between new (step a next fed piece answer old mid between g fed_one ample) later)

finished : (a : Absorbing) (fed : List ℕ) (answer : Result (Unit {0}) FileFault) → IsAt a fed → Finishes a answer → answer ≡ outcome fed
finished a fed answer (inl on) h = h.ends fed on
finished a fed answer (inr (fault, off, so_far)) h = h.stays fault off ∙ sym (stays fed [] fault so_far).now

pub pieces_are_read : PiecesAreRead
pieces_are_read pieces answer old new r =
    let start : Stands r.a [] old old =
    record { at = inl r.fresh; held = sym (nothing-said old) } in
    let all = steps pieces r.a r.a' [] old old new start r.feeds in
    (finished r.a' (concat pieces) answer all.at r.finishes, all.held)

pub cuts_change_nothing : CutsChangeNothing
cuts_change_nothing pieces answer whole_answer old new whole_new r w =
    let cut = pieces_are_read pieces answer old new r in
    let whole = pieces_are_read (concat pieces ∷ []) whole_answer old whole_new w in
    let same : concat (concat pieces ∷ []) ≡ concat pieces = append-nil (concat pieces) in (
      cut.0 ∙ sym (whole.0 ∙ ap outcome same),
      cut.1 ∙ sym (whole.1 ∙ ap (λ l. merge old (facts_in l)) same),
    )
