-- What holds of each sweep still holds after a request goes out, and after a request ends.
use Rattle.std.proofs.Common.{◌≡◌, ℕ, ◌+◌, ◌^◌, ◌<◌, ◌≤◌, List, ◌++◌, length, take, drop, arith, ap, sym, ◌∙◌, subst, append_assoc, length-append}
use Rattle.std.specs.Prelude.{Some, remove, slice_get}
use Rattle.std.proofs.lemmas.List.{take-append-drop}
use Rattle.std.proofs.lemmas.List.Edits.{length-remove, remove-append_left}
use Rattle.std.proofs.lemmas.Option.{slice_get_within}
use Rattle.sweep.specs.declared.request.Request.{Request}
use Rattle.sweep.specs.Order.{AreInOrder}
use Rattle.sweep.specs.Sweep.{Asking, AreRising, IsSweep, Sweep, numbered, state_key, vertex_key, without_number}
use Rattle.sweep.proofs.Asked.{length_numbered}
use Rattle.sweep.proofs.Numbers.{ordered_first, rising_asked, rising_ordered, rising_without, without_at}

-- the first of the queue goes out
pub record IsMoved (s t : Sweep) : Type 0 where
  pub next : t.next ≡ s.next
  pub outstanding : t.outstanding ≡ s.outstanding ++ take 1 s.queued
  pub queued : t.queued ≡ drop 1 s.queued
  pub reached : t.reached ≡ s.reached
  pub states : t.states ≡ s.states
  pub unanswered : t.unanswered ≡ s.unanswered
  pub silent_managers : t.silent_managers ≡ s.silent_managers
  pub too_far : t.too_far ≡ s.too_far

pub valid_moved : (s t : Sweep) → IsSweep s → IsMoved s t → IsSweep t
valid_moved s t valid moved =
    let same : t.outstanding ++ t.queued ≡ s.outstanding ++ s.queued =
    ap (λ l. l ++ t.queued) moved.outstanding ∙ ap (λ l. (s.outstanding ++ take 1 s.queued) ++ l) moved.queued
    ∙ append_assoc s.outstanding (take 1 s.queued) (drop 1 s.queued) ∙ ap (λ l. s.outstanding ++ l) (take-append-drop 1 s.queued) in
    record {
      rising =
          subst (λ (n : ℕ). AreRising 0 (t.outstanding ++ t.queued) n) (sym moved.next)
          (subst (λ (l : List Request). AreRising 0 l s.next) (sym same) valid.rising);
      next = omega (arith, moved.next, valid.next);
      reached = subst (AreInOrder vertex_key) (sym moved.reached) valid.reached;
      states = subst (AreInOrder state_key) (sym moved.states) valid.states;
      counted = omega (arith, ap length same, moved.next, moved.unanswered, moved.too_far, valid.counted);
      silent = omega (arith, moved.unanswered, moved.silent_managers, valid.silent);
    }

-- a request that waited has ended, and questions came up
pub record HasEnded (s t : Sweep) (index : ℕ) (r : Request) (asked : List Asking) : Type 0 where
  pub waited : slice_get s.outstanding index ≡ Some r
  pub next : t.next ≡ s.next + length asked
  pub fits : t.next ≤ 2 ^ 32
  pub outstanding : t.outstanding ≡ without_number r.number s.outstanding
  pub queued : t.queued ≡ s.queued ++ numbered s.next asked
  pub reached : AreInOrder vertex_key t.reached
  pub states : AreInOrder state_key t.states
  pub counted : t.unanswered + t.too_far ≤ s.unanswered + s.too_far + 1
  pub silent : t.silent_managers ≤ t.unanswered

pub valid_ended : (s t : Sweep) (index : ℕ) (r : Request) (asked : List Asking) → IsSweep s → HasEnded s t index r asked → IsSweep t
valid_ended s t index r asked valid ended =
    let within : index < length s.outstanding = slice_get_within s.outstanding index r ended.waited in
    let ordered = ordered_first (λ (a : Request) (b : Request). a.number
    < b.number) s.outstanding s.queued (rising_ordered 0 (s.outstanding ++ s.queued) s.next valid.rising) in
    let gone : without_number r.number s.outstanding ≡ remove s.outstanding index = without_at s.outstanding index r ordered ended.waited in
    let left : remove (s.outstanding ++ s.queued) index ≡ remove s.outstanding index ++ s.queued = remove-append_left s.outstanding s.queued index within in
    let all : t.outstanding ++ t.queued ≡ remove (s.outstanding ++ s.queued) index ++ numbered s.next asked =
    ap (λ l. l ++ t.queued) (ended.outstanding ∙ gone) ∙ ap (λ l. remove s.outstanding index ++ l) ended.queued
    ∙ sym (append_assoc (remove s.outstanding index) s.queued (numbered s.next asked)) ∙ ap (λ l. l ++ numbered s.next asked) (sym left) in
    let rising : AreRising 0 (remove (s.outstanding ++ s.queued) index ++ numbered s.next asked) (s.next + length asked) =
    rising_asked 0 (remove (s.outstanding ++ s.queued) index) s.next asked (rising_without 0 (s.outstanding ++ s.queued) s.next index valid.rising) in
    let both = length-append s.outstanding s.queued in
    let less = length-remove (s.outstanding ++ s.queued) index (omega (arith, within, both)) in
    let more = length-append (remove (s.outstanding ++ s.queued) index) (numbered s.next asked) in
    let count = length_numbered s.next asked in
    record {
      rising =
          subst (λ (n : ℕ). AreRising 0 (t.outstanding ++ t.queued) n) (sym ended.next)
          (subst (λ (l : List Request). AreRising 0 l (s.next + length asked)) (sym all) rising);
      next = ended.fits;
      reached = ended.reached;
      states = ended.states;
      counted = omega (arith, ap length all, less, more, count, ended.next, ended.counted, valid.counted);
      silent = ended.silent;
    }
