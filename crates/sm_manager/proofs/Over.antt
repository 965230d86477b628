-- The end of a step: how many steps are sent then, and whether there are numbers for them.
use Rattle.std.proofs.Common.{◌≡◌, ℕ, zero, suc, ◌+◌, ◌≤◌, ◌^◌, Bool, true, false, cond, List, ◌++◌, length, refl}
use Rattle.std.proofs.Common.{sym, ap, ◌∙◌, subst, arith}
use Rattle.std.proofs.lemmas.Bool.{cond-true, cond-false, lt-ltb, le-ltb, ltb-false, ne_eqb}
use Rattle.std.specs.Prelude.{Option, Some, None, ◌&&◌, ◌||◌, ◌==◌, drop, not, nat_lt, remove, slice_get}
use Rattle.request_table.proofs.Numbers.{rising_ordered, without_at}
use Rattle.request_table.proofs.Indices.{some_is}
use Rattle.sm_manager.specs.declared.fault.ManagerFault.TheVariants as fault
use Rattle.sm_manager.specs.declared.outgoing.Outgoing.{Outgoing}
use Rattle.sm_manager.specs.declared.pending.Pending.{Pending}
use Rattle.sm_manager.specs.Manager.{Manager, Writing}
use Rattle.sm_manager.specs.Packets.{refused, done, unless_spent}
use Rattle.sm_manager.specs.PlanFaults.{number_fault}
use Rattle.sm_manager.specs.ManagerRequests.{AreNumbered, counts, how_many, is_step, no_step_waits, without_number}
use Rattle.sm_manager.specs.Writing.{count_after, count_with, is_spent, next_pending, next_phase, noted, without_empty_phases}
use Rattle.sm_manager.specs.Writing.{phase_sent, steps_out, after_step, went_on_with}
use Rattle.sm_manager.proofs.Numbers.{many_without, one_if}

-- a step waits alone, or it does not
alone : (n k : ℕ) → n + 1 ≡ k → (n == 0) ≡ not (nat_lt 1 k)
alone zero k e = sym (ap not (le-ltb 1 k (omega (arith, e))))
alone (suc n) k e = ne_eqb (suc n) 0 (λ z. omega (arith, z)) ∙ sym (ap not (lt-ltb 1 k (omega (arith, e))))

pub left_alone : (counter : ℕ) (ps : List Pending) (i : ℕ) (p : Pending) → AreNumbered counter ps → slice_get ps i ≡ Some p
    → is_step p ≡ true → no_step_waits (without_number p.number ps) ≡ not (nat_lt 1 (how_many is_step ps))
left_alone counter ps i p numbered at step =
    let gone : without_number p.number ps ≡ remove ps i =
    without_at (λ (q : Pending). q.number) ps i p (rising_ordered (λ (q : Pending). q.number) 0 ps counter numbered.rising) at in
    let less = many_without is_step ps i p at in
    let one : one_if (is_step p) ≡ 1 = ap one_if step in
    ap no_step_waits gone ∙ alone (how_many is_step (remove ps i)) (how_many is_step ps) (omega (arith, less, one))

-- one request less waits, and its writing knows whether it was done
abbrev pub ended : Manager → Pending → Bool → Option Writing → Manager
ended m p was_done w = record m { pending = without_number p.number m.pending; writing = noted (counts p) was_done w }

abbrev pub marked : Pending → Bool → Writing → Writing
marked p was_done w = record w { has_failed = w.has_failed || (counts p && not was_done) }

-- the next number then
pub over_counter : (m : Manager) (i : ℕ) (p : Pending) (was_done : Bool) → AreNumbered m.counter m.pending → slice_get m.pending i ≡ Some p
    → is_step p ≡ true → (after_step m p was_done).counter ≡ m.counter + count_after m
over_counter m i p was_done numbered at step = by_writing m.writing
  where
    by_writing : (w : Option Writing) → (went_on_with (ended m p was_done w) (noted (counts p) was_done w)).counter
        ≡ m.counter + count_with m.pending w
    by_writing None = omega arith
    by_writing (Some w) =
        subst
        (λ (b : Bool). (cond b (phase_sent (ended m p was_done (Some w)) (marked p was_done w)) (ended m p was_done (Some w))).counter
        ≡ m.counter + count_with m.pending (Some w))
        (sym (left_alone m.counter m.pending i p numbered at step)) (by_count (nat_lt 1 (how_many is_step m.pending)))
      where
        by_count : (b : Bool) → (cond (not b) (phase_sent (ended m p was_done (Some w)) (marked p was_done w)) (ended m p was_done (Some w))).counter
            ≡ m.counter + cond b 0 (length (next_phase w.later).steps)
        by_count true = omega arith
        by_count false = refl

-- whether there are numbers for them
pub over_fault : (m : Manager) (i : ℕ) (p : Pending) (was_done : Bool) → AreNumbered m.counter m.pending → slice_get m.pending i ≡ Some p
    → is_step p ≡ true → (unless_spent m (after_step m p was_done)).fault ≡ number_fault (m.counter + count_after m)
over_fault m i p was_done numbered at step =
    by_test (is_spent (after_step m p was_done)) ∙ ap number_fault (over_counter m i p was_done numbered at step)
  where
    by_test : (b : Bool) → (cond b (refused m fault.SequenceSpent) (done (after_step m p was_done))).fault ≡ cond b (Some fault.SequenceSpent) None
    by_test true = refl
    by_test false = refl

pub over_manager : (m after : Manager) → (unless_spent m after).fault ≡ None → (unless_spent m after).manager ≡ after
over_manager m after e = by_test (is_spent after) e
  where
    by_test : (b : Bool) → (cond b (refused m fault.SequenceSpent) (done after)).fault ≡ None
        → (cond b (refused m fault.SequenceSpent) (done after)).manager ≡ after
    by_test true e = absurd (cc)
    by_test false e = refl

-- the numbers up to n fit if none is lacking
pub numbers_there : (n : ℕ) → number_fault n ≡ None → n ≤ 2 ^ 32
numbers_there n e = ltb-false _ _ (by_test (nat_lt (2 ^ 32) n) e)
  where
    by_test : (b : Bool) → cond b (Some fault.SequenceSpent) None ≡ None → b ≡ false
    by_test true e = absurd (cc)
    by_test false e = refl

-- if the last step that waits ends, the whole next phase goes out
pub whole_phase : (m : Manager) (i : ℕ) (p : Pending) (w : Writing) → AreNumbered m.counter m.pending
    → slice_get m.pending i ≡ Some p → is_step p ≡ true → m.writing ≡ Some w
    → no_step_waits (without_number p.number m.pending) ≡ true → count_after m ≡ length (next_phase w.later).steps
whole_phase m i p w numbered at step is alone =
    ap (count_with m.pending) is
    ∙ cond-false _ _ _ (was_alone (nat_lt 1 (how_many is_step m.pending)) (sym (left_alone m.counter m.pending i p numbered at step) ∙ alone))
  where
    was_alone : (b : Bool) → not b ≡ true → b ≡ false
    was_alone true e = absurd (cc)
    was_alone false e = refl

-- what is there after the last that waits ended
pub over_sent : (m : Manager) (p : Pending) (was_done : Bool) (w : Writing) → m.writing ≡ Some w
    → no_step_waits (without_number p.number m.pending) ≡ true
    → after_step m p was_done ≡ phase_sent (ended m p was_done m.writing) (marked p was_done w)
over_sent m p was_done w is alone =
    ap (λ (o : Option Writing). went_on_with (ended m p was_done m.writing) (noted (counts p) was_done o)) is ∙ cond-true _ _ _ alone

-- the manager after the next phase went out, by its parts
pub parts_sent : (m : Manager) (p : Pending) (was_done : Bool) (w sent : Writing) (counter : ℕ) (pending : List Pending) (outgoing : List Outgoing)
    → sent.later ≡ without_empty_phases (drop 1 w.later) → sent.has_failed ≡ w.has_failed || (counts p && not was_done)
    → counter ≡ m.counter + length (next_phase w.later).steps
    → pending ≡ without_number p.number m.pending ++ next_pending m.counter w.later
    → outgoing ≡ m.outgoing ++ steps_out m.counter (next_phase w.later).steps
    → record m { writing = Some sent; counter = counter; pending = pending; outgoing = outgoing }
    ≡ phase_sent (ended m p was_done m.writing) (marked p was_done w)
parts_sent m p was_done w sent counter pending outgoing later failed number waits out =
    λ i. record m { writing = Some (record { later = later i; has_failed = failed i }); counter = number i; pending = waits i; outgoing = out i }

-- the request that ended was the last that waited
pub record WasLast (m : Manager) (i : ℕ) (q : Pending) (w : Writing) : Type 0 where
  pub numbered : AreNumbered m.counter m.pending
  pub there : slice_get m.pending i ≡ Some q
  pub step : is_step q ≡ true
  pub writing : m.writing ≡ Some w
  pub alone : no_step_waits (without_number q.number m.pending) ≡ true

pub was_last : (m : Manager) (i : ℕ) (q : Pending) (w : Writing) (before after : List Pending) (b : Bool)
    → AreNumbered m.counter m.pending → before ≡ m.pending
    → Some q ≡ slice_get before i → is_step q ≡ true → after ≡ without_number q.number before
    → m.writing ≡ Some w → b ≡ no_step_waits after → b ≡ true → WasLast m i q w
was_last m i q w before after b numbered same there step without writing none yes_none =
    record {
      numbered = numbered;
      there = ap (λ ps. slice_get ps i) (sym same) ∙ sym there;
      step = step;
      writing = writing;
      alone = ap (λ ps. no_step_waits (without_number q.number ps)) (sym same) ∙ ap no_step_waits (sym without) ∙ sym none ∙ yes_none;
    }

pub last_count : (m : Manager) (i : ℕ) (q : Pending) (w : Writing) → WasLast m i q w → count_after m ≡ length (next_phase w.later).steps
last_count m i q w h = whole_phase m i q w h.numbered h.there h.step h.writing h.alone

pub last_sent : (m : Manager) (i : ℕ) (q p : Pending) (was_done : Bool) (w sent : Writing) (counter : ℕ) (pending : List Pending) (outgoing : List Outgoing)
    → WasLast m i q w → number_fault (m.counter + count_after m) ≡ None → slice_get m.pending i ≡ Some p
    → sent.later ≡ without_empty_phases (drop 1 w.later) → sent.has_failed ≡ w.has_failed || (counts q && not was_done)
    → counter ≡ m.counter + length (next_phase w.later).steps
    → pending ≡ without_number q.number m.pending ++ next_pending m.counter w.later
    → outgoing ≡ m.outgoing ++ steps_out m.counter (next_phase w.later).steps
    → record m { writing = Some sent; counter = counter; pending = pending; outgoing = outgoing } ≡ (unless_spent m (after_step m p was_done)).manager
last_sent m i q p was_done w sent counter pending outgoing h fits at later failed number waits out =
    let same : q ≡ p = some_is q p (sym h.there ∙ at) in
    parts_sent m q was_done w sent counter pending outgoing later failed number waits out
    ∙ sym (over_sent m q was_done w h.writing h.alone)
    ∙ ap (λ (x : Pending). after_step m x was_done) same
    ∙ sym (over_manager m (after_step m p was_done) (over_fault m i p was_done h.numbered at (ap is_step (sym same) ∙ h.step) ∙ fits))
