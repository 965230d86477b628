-- How a writing ends: by its answers and timeouts, each of which ends one step.
use Rattle.std.proofs.Common.{◌≡◌, ◌⊎◌, inl, inr, ◌<◌, ◌≤◌, ◌+◌, ◌^◌, ℕ, zero, suc, Bool, true, false, cond, List, []}
use Rattle.std.proofs.Common.{◌∷◌, length, refl, sym, ap, ◌∙◌, subst, arith}
use Rattle.std.proofs.lemmas.Bool.{cond-false, cond-true, eqb-true, eq-eqb, le-ltb, lt-leb, ltb-false}
use Rattle.std.proofs.lemmas.List.{length-append}
use Rattle.std.proofs.lemmas.Option.{slice_get-get_or}
use Rattle.std.specs.Prelude.{◌==◌, Contains, None, Option, Some, filter, nat_le, nat_lt}
use Rattle.request_table.proofs.Numbers.{rising_ordered}
use Rattle.subnet_view.proofs.Apart.{find_only}
use Rattle.subnet_view.proofs.Members.{contains_cases, contains_filter, contains_here, contains_none}
use Rattle.subnet_view.proofs.Members.{contains-from_filter}
use Rattle.sm_manager.specs.declared.fault.ManagerFault.TheVariants.{SequenceSpent}
use Rattle.sm_manager.specs.declared.pending.Pending.{Pending}
use Rattle.sm_manager.specs.declared.pending.Purpose.{Purpose}
use Rattle.sm_manager.specs.declared.pending.Purpose.TheVariants as purpose
use Rattle.sm_manager.specs.CallLists.{Call, Timeout, WriteSteps, after_call, after_calls}
use Rattle.sm_manager.specs.Manager.{Manager, Writing}
use Rattle.sm_manager.specs.ManagerRequests.{how_many, is_step, no_step_waits, with_number}
use Rattle.sm_manager.specs.Packets.{Called, after_request, request_gave_up, sweep_gave_up, done, refused, unless_spent}
use Rattle.sm_manager.specs.Writing.{count_after, is_spent, after_step}
use Rattle.sm_manager.proofs.Over.{over_counter}
use Rattle.manager_laws.specs.WritingEnds.{AnswersEndRequests, CanEndBy, Ends, IsEndOf, IsOver, SomeWaits}
use Rattle.manager_laws.specs.WritingEnds.{WritingsAskFew, WritingsEnd, ended_by, only_in, planned_steps, sets_queued}
use Rattle.manager_laws.specs.WritingEnds.{steps_ended, steps_of, steps_to_come}
use Rattle.manager_laws.proofs.writing_ends.Begun.{Later, all_first, all_later, first_few, left_of, life_rises, plan_bound}
use Rattle.manager_laws.proofs.writing_ends.Lists.{all_below, at_member, filter_none, from_members, has_member, lacks, listed}
use Rattle.manager_laws.proofs.writing_ends.Lists.{number, only_one}
use Rattle.manager_laws.proofs.writing_ends.Turns.{Running, StepGoes, step_goes, turn, went_by}
use Rattle.manager_laws.proofs.writing_ends.Effects.{IsEnded, Turn}
use Rattle.manager_laws.proofs.writing_ends.Fits.{calls_fit, life_fits}

-- asking ----------------------------------------------------------------------------------------------------------

pub writings_ask_few : WritingsAskFew
writings_ask_few m after life may none =
    let first = all_first m after (life_rises m life) may none in
    record { bound = plan_bound m may; few = first_few m.counter _ _ _ first; first = first }

pub answers_end_requests : AnswersEndRequests
answers_end_requests m call life = by_gone t.gone refl
  where
    t : Turn m call (after_call m call)
    t = turn m call

    by_gone : (o : Option Pending) → t.gone ≡ o
        → (only_in m (after_call m call) ≡ [])
        ⊎ ((p : Pending) × (only_in m (after_call m call) ≡ p ∷ []) × IsEndOf p call)
    by_gone None e = inl (went_by m call (after_call m call) t (life_rises m life) ∙ ap listed e)
    by_gone (Some p) e =
        inr (p, went_by m call (after_call m call) t (life_rises m life) ∙ ap listed e, subst (IsEnded call) e t.ended)

-- the timeout of a step ---------------------------------------------------------------------------------------------

module _ (w : Writing) (m : Manager) (r : Running w m) (few : m.counter ≤ 2 ^ 32) (p : Pending)
    (there : Contains m.pending p)
    (step : is_step p ≡ true) where
  -- it is found by its number
  found : with_number p.number m.pending ≡ Some p
  found =
      find_only (λ (q : Pending). q.number == p.number) m.pending p there (eq-eqb p.number p.number refl)
      (λ q h same. is_it q
      (subst (λ ps. Contains ps q) (only_one m.pending p (rising_ordered number 0 m.pending m.counter r.rising) there)
      (contains_filter (λ (x : Pending). x.number == p.number) m.pending q h same)))
    where
      is_it : (q : Pending) → Contains (p ∷ []) q → q ≡ p
      is_it q h = elim (contains_cases p q [] h) [ inl e ↦ sym e | inr none ↦ absurd (contains_none q none) ]

  -- it is over, or the manager refuses this
  times_out : after_call m (Timeout p.number) ≡ (unless_spent m (after_step m p false)).manager
  times_out =
      let low =
      at_member (λ (q : Pending). q.number < m.counter) m.pending p (all_below 0 m.pending m.counter r.rising) there in
      ap (λ (x : Called). x.manager)
      (cond-false (nat_le (2 ^ 32) p.number) (sweep_gave_up m p.number m.sweep)
      (request_gave_up m (with_number p.number m.pending))
      (lt-leb (2 ^ 32) p.number (omega (arith, low, few)))
      ∙ ap (request_gave_up m) found)
      ∙ by_purpose p.purpose step
    where
      by_purpose : (u : Purpose) → is_step (record p { purpose = u }) ≡ true
          → (after_request m p None u).manager ≡ (unless_spent m (after_step m p false)).manager
      by_purpose purpose.Poll e = absurd (cc)
      by_purpose purpose.Control e = absurd (cc)
      by_purpose (purpose.Step c) e = refl

  -- it is over if the numbers that are used then fit
  given_up : (after_step m p false).counter ≤ 2 ^ 32 → after_call m (Timeout p.number) ≡ after_step m p false
  given_up fits =
      times_out
      ∙ ap (λ (x : Called). x.manager)
      (cond-false (is_spent (after_step m p false)) (refused m SequenceSpent) (done (after_step m p false))
      (le-ltb (2 ^ 32) (after_step m p false).counter fits))

  goes : StepGoes w m p (after_step m p false)
  goes = step_goes w m r (Timeout p.number) p there refl false

  one : how_many is_step (only_in m (after_step m p false)) ≡ 1
  one = ap (how_many is_step) goes.over ∙ ap (λ b. length (cond b (p ∷ []) [])) step

  used : (after_step m p false).counter ≡ m.counter + count_after m
  used = by_index there
    where
      by_index : Contains m.pending p → (after_step m p false).counter ≡ m.counter + count_after m
      by_index (i, within, is) =
          over_counter m i p false (record { rising = r.rising; bound = few })
          (slice_get-get_or m.pending i p within ∙ ap (λ (x : Pending). Some x) is) step

  -- and then it is the one that has ended
  ends_it : m.counter + count_after m ≤ 2 ^ 32 → ended_by m (Timeout p.number) ≡ 1
  ends_it fits =
      let counter = used in
      ap (λ (x : Manager). how_many is_step (only_in m x)) (given_up (omega (arith, counter, fits))) ∙ one

  -- else the manager is as it was
  none_ends : nat_lt (2 ^ 32) (after_step m p false).counter ≡ true → ended_by m (Timeout p.number) ≡ 0
  none_ends spent =
      ap (λ (x : Manager). how_many is_step (only_in m x))
      (times_out
      ∙ ap (λ (x : Called). x.manager)
      (cond-true (is_spent (after_step m p false)) (refused m SequenceSpent) (done (after_step m p false)) spent))
      ∙ ap (how_many is_step)
      (filter_none (lacks m.pending) m.pending
      (from_members (λ q. lacks m.pending q ≡ false) m.pending (λ q h. has_member m.pending q h)))

  has_ended : ended_by m (Timeout p.number) ≡ 1 → m.counter + count_after m ≤ 2 ^ 32
  has_ended ended = by_test (nat_lt (2 ^ 32) (after_step m p false).counter) refl
    where
      by_test : (b : Bool) → nat_lt (2 ^ 32) (after_step m p false).counter ≡ b → m.counter + count_after m ≤ 2 ^ 32
      by_test true spent = let none = none_ends spent in absurd (omega (arith, none, ended))
      by_test false fits =
          let few_then = ltb-false (2 ^ 32) (after_step m p false).counter fits in
          let counter = used in
          omega (arith, few_then, counter)

some_waits : (ps : List Pending) → no_step_waits ps ≡ false → (p : Pending) × Contains ps p × (is_step p ≡ true)
some_waits ps e = by_steps (filter is_step ps) refl
  where
    by_steps : (steps : List Pending) → filter is_step ps ≡ steps → (p : Pending) × Contains ps p × (is_step p ≡ true)
    by_steps [] none = absurd (cc (sym e ∙ ap (λ (xs : List Pending). length xs == 0) none))
    by_steps (p ∷ steps) is =
        let of = contains-from_filter is_step ps p (subst (λ xs. Contains xs p) (sym is) (contains_here p steps)) in
        (p, of.0, of.1)

-- the end --------------------------------------------------------------------------------------------------------

over_at : (w : Writing) (m : Manager) → Running w m → no_step_waits m.pending ≡ true → IsOver m
over_at w m r e = record { none_waits = e; none_to_come = ap steps_to_come r.writing ∙ r.idle e }

waits_or_over : (w : Writing) (m : Manager) → Running w m → SomeWaits m ⊎ IsOver m
waits_or_over w m r = by_test (no_step_waits m.pending) refl
  where
    by_test : (b : Bool) → no_step_waits m.pending ≡ b → SomeWaits m ⊎ IsOver m
    by_test true e = inr (over_at w m r e)
    by_test false e = inl (some_waits m.pending e)

longer : (transaction : ℕ) (calls : List Call) (count : ℕ) → length calls ≡ count
    → length (Timeout transaction ∷ calls) ≡ suc count
longer transaction calls count e = ap suc e

-- each writing of which so many steps are left can be brought to its end
abbrev CanEnd : ℕ → Type 0
CanEnd count =
    (w : Writing) (m : Manager) → Running w m → left_of w m ≡ count
    → m.counter + length (steps_of w.later) ≤ 2 ^ 32 → CanEndBy count m

can_end_by : (count : ℕ) → CanEnd count
can_end_by zero w m r left few =
    record {
      calls = [];
      timeouts = tt;
      are = refl;
      over = over_at w m r (eq-eqb (how_many is_step m.pending) 0 (omega (arith, left)));
    }
can_end_by (suc count) w m r left few =
    by_test (λ v n running rest fits. can_end_by count v n running rest fits) (no_step_waits m.pending) refl
  where
    on : CanEnd count → (p : Pending) → Contains m.pending p → is_step p ≡ true → CanEndBy (suc count) m
    on later p there step =
        let most : m.counter ≤ 2 ^ 32 = omega (arith, few) in
        let g = goes w m r most p there step in
        let all = sym (length-append g.goes.sent (steps_of g.goes.going.later)) ∙ ap length g.goes.all in
        let counter = g.counter in
        let many = g.goes.many in
        let is_one = one w m r most p there step in
        let rest = later g.goes.going (after_step m p false) g.goes.running (omega (arith, all, many, is_one, left))
        (omega (arith, all, counter, few)) in
        let same = given_up w m r most p there step (omega (arith, all, counter, few)) in
        record {
          calls = Timeout p.number ∷ rest.calls;
          timeouts = rest.timeouts;
          are = longer p.number rest.calls count rest.are;
          over = subst (λ (x : Manager). IsOver (after_calls rest.calls x)) (sym same) rest.over;
        }

    by_test : CanEnd count → (b : Bool) → no_step_waits m.pending ≡ b → CanEndBy (suc count) m
    by_test later true e =
        let none = eqb-true (how_many is_step m.pending) 0 e in
        let nothing = ap length (r.idle e) in
        absurd (omega (arith, none, nothing, left))
    by_test later false e = let p = some_waits m.pending e in on later p.0 p.1 p.2

ends_so : (m : Manager) (after : List Call) (total : ℕ) → length (planned_steps m) ≡ total
    → (after_calls (WriteSteps ∷ after) m).counter ≤ 2 ^ 32
    → Later (length (sets_queued (WriteSteps ∷ after) m)) (length (planned_steps m))
    (steps_ended (WriteSteps ∷ after) m) total (after_calls (WriteSteps ∷ after) m)
    → Ends m after
ends_so m after total is low l =
    let sum = l.sum in
    record {
      few = omega (arith, sum, is);
      over = (over_then, then_over);
      all = λ over. let nothing = none_to_come over in let sent = l.sent in omega (arith, nothing, sent);
      waits = waits_or_over l.going end l.running;
      goes_on = λ p there step. (
        has_ended l.going end l.running low p there step,
        ends_it l.going end l.running low p there step,
      );
      can_end = λ count rest fits. can_end_by count l.going end l.running (omega (arith, sum, rest, is))
          (subst (λ o. end.counter + length (steps_to_come o) ≤ 2 ^ 32) l.running.writing fits);
    }
  where
    end : Manager
    end = after_calls (WriteSteps ∷ after) m

    none_to_come : IsOver end → length (steps_of l.going.later) ≡ 0
    none_to_come over = ap length (sym (ap steps_to_come l.running.writing) ∙ over.none_to_come)

    over_then : IsOver end → steps_ended (WriteSteps ∷ after) m ≡ length (planned_steps m)
    over_then over =
        let none = eqb-true (how_many is_step end.pending) 0 over.none_waits in
        let nothing = none_to_come over in
        let sum = l.sum in
        omega (arith, none, nothing, sum, is)

    then_over : steps_ended (WriteSteps ∷ after) m ≡ length (planned_steps m) → IsOver end
    then_over e =
        let sum = l.sum in
        over_at l.going end l.running (eq-eqb (how_many is_step end.pending) 0 (omega (arith, sum, e, is)))

pub writings_end : WritingsEnd
writings_end m after life may none =
    ends_so m after (length (planned_steps m)) refl (calls_fit (WriteSteps ∷ after) m (life_fits m life))
    (all_later m after (life_rises m life) may none)
