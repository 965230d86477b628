-- What becomes of the steps of a writing that wait when their manager is called: one is over at most, and the Set of each
-- new one is queued.
use Rattle.std.proofs.Common.{◌≡◌, ◌∙◌, ◌⊎◌, inl, inr, ℕ, zero, suc, ◌+◌, ◌<◌, ◌≤◌, ◌^◌, Bool, true, false, cond, not, List, [], ◌∷◌, ◌++◌, length, refl, sym, ap, subst, arith}
use Rattle.std.proofs.lemmas.Bool.{cond_both, cond-true, cond-false, eq-eqb, eqb-true, le-ltb, lt-leb}
use Rattle.std.proofs.lemmas.List.{length-append}
use Rattle.std.proofs.lemmas.List.Elements.{Contains-append_cases}
use Rattle.std.specs.Prelude.{◌==◌, Contains, Option, Some, None, drop, filter, is_none, nat_le}
use Rattle.smp_bytes.specs.Header.{set}
use Rattle.request_table.proofs.Numbers.{rising_below, rising_ordered}
use Rattle.subnet_view.proofs.Apart.{find_only}
use Rattle.subnet_view.proofs.Members.{contains_cases, contains_filter, contains_here, contains_none, contains-from_filter}
use Rattle.plan_steps.specs.Step.{set_packet}
use Rattle.plan_steps.specs.declared.step.Step.{Step}
use Rattle.sm_manager.specs.CallLists.{Call, after_call}
use Rattle.sm_manager.specs.Manager.{Manager, Writing, emptied, new_manager}
use Rattle.plan_steps.specs.Planning.{Planning}
use Rattle.sm_state.specs.declared.conduct.Conduct.{Conduct}
use Rattle.sm_manager.specs.ManagerRequests.{counts, how_many, is_step, no_step_waits, with_number, without_number}
use Rattle.sm_manager.specs.Packets.{Called, after_request, done, refused, request_gave_up, sweep_gave_up}
use Rattle.sm_manager.specs.PlanFaults.{writing_fault}
use Rattle.sm_manager.specs.StepsAnswered.{BeginsNone, one_if}
use Rattle.sm_manager.specs.Writing.{after_step, after_write_steps, is_spent, next_pending, next_phase, noted, numbered, steps_out, went_on_with}
use Rattle.sm_manager.specs.declared.fault.ManagerFault.{ManagerFault}
use Rattle.sm_manager.specs.declared.fault.ManagerFault.TheVariants.{SequenceSpent}
use Rattle.sm_manager.specs.declared.outgoing.Outgoing.{Outgoing}
use Rattle.sm_manager.specs.declared.pending.Pending.{Pending}
use Rattle.sm_manager.specs.declared.pending.Purpose.{Purpose}
use Rattle.sm_manager.specs.declared.pending.Purpose.TheVariants as purpose
use Rattle.sm_manager.proofs.CountedSteps.{Rising, rising_phase}
use Rattle.manager_laws.specs.WritingEnds.{IsOver, is_set, only_in, steps_of, steps_to_come}
use Rattle.manager_laws.proofs.writing_ends.Begun.{begun_goes, no_step_before, whole}
use Rattle.manager_laws.proofs.writing_ends.Effects.{Begun, Besides, Effect, Over, Turn, effect}
use Rattle.manager_laws.proofs.writing_ends.Fits.{calls_fit}
use Rattle.manager_laws.proofs.writing_ends.Headers.{directed_is, directed_method}
use Rattle.manager_laws.proofs.writing_ends.Lists.{all_below, all_from, at_member, kept, kept_in, none_long, number, only_one, steps_over}
use Rattle.manager_laws.proofs.writing_ends.Turns.{Goes, Running, call_goes, came_by, over_by, step_goes, turn, turn_many, turn_rises, went_by}
use Rattle.program_laws.specs.Wakes.{sets_to_come}
use Rattle.program_laws.proofs.wakes.Requests.{AnyAsks, Asks, asks_by, directed_transaction}

-- the Sets of steps ---------------------------------------------------------------------------------------

-- a step's Set is a request with the step's number
step_asks : (n : ℕ) (s : Step) → n < 2 ^ 32 → Asks n (record { packet = set_packet n s; to = None })
step_asks n s small = (
  directed_is set s.attribute s.modifier n s.path s.payload,
  directed_transaction set s.attribute s.modifier n s.path s.payload (omega (arith, small)) (omega arith),
  asks_by (record { packet = set_packet n s; to = None }) set (directed_method set s.attribute s.modifier n s.path s.payload (omega arith)) refl refl,
)

-- each step is among those that ask for it
numbered_ask : (c : Bool) (n : ℕ) (steps : List Step) (p : Pending) → n + length steps ≤ 2 ^ 32 → Contains (numbered c n steps) p
    → AnyAsks p.number (steps_out n steps)
numbered_ask c n [] p fits there = absurd (contains_none p there)
numbered_ask c n (s ∷ steps) p fits there =
    elim (contains_cases _ p (numbered c (suc n) steps) there) [
      | inl e ↦ inl (subst (λ (t : ℕ). Asks t (record { packet = set_packet n s; to = None })) (ap number e) (step_asks n s (omega (arith, fits))))
      | inr later ↦ inr (numbered_ask c (suc n) steps p (omega (arith, fits)) later)
    ]

any_filtered : (t : ℕ) (test : Outgoing → Bool) (xs : List Outgoing) → AnyAsks t (filter test xs) → AnyAsks t xs
any_filtered t test [] any = any
any_filtered t test (x ∷ xs) any = by (test x) any (any_filtered t test xs)
  where
    by : (b : Bool) → AnyAsks t (cond b (x ∷ filter test xs) (filter test xs)) → (AnyAsks t (filter test xs) → AnyAsks t xs) → AnyAsks t (x ∷ xs)
    by true (inl here) rest = inl here
    by true (inr later) rest = inr (rest later)
    by false any rest = inr (rest any)

any_dropped : (t n : ℕ) (xs : List Outgoing) → AnyAsks t (drop n xs) → AnyAsks t xs
any_dropped t n [] any = by n any
  where
    by : (n : ℕ) → AnyAsks t (drop n []) → ⊥
    by zero any = any
    by (suc n) any = any
any_dropped t zero (x ∷ xs) any = any
any_dropped t (suc n) (x ∷ xs) any = inr (any_dropped t n xs any)

-- how far a writing is -------------------------------------------------------------------------------------

-- nothing is to be written, or a writing runs or is over
abbrev pub IsGoing : Manager → Type 0
IsGoing m = ((no_step_waits m.pending ≡ true) × (sets_to_come m ≡ 0)) ⊎ ((w : Writing) × Running w m)

-- numbers are left for all Sets that are still to be sent
abbrev pub HasNumbers : Manager → Type 0
HasNumbers m = m.counter + sets_to_come m ≤ 2 ^ 32

-- the steps that wait have the property W, by their numbers, as long as numbers are left
pub record Steps (W : ℕ → Type 0) (m : Manager) : Type 0 where
  pub rising : Rising m.counter m.pending
  pub few : m.counter ≤ 2 ^ 32
  pub going : IsGoing m
  pub waits : HasNumbers m → (p : Pending) → Contains m.pending p → is_step p ≡ true → W p.number

pub steps_more : (W V : ℕ → Type 0) (m : Manager) → ((t : ℕ) → W t → V t) → Steps W m → Steps V m
steps_more W V m more s = record { rising = s.rising; few = s.few; going = s.going; waits = λ fits p there step. more p.number (s.waits fits p there step) }

-- calls --------------------------------------------------------------------------------------------------------

-- how a writing goes on by a call
record Went (m after : Manager) : Type 0 where
  going : IsGoing after
  sum : m.counter + sets_to_come m ≤ after.counter + sets_to_come after
  asks : after.counter ≤ 2 ^ 32 → (p : Pending) → Contains (only_in after m) p → is_step p ≡ true → AnyAsks p.number after.outgoing

pub no_step : (ps : List Pending) (counter : ℕ) (p : Pending) → Rising counter ps → Contains ps p → is_step p ≡ true → how_many is_step ps ≡ 0 → ⊥
no_step ps counter p rising there step none =
    let over = steps_over counter ps p rising there in
    let one = ap one_if step in
    omega (arith, over, one, none)

module _ (m after : Manager) (w : Writing) (g : Goes w m after) (first : sets_to_come m ≤ length (steps_of w.later)) where
  goes_went : Went m after
  goes_went =
      let long = sym (length-append g.sent (steps_of g.going.later)) ∙ ap length g.all in
      let rest : sets_to_come after ≡ length (steps_of g.going.later) = ap (λ o. length (steps_to_come o)) g.running.writing in
      let upto = g.upto in
      record {
        going = inr (g.going, g.running);
        sum = omega (arith, long, rest, upto, first);
        asks = λ few p there step.
            let listed = subst (λ ps. Contains ps p) g.asked (contains_filter is_step (only_in after m) p there step) in
            let asked = numbered_ask g.counts m.counter g.sent p (omega (arith, few, upto)) listed in
            any_dropped p.number (length m.outgoing) after.outgoing
            (any_filtered p.number (λ out. is_set out.packet) (drop (length m.outgoing) after.outgoing) (subst (AnyAsks p.number) (sym g.queued) asked));
      }

-- a writing begins
begins_went : (m after : Manager) → Rising m.counter m.pending → writing_fault m ≡ None → sets_to_come m ≡ 0 → after ≡ after_write_steps m → Went m after
begins_went m after rising may none is =
    let goes = begun_goes m rising may in
    let same : after_call m Call.WriteSteps ≡ after =
    cond-true (is_none (writing_fault m)) (after_write_steps m) m (ap is_none may) ∙ sym is in
    goes_went m after (whole m) (subst (Goes (whole m) m) same goes) (omega (arith, none))

-- nothing was written before
module _ (m : Manager) (call : Call) (rising : Rising m.counter m.pending) (none : no_step_waits m.pending ≡ true) (empty : sets_to_come m ≡ 0) where
  idle : how_many is_step m.pending ≡ 0
  idle = eqb-true (how_many is_step m.pending) 0 none

  idle_went : (after : Manager) → Effect m call after → Turn m call after → Went m after
  idle_went after (Begun b) t = begins_went m after rising b.may empty b.is
  idle_went after (Over o) t = absurd (no_step m.pending m.counter o.p rising o.there o.step idle)
  idle_went after (Besides b) t =
      let all = turn_many m call after b.turn rising in
      let over = ap (how_many is_step) (went_by m call after b.turn rising) ∙ ap length b.no_step_gone in
      let no_more = ap length b.no_step_more in
      let is_idle = idle in
      let same : sets_to_come after ≡ sets_to_come m = ap (λ o. length (steps_to_come o)) b.writing in
      let least = rising_below number m.counter b.turn.more after.counter b.turn.fresh in
      record {
        going = inl (eq-eqb (how_many is_step after.pending) 0 (omega (arith, all, over, no_more, is_idle)), same ∙ empty);
        sum = omega (arith, same, least);
        asks = λ few p there step.
            absurd (contains_none p (subst (λ ps. Contains ps p) (ap (filter is_step) (came_by m call after b.turn rising) ∙ b.no_step_more)
            (contains_filter is_step (only_in after m) p there step)));
      }

-- a writing runs
module _ (m : Manager) (w : Writing) (r : Running w m) where
  to_come : sets_to_come m ≡ length (steps_of w.later)
  to_come = ap (λ o. length (steps_to_come o)) r.writing

  quiet_went : (call : Call) → BeginsNone m call → Went m (after_call m call)
  quiet_went call none = let first = to_come in goes_went m (after_call m call) w (call_goes w m r call none) (omega (arith, first))

  running_went : (call : Call) → Went m (after_call m call)
  running_went Call.BeginSweep = quiet_went Call.BeginSweep tt
  running_went Call.Take = quiet_went Call.Take tt
  running_went (Call.Packet bytes from) = quiet_went (Call.Packet bytes from) tt
  running_went (Call.Timeout transaction) = quiet_went (Call.Timeout transaction) tt
  running_went (Call.Raise floor) = quiet_went (Call.Raise floor) tt
  running_went (Call.Merge floor sightings) = quiet_went (Call.Merge floor sightings) tt
  running_went (Call.Poll lid) = quiet_went (Call.Poll lid) tt
  running_went Call.Handover = quiet_went Call.Handover tt
  running_went Call.Yield = quiet_went Call.Yield tt
  running_went Call.Rediscover = quiet_went Call.Rediscover tt
  running_went Call.WriteSteps = by_fault (writing_fault m) refl
    where
      by_fault : (o : Option ManagerFault) → writing_fault m ≡ o → Went m (after_call m Call.WriteSteps)
      by_fault (Some why) e = quiet_went Call.WriteSteps (λ none. cc)
      by_fault None e =
          let idle = no_step_before m r.rising e in
          let nothing = ap length (r.idle (eq-eqb (how_many is_step m.pending) 0 idle)) in
          let first = to_come in
          begins_went m (after_call m Call.WriteSteps) r.rising e (omega (arith, first, nothing))
          (cond-true (is_none (writing_fault m)) (after_write_steps m) m (ap is_none e))

went : (m : Manager) (call : Call) → Rising m.counter m.pending → IsGoing m → Went m (after_call m call)
went m call rising (inl h) = idle_went m call rising h.0 h.1 (after_call m call) (effect m call) (turn m call)
went m call rising (inr h) = running_went m h.0 h.1 call

-- what of the steps that wait is over
module _ (W P : ℕ → Type 0) (m : Manager) (call : Call) where
  abbrev after : Manager
  after = after_call m call

  -- a step that waits after the call had W before and has P, or its Set was just queued
  pub waits_turn : Rising m.counter m.pending → m.counter ≤ 2 ^ 32 → IsGoing m
      → ((p : Pending) → Contains m.pending p → is_step p ≡ true → W p.number)
      → ((p : Pending) → Contains m.pending p → is_step p ≡ true → Contains (after_call m call).pending p → P p.number)
      → (p : Pending) → Contains (after_call m call).pending p → is_step p ≡ true
      → (W p.number × P p.number) ⊎ AnyAsks p.number (after_call m call).outgoing
  waits_turn rising few going waits still p there step =
      let t = turn m call in
      elim (Contains-append_cases (kept t.gone m.pending) t.more p (subst (λ ps. Contains ps p) t.is there)) [
        | inl old ↦ let in_m = kept_in t.gone m.pending p old in inl (waits p in_m step, still p in_m step there)
        | inr new ↦
            inr ((went m call rising going).asks (calls_fit (call ∷ []) m few) p
            (subst (λ ps. Contains ps p) (sym (came_by m call after t rising)) new) step)
      ]

  module _ (s : Steps W m) where
    -- those that still wait have P
    abbrev pub StillHave : Type 0
    StillHave = HasNumbers m → (p : Pending) → Contains m.pending p → is_step p ≡ true → Contains (after_call m call).pending p → P p.number

    pub steps_turn : StillHave → Steps (λ t. (W t × P t) ⊎ AnyAsks t (after_call m call).outgoing) (after_call m call)
    steps_turn still =
        let gone = went m call s.rising s.going in
        record {
          rising = turn_rises m call after (turn m call) s.rising;
          few = calls_fit (call ∷ []) m s.few;
          going = gone.going;
          waits = λ numbers.
              let sum = gone.sum in
              let before : HasNumbers m = omega (arith, sum, numbers) in
              waits_turn s.rising s.few s.going (s.waits before) (still before);
        }

-- a step that is over ---------------------------------------------------------------------------------------------

-- none with its number waits any more, of those that waited
module _ (m : Manager) (rising : Rising m.counter m.pending) (p : Pending) (there : Contains m.pending p) (n : ℕ) (same : p.number ≡ n) where
  pub without_it : Contains (without_number n m.pending) p → ⊥
  without_it h =
      let other = (contains-from_filter (λ (q : Pending). not (q.number == n)) m.pending p h).1 in
      let wrong : true ≡ false = sym other ∙ ap not (eq-eqb p.number n same) in
      absurd (cc)

  pub over_without : (q : Pending) (was_done : Bool) → q.number ≡ n → Contains (after_step m q was_done).pending p → ⊥
  over_without q was_done is = by_writing m.writing
    where
      low : p.number < m.counter
      low = at_member (λ (x : Pending). x.number < m.counter) m.pending p (all_below 0 m.pending m.counter rising) there

      gone : Contains (without_number q.number m.pending) p → ⊥
      gone h = without_it (subst (λ (k : ℕ). Contains (without_number k m.pending) p) is h)

      sent : (w : Writing) → Contains (without_number q.number m.pending ++ next_pending m.counter w.later) p → ⊥
      sent w h =
          elim (Contains-append_cases (without_number q.number m.pending) (next_pending m.counter w.later) p h) [
            | inl old ↦ gone old
            | inr new ↦
                let high = at_member (λ (x : Pending). m.counter ≤ x.number) (next_pending m.counter w.later) p
                (all_from m.counter m.counter (next_pending m.counter w.later) (m.counter + length (next_phase w.later).steps) (omega arith)
                (rising_phase (next_phase w.later).counts m.counter (next_phase w.later).steps)) new in
                let small = low in
                absurd (omega (arith, high, small))
          ]

      by_writing : (o : Option Writing) → Contains (went_on_with (over_by m q was_done o) (noted (counts q) was_done o)).pending p → ⊥
      by_writing None h = gone h
      by_writing (Some w) h =
          cond_both (no_step_waits (without_number q.number m.pending)) _ _ (λ (x : Manager). Contains x.pending p → ⊥) (λ _. sent w) (λ _. gone) h

-- the timeout of a step ends it, as long as numbers are left
module _ (w : Writing) (m : Manager) (r : Running w m) (few : m.counter ≤ 2 ^ 32) (numbers : HasNumbers m) (p : Pending) (there : Contains m.pending p)
    (step : is_step p ≡ true) where
  found : with_number p.number m.pending ≡ Some p
  found =
      find_only (λ (q : Pending). q.number == p.number) m.pending p there (eq-eqb p.number p.number refl)
      (λ q h same. is_it q
      (subst (λ ps. Contains ps q) (only_one m.pending p (rising_ordered number 0 m.pending m.counter r.rising) there)
      (contains_filter (λ (x : Pending). x.number == p.number) m.pending q h same)))
    where
      is_it : (q : Pending) → Contains (p ∷ []) q → q ≡ p
      is_it q h = elim (contains_cases p q [] h) [ inl e ↦ sym e | inr none ↦ absurd (contains_none q none) ]

  fits : (after_step m p false).counter ≤ 2 ^ 32
  fits =
      let goes = step_goes w m r (Call.Timeout p.number) p there refl false in
      let counter = goes.counter in
      let long = sym (length-append goes.goes.sent (steps_of goes.goes.going.later)) ∙ ap length goes.goes.all in
      let first = to_come m w r in
      omega (arith, counter, long, first, numbers)

  pub gives_up : after_call m (Call.Timeout p.number) ≡ after_step m p false
  gives_up =
      let low =
      at_member (λ (q : Pending). q.number < m.counter) m.pending p (all_below 0 m.pending m.counter r.rising) there in
      ap (λ (x : Called). x.manager)
      (cond-false (nat_le (2 ^ 32) p.number) (sweep_gave_up m p.number m.sweep) (request_gave_up m (with_number p.number m.pending))
      (lt-leb (2 ^ 32) p.number (omega (arith, low, few)))
      ∙ ap (request_gave_up m) found)
      ∙ by_purpose p.purpose step
    where
      by_purpose : (u : Purpose) → is_step (record p { purpose = u }) ≡ true → (after_request m p None u).manager ≡ after_step m p false
      by_purpose purpose.Poll e = absurd (cc)
      by_purpose purpose.Control e = absurd (cc)
      by_purpose (purpose.Step c) e =
          let after = after_step m p false in
          ap (λ (x : Called). x.manager) (cond-false (is_spent after) (refused m SequenceSpent) (done after) (le-ltb (2 ^ 32) after.counter fits))

pub timeout_steps : (W : ℕ → Type 0) (m : Manager) (s : Steps W m) (transaction : ℕ)
    → Steps (λ t. (W t × (t ≡ transaction → ⊥)) ⊎ AnyAsks t (after_call m (Call.Timeout transaction)).outgoing) (after_call m (Call.Timeout transaction))
timeout_steps W m s transaction =
    steps_turn W (λ t. t ≡ transaction → ⊥) m (Call.Timeout transaction) s
    (λ numbers p there step still same. by_going s.going numbers p there step still same)
  where
    by_going : IsGoing m → HasNumbers m → (p : Pending) → Contains m.pending p → is_step p ≡ true
        → Contains (after_call m (Call.Timeout transaction)).pending p → p.number ≡ transaction → ⊥
    by_going (inl none) numbers p there step still same =
        no_step m.pending m.counter p s.rising there step (eqb-true (how_many is_step m.pending) 0 none.0)
    by_going (inr h) numbers p there step still same =
        let is : after_call m (Call.Timeout transaction) ≡ after_step m p false =
        ap (λ n. after_call m (Call.Timeout n)) (sym same) ∙ gives_up h.0 m h.1 s.few numbers p there step in
        over_without m s.rising p there transaction same p false same (subst (λ (x : Manager). Contains x.pending p) is still)

-- other steps -----------------------------------------------------------------------------------------------------

-- a new manager has none
pub steps_first : {W : ℕ → Type 0} {guid port priority : ℕ} {conduct : Conduct} {planning : Planning}
    → Steps W (new_manager guid port priority conduct planning)
steps_first = record { rising = omega arith; few = omega arith; going = inl (refl, refl); waits = λ numbers p there step. absurd (contains_none p there) }

-- what is given out changes nothing of them
pub steps_emptied : (W : ℕ → Type 0) (m : Manager) → Steps W m → Steps W (emptied m)
steps_emptied W m s =
    record {
      rising = s.rising;
      few = s.few;
      going = elim s.going [
        | inl h ↦ inl h
        | inr h ↦ inr (h.0, record { writing = h.1.writing; starts = h.1.starts; idle = h.1.idle; rising = h.1.rising; others = h.1.others })
      ];
      waits = s.waits;
    }

pub number_small : (W : ℕ → Type 0) (m : Manager) (s : Steps W m) (p : Pending) → Contains m.pending p → p.number < 2 ^ 32
number_small W m s p there =
    let low = at_member (λ (x : Pending). x.number < m.counter) m.pending p (all_below 0 m.pending m.counter s.rising) there in
    let few = s.few in
    omega (arith, low, few)

some_waits : (ps : List Pending) → no_step_waits ps ≡ false → (p : Pending) × Contains ps p × (is_step p ≡ true)
some_waits ps e = by_steps (filter is_step ps) refl
  where
    by_steps : (steps : List Pending) → filter is_step ps ≡ steps → (p : Pending) × Contains ps p × (is_step p ≡ true)
    by_steps [] none = absurd (cc (sym e ∙ ap (λ (xs : List Pending). length xs == 0) none))
    by_steps (p ∷ steps) is =
        let of = contains-from_filter is_step ps p (subst (λ xs. Contains xs p) (sym is) (contains_here p steps)) in
        (p, of.0, of.1)

-- if no step waits, the writing is over
pub over_where_none : (m : Manager) → IsGoing m → ((p : Pending) → Contains m.pending p → is_step p ≡ true → ⊥) → IsOver m
over_where_none m going none = by_waits (no_step_waits m.pending) refl
  where
    to_send : no_step_waits m.pending ≡ true → IsGoing m → steps_to_come m.writing ≡ []
    to_send e (inl h) = none_long (steps_to_come m.writing) h.1
    to_send e (inr h) = ap steps_to_come h.1.writing ∙ h.1.idle e

    by_waits : (b : Bool) → no_step_waits m.pending ≡ b → IsOver m
    by_waits true e = record { none_waits = e; none_to_come = to_send e going }
    by_waits false e = let p = some_waits m.pending e in absurd (none p.0 p.1 p.2)

-- where nothing is awaited, the writing is over
pub writing_over : (W : ℕ → Type 0) (m : Manager) → Steps W m → HasNumbers m → ((t : ℕ) → W t → ⊥) → IsOver m
writing_over W m s numbers none = over_where_none m s.going (λ p there step. none p.number (s.waits numbers p there step))
