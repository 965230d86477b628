-- What a call does to the requests that wait, and how the writing goes on by it.
use Rattle.std.proofs.Common.{◌≡◌, ◌≤◌, ◌+◌, ℕ, suc, Bool, true, false, cond, List, [], ◌∷◌, ◌++◌, append-nil, length}
use Rattle.std.proofs.Common.{refl, sym, ap, ◌∙◌, subst, arith}
use Rattle.std.proofs.lemmas.Bool.{cond-true, cond_both, eq-eqb, eqb-true}
use Rattle.std.specs.Prelude.{◌==◌, ◌&&◌, ◌||◌, Contains, Option, Some, None, drop, filter, not}
use Rattle.request_table.proofs.Numbers.{rising_below, rising_more}
use Rattle.plan_steps.specs.Step.{set_packet}
use Rattle.plan_steps.specs.declared.step.Step.{Step}
use Rattle.plan_steps.specs.Phase.{Phase}
use Rattle.sm_manager.specs.declared.pending.Pending.{Pending}
use Rattle.sm_manager.specs.StepsAnswered.{BeginsNone, one_if}
use Rattle.sm_manager.specs.CallLists.{Call, after_call}
use Rattle.sm_manager.specs.Manager.{Manager, Writing}
use Rattle.sm_manager.specs.ManagerRequests.{counts, how_many, is_step, no_step_waits, without_number}
use Rattle.sm_manager.specs.Writing.{next_pending, next_phase, noted, numbered, pending_step, steps_out}
use Rattle.sm_manager.specs.Writing.{without_empty_phases}
use Rattle.sm_manager.specs.Writing.{phase_sent, phases_by, after_step, went_on_with}
use Rattle.sm_manager.proofs.CountedSteps.{Rising, StartsWithSteps, passed_starts, rising_filtered, rising_phase}
use Rattle.manager_laws.specs.WritingEnds.{IsEndOf, is_set, only_in, sets_since, steps_of}
use Rattle.manager_laws.proofs.writing_ends.Effects.{BesideCall, Begun, Besides, Effect, Over, Turn, effect, sets_in, since}
use Rattle.manager_laws.proofs.writing_ends.Effects.{since_same}
use Rattle.manager_laws.proofs.writing_ends.Attributes.{AreOthers, others_parts}
use Rattle.manager_laws.proofs.writing_ends.Headers.{sets}
use Rattle.manager_laws.proofs.writing_ends.Lists.{IsIn, came, kept, lacks, listed, many_in_both, none_long, number, steps_over}
use Rattle.manager_laws.proofs.writing_ends.Lists.{went}

-- one turn after each call ----------------------------------------------------------------------------------

-- a step is over, and its writing knows whether it was done
abbrev pub over_by : Manager → Pending → Bool → Option Writing → Manager
over_by m p was_done w = record m { pending = without_number p.number m.pending; writing = noted (counts p) was_done w }

abbrev pub marked : Pending → Bool → Writing → Writing
marked p was_done w = record w { has_failed = w.has_failed || (counts p && not was_done) }

module _ (m : Manager) (call : Call) (p : Pending) (was_done : Bool) (there : Contains m.pending p)
    (ends : IsEndOf p call) where
  alone_turn : (o : Option Writing) → Turn m call (over_by m p was_done o)
  alone_turn o =
      record {
        gone = Some p;
        is_in = there;
        ended = ends;
        more = [];
        is = sym (append-nil (without_number p.number m.pending));
        fresh = omega arith;
      }

  sent_turn : (w : Writing) → Turn m call (phase_sent (over_by m p was_done (Some w)) (marked p was_done w))
  sent_turn w =
      record {
        gone = Some p;
        is_in = there;
        ended = ends;
        more = next_pending m.counter w.later;
        is = refl;
        fresh = rising_phase (next_phase w.later).counts m.counter (next_phase w.later).steps;
      }

  pub step_turn : Turn m call (after_step m p was_done)
  step_turn = by_writing m.writing
    where
      by_writing : (o : Option Writing)
          → Turn m call (went_on_with (over_by m p was_done o) (noted (counts p) was_done o))
      by_writing None = alone_turn None
      by_writing (Some w) =
          cond_both (no_step_waits (without_number p.number m.pending))
          (phase_sent (over_by m p was_done (Some w)) (marked p was_done w))
          (over_by m p was_done (Some w)) (Turn m call) (λ _. sent_turn w) (λ _. alone_turn (Some w))

-- a writing's first phase
abbrev pub first_writing : Manager → Writing
first_writing m = record { later = without_empty_phases (phases_by m m.sweep); has_failed = false }

unfoldable pub begun_turn : (m : Manager) (call : Call) → Turn m call (phase_sent m (first_writing m))
begun_turn m call =
    record {
      gone = None;
      is_in = tt;
      ended = tt;
      more = next_pending m.counter (first_writing m).later;
      is = refl;
      fresh =
          rising_phase (next_phase (first_writing m).later).counts m.counter (next_phase (first_writing m).later).steps;
    }

pub turn : (m : Manager) (call : Call) → Turn m call (after_call m call)
turn m call = by_effect (after_call m call) (effect m call)
  where
    by_effect : (after : Manager) → Effect m call after → Turn m call after
    by_effect after (Besides b) = b.turn
    by_effect after (Over o) = subst (Turn m call) (sym o.is) (step_turn m call o.p o.was_done o.there o.ends)
    by_effect after (Begun b) = subst (Turn m call) (sym b.is) (begun_turn m call)

module _ (m : Manager) (call : Call) (after : Manager) (t : Turn m call after)
    (rising : Rising m.counter m.pending) where
  pub turn_rises : Rising after.counter after.pending
  turn_rises =
      subst (λ ps. Rising after.counter ps) (sym t.is)
      (rising_more number 0 (kept t.gone m.pending) t.more m.counter after.counter (left t.gone) t.fresh)
    where
      left : (o : Option Pending) → Rising m.counter (kept o m.pending)
      left None = rising
      left (Some p) = rising_filtered (λ (q : Pending). not (q.number == p.number)) 0 m.pending m.counter rising

  pub came_by : only_in after m ≡ t.more
  came_by =
      ap (filter (lacks m.pending)) t.is ∙ came m.counter after.counter m.pending t.more t.gone rising t.fresh t.is_in

  pub went_by : only_in m after ≡ listed t.gone
  went_by =
      ap (λ ps. filter (lacks ps) m.pending) t.is
      ∙ went m.counter after.counter m.pending t.more t.gone rising t.fresh t.is_in

  -- how many steps wait
  pub turn_many : how_many is_step after.pending + how_many is_step (only_in m after)
      ≡ how_many is_step m.pending + how_many is_step t.more
  turn_many =
      let all = ap (how_many is_step) t.is ∙ many_in_both is_step (kept t.gone m.pending) t.more in
      let over = ap (how_many is_step) went_by in
      let before = left t.gone t.is_in in
      omega (arith, all, over, before)
    where
      one : (p : Pending) → how_many is_step (p ∷ []) ≡ one_if (is_step p)
      one p = by_test (is_step p)
        where
          by_test : (b : Bool) → length (cond b (p ∷ []) []) ≡ one_if b
          by_test true = refl
          by_test false = refl

      left : (o : Option Pending) → IsIn m.pending o
          → how_many is_step (kept o m.pending) + how_many is_step (listed o) ≡ how_many is_step m.pending
      left None h = omega arith
      left (Some p) h =
          let less = steps_over m.counter m.pending p rising h in let is_one = one p in omega (arith, less, is_one)

-- the steps of a phase --------------------------------------------------------------------------------------

numbered_steps : (c : Bool) (n : ℕ) (steps : List Step) → filter is_step (numbered c n steps) ≡ numbered c n steps
numbered_steps c n [] = refl
numbered_steps c n (s ∷ steps) = ap (λ ps. pending_step n c s ∷ ps) (numbered_steps c (suc n) steps)

numbered_long : (c : Bool) (n : ℕ) (steps : List Step) → length (numbered c n steps) ≡ length steps
numbered_long c n [] = refl
numbered_long c n (s ∷ steps) = ap suc (numbered_long c (suc n) steps)

numbered_many : (c : Bool) (n : ℕ) (steps : List Step) → how_many is_step (numbered c n steps) ≡ length steps
numbered_many c n steps = ap length (numbered_steps c n steps) ∙ numbered_long c n steps

pub passed_steps : (phases : List Phase) → steps_of (without_empty_phases phases) ≡ steps_of phases
passed_steps [] = refl
passed_steps (p ∷ phases) =
    cond_both (length p.steps == 0) (without_empty_phases phases) (p ∷ phases)
    (λ xs. steps_of xs ≡ steps_of (p ∷ phases))
    (λ e. passed_steps phases ∙ sym (ap (λ steps. steps ++ steps_of phases) (none_long p.steps (eqb-true _ _ e))))
    (λ _. refl)

first_steps : (phases : List Phase)
    → (next_phase phases).steps ++ steps_of (without_empty_phases (drop 1 phases)) ≡ steps_of phases
first_steps [] = refl
first_steps (p ∷ phases) = ap (λ steps. p.steps ++ steps) (passed_steps phases)

-- and their Sets
sets_of : (steps : List Step) (n : ℕ) → AreOthers steps → sets_in (steps_out n steps) ≡ steps_out n steps
sets_of [] n all = refl
sets_of (s ∷ steps) n all =
    cond-true (is_set (set_packet n s)) _ _ (sets s.attribute s.modifier n s.path s.payload all.0.0 all.0.1)
    ∙ ap (λ rest. record { packet = set_packet n s; to = None } ∷ rest) (sets_of steps (suc n) all.1)

pub out_long : (steps : List Step) (n : ℕ) → length (steps_out n steps) ≡ length steps
out_long [] n = refl
out_long (s ∷ steps) n = ap suc (out_long steps (suc n))

-- how a writing goes on -------------------------------------------------------------------------------------

-- the writing `w` runs, or is over
pub record Running (w : Writing) (m : Manager) : Type 0 where
  pub writing : m.writing ≡ Some w
  pub starts : StartsWithSteps w.later
  pub idle : no_step_waits m.pending ≡ true → steps_of w.later ≡ []
  pub rising : Rising m.counter m.pending
  pub others : AreOthers (steps_of w.later)

-- steps may be over, and the next ones of the writing may be asked
pub record Goes (w : Writing) (m after : Manager) : Type 0 where
  pub going : Writing
  pub running : Running going after
  pub counts : Bool
  pub sent : List Step
  pub asked : filter is_step (only_in after m) ≡ numbered counts m.counter sent
  pub queued : sets_since m after ≡ steps_out m.counter sent
  pub all : sent ++ steps_of going.later ≡ steps_of w.later
  pub upto : m.counter + length sent ≤ after.counter
  pub many : how_many is_step after.pending + how_many is_step (only_in m after)
      ≡ how_many is_step m.pending + length sent

-- none is asked
module _ (w : Writing) (m : Manager) (call : Call) (after : Manager) (t : Turn m call after)
    (rising : Rising m.counter m.pending) where
  quiet_goes : (going : Writing) → Running going after → steps_of going.later ≡ steps_of w.later
      → filter is_step t.more ≡ [] → sets_since m after ≡ []
      → Goes w m after
  quiet_goes going running same none no_set =
      record {
        going = going;
        running = running;
        counts = false;
        sent = [];
        asked = ap (filter is_step) (came_by m call after t rising) ∙ none;
        queued = no_set;
        all = same;
        upto = let least = rising_below number m.counter t.more after.counter t.fresh in omega (arith, least);
        many = let all = turn_many m call after t rising in let no_more = ap length none in omega (arith, all, no_more);
      }

-- a phase is asked
module _ (m : Manager) (call : Call) (x : Manager) (w : Writing) (t : Turn m call (phase_sent x w))
    (rising : Rising m.counter m.pending) (more : t.more ≡ next_pending m.counter w.later)
    (counter : x.counter ≡ m.counter)
    (outgoing : x.outgoing ≡ m.outgoing)
    (starts : StartsWithSteps w.later) (others : AreOthers (steps_of w.later)) where
  parts : AreOthers (next_phase w.later).steps × AreOthers (steps_of (without_empty_phases (drop 1 w.later)))
  parts =
      others_parts (next_phase w.later).steps (steps_of (without_empty_phases (drop 1 w.later)))
      (subst AreOthers (sym (first_steps w.later)) others)

  waits_for_none : no_step_waits (phase_sent x w).pending ≡ true → steps_of (without_empty_phases (drop 1 w.later)) ≡ []
  waits_for_none e =
      let none = eqb-true (how_many is_step (phase_sent x w).pending) 0 e in
      let all = many_in_both is_step x.pending (next_pending x.counter w.later) in
      let phase = numbered_many (next_phase w.later).counts x.counter (next_phase w.later).steps in
      by_later w.later starts (omega (arith, none, all, phase))
    where
      by_later : (later : List Phase) → StartsWithSteps later → length (next_phase later).steps ≡ 0
          → steps_of (without_empty_phases (drop 1 later)) ≡ []
      by_later [] h long = refl
      by_later (p ∷ phases) h long = absurd (cc (sym (eq-eqb (length p.steps) 0 long) ∙ h))

  pub phase_goes : (all_of : List Step) → steps_of w.later ≡ all_of → (v : Writing) → steps_of v.later ≡ all_of
      → Goes v m (phase_sent x w)
  phase_goes all_of is v of_v =
      record {
        going = record w { later = without_empty_phases (drop 1 w.later) };
        running =
            record {
              writing = refl;
              starts = passed_starts (drop 1 w.later);
              idle = waits_for_none;
              rising = turn_rises m call (phase_sent x w) t rising;
              others = parts.1;
            };
        counts = (next_phase w.later).counts;
        sent = (next_phase w.later).steps;
        asked = ap (filter is_step) (came_by m call (phase_sent x w) t rising ∙ more)
            ∙ numbered_steps (next_phase w.later).counts m.counter (next_phase w.later).steps;
        queued = since m (phase_sent x w) (steps_out m.counter (next_phase w.later).steps)
            ((λ i. outgoing i ++ steps_out (counter i) (next_phase w.later).steps))
            ∙ sets_of (next_phase w.later).steps m.counter parts.0;
        all = first_steps w.later ∙ is ∙ sym of_v;
        upto = omega (arith, counter);
        many = let all = turn_many m call (phase_sent x w) t rising in
            let long =
            ap (how_many is_step) more
            ∙ numbered_many (next_phase w.later).counts m.counter (next_phase w.later).steps in
            omega (arith, all, long);
      }

-- a step is over
pub record StepGoes (w : Writing) (m : Manager) (p : Pending) (after : Manager) : Type 0 where
  pub goes : Goes w m after
  pub counter : after.counter ≡ m.counter + length goes.sent
  pub over : only_in m after ≡ p ∷ []

module _ (w : Writing) (m : Manager) (r : Running w m) (call : Call) where
  pub step_goes : (p : Pending) → Contains m.pending p → IsEndOf p call → (was_done : Bool)
      → StepGoes w m p (after_step m p was_done)
  unfolding sent_turn alone_turn quiet_goes phase_goes
  step_goes p there ends was_done =
      subst (λ (o : Option Writing). StepGoes w m p
      (went_on_with (over_by m p was_done o) (noted (counts p) was_done o))) (sym r.writing)
      (cond_both (no_step_waits (without_number p.number m.pending)) (phase_sent over next) over (StepGoes w m p)
      (λ _. record {
        goes =
            phase_goes m call over next (sent_turn m call p was_done there ends w) r.rising refl refl refl
            r.starts r.others
            (steps_of w.later) refl w refl;
        counter = refl;
        over = went_by m call (phase_sent over next) (sent_turn m call p was_done there ends w) r.rising;
      })
      (λ waits. record {
        goes = quiet_goes w m call over (alone_turn m call p was_done there ends (Some w)) r.rising next
            (record {
              writing = refl;
              starts = r.starts;
              idle = λ none. absurd (cc (sym waits ∙ none));
              rising = turn_rises m call over (alone_turn m call p was_done there ends (Some w)) r.rising;
              others = r.others;
            }) refl refl (since_same m over refl);
        counter = let same : m.counter ≡ m.counter + 0 = omega arith in same;
        over = went_by m call over (alone_turn m call p was_done there ends (Some w)) r.rising;
      }))
    where
      over : Manager
      over = over_by m p was_done (Some w)

      next : Writing
      next = marked p was_done w

  beside_goes : (after : Manager) → BesideCall m call after → Goes w m after
  beside_goes after b =
      quiet_goes w m call after b.turn r.rising w
      (record {
        writing = b.writing ∙ r.writing;
        starts = r.starts;
        idle = λ none. r.idle (ap (λ n. n == 0) (sym as_many) ∙ none);
        rising = turn_rises m call after b.turn r.rising;
        others = r.others;
      }) refl b.no_step_more b.no_set
    where
      as_many : how_many is_step after.pending ≡ how_many is_step m.pending
      as_many =
          let all = turn_many m call after b.turn r.rising in
          let over = ap (how_many is_step) (went_by m call after b.turn r.rising) ∙ ap length b.no_step_gone in
          let no_more = ap length b.no_step_more in
          omega (arith, all, over, no_more)

  -- a call that begins no writing
  pub call_goes : BeginsNone m call → Goes w m (after_call m call)
  call_goes none = by_effect (after_call m call) (effect m call)
    where
      by_effect : (after : Manager) → Effect m call after → Goes w m after
      by_effect after (Besides b) = beside_goes after b
      by_effect after (Over o) = subst (Goes w m) (sym o.is) (step_goes o.p o.there o.ends o.was_done).goes
      by_effect after (Begun b) = absurd (b.begins none)
