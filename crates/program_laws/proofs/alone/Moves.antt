-- What a packet or a time-out does to the state of a manager that hears no word of another one.
use Rattle.std.proofs.Common.{◌≡◌, ◌≢◌, ◌∙◌, ◌⊎◌, inl, inr, ℕ, ◌-◌, ◌<◌, ◌≤◌, ◌^◌, Bool, true, false, cond, ◌&&◌, not, List, [], ◌∷◌, ◌++◌, refl, sym, ap, subst, arith}
use Rattle.std.proofs.lemmas.Bool.{and_parts, cond_both, cond-true, eq-eqb, eqb-true, lt-leb, ltb-true}
use Rattle.std.specs.Prelude.{◌==◌, ◌||◌, Option, Some, None, Result, Ok, Err, nat_le, nat_lt}
use Rattle.smp_bytes.specs.Field.{bytes_in, number_in}
use Rattle.smp_bytes.specs.Header.{get_resp, set, sm_info}
use Rattle.smp_bytes.specs.Packet.{attribute_data, attribute_id, fault_of, is_directed, is_response, method, status, transaction_id}
use Rattle.smp_bytes.specs.declared.smp_fault.SmpFault.{SmpFault}
use Rattle.attr_codec.specs.SmInfo.{sm_info_in}
use Rattle.attr_codec.specs.declared.sm_info.SmInfo.{SmInfo}
use Rattle.subnet_view.proofs.Apart.{found_there}
use Rattle.sweep.specs.declared.answer.Answer.{Answer}
use Rattle.sweep.specs.declared.fault.SweepFault.{SweepFault}
use Rattle.sweep.specs.declared.question.Question.{Question}
use Rattle.sweep.specs.declared.question.Question.TheVariants as ask
use Rattle.sweep.specs.declared.request.Request.{Request}
use Rattle.sweep.specs.Replies.{after_reply, answer_by, belongs, judged, report_for}
use Rattle.sweep.specs.Sweep.{Sweep, after_timeout as sweep_after_timeout, attribute_asked, is_done, timeout_fault, transaction_of}
use Rattle.sm_state.specs.Conduct.{is_live, key_of}
use Rattle.sm_state.specs.Election.{any_outranks, outranks}
use Rattle.sm_state.specs.Standing.{active_once_more, info_of, is_in, moved_by, moved_to, one_more, poll_lost}
use Rattle.sm_state.specs.State.{number_of_state}
use Rattle.sm_state.specs.Transitions.{stepped}
use Rattle.sm_state.specs.declared.conduct.Conduct.{Conduct}
use Rattle.sm_state.specs.declared.election.SeenManager.{SeenManager}
use Rattle.sm_state.specs.declared.event.Event.TheVariants.{Outranked, PollsUnanswered, Unrivalled}
use Rattle.sm_state.specs.declared.standing.Standing.{Standing}
use Rattle.sm_state.specs.declared.state.SmState.{SmState}
use Rattle.sm_state.specs.declared.state.SmState.TheVariants.{NotActive, Discovering, Standby, Master}
use Rattle.sm_manager.specs.CallLists.{Call, after_call}
use Rattle.sm_manager.specs.Election.{is_handover, is_relieved}
use Rattle.sm_manager.specs.Manager.{Manager, Writing, after_sweep, after_verdict, is_over, is_running, with_sweep}
use Rattle.sm_manager.specs.ManagerRequests.{counts, is_for_step, no_step_waits, with_number, without_number}
use Rattle.sm_manager.specs.NotedManagers.{with_seen}
use Rattle.sm_manager.specs.Packets.{Called, after_request, answered_by, answers, done, is_for_sweep, is_info_request, packet_taken, pending_for, refused}
use Rattle.sm_manager.specs.Packets.{request_answered, request_gave_up, sweep_answered, sweep_gave_up, sweep_timed_out, unless_spent, with_answer}
use Rattle.sm_manager.specs.SmInfoAnswers.{controlled, is_control as may_control, replying, served}
use Rattle.sm_manager.specs.Traps.{represses, repressing}
use Rattle.sm_manager.specs.Writing.{after_step, is_done_by, is_spent, noted, phase_sent, went_on_with, without}
use Rattle.sm_manager.specs.declared.fault.ManagerFault.TheVariants.{SequenceSpent}
use Rattle.sm_manager.specs.declared.pending.Pending.{Pending}
use Rattle.sm_manager.specs.declared.pending.Purpose.{Purpose}
use Rattle.sm_manager.specs.declared.pending.Purpose.TheVariants as purpose
use Rattle.acting_manager.specs.Heard.{answers_poll}
use Rattle.manager_laws.proofs.Accepted.{accepted}
use Rattle.manager_laws.proofs.writing_ends.Lists.{at_member}
use Rattle.program_laws.specs.Alone.{is_word}
use Rattle.program_laws.proofs.alone.InfoOnly.{InfoOnly, IsInfo}
use Rattle.program_laws.proofs.wakes.Makes.{and_both, ends_none, responds, takes_none}

-- who a manager is ----------------------------------------------------------------------------------------------------

-- the port and the priority, and how the manager deals with others
pub record SameWho (s t : Standing) : Type 0 where
  pub guid : t.guid ≡ s.guid
  pub priority : t.priority ≡ s.priority
  pub conduct : t.conduct ≡ s.conduct

-- by these it is known who outranks the manager
abbrev outranked_by : ℕ → ℕ → Conduct → List SeenManager → Bool
outranked_by guid priority conduct seen =
    any_outranks (record { guid = guid; sm_key = key_of conduct; act_count = 0; priority = priority; state = 0 }) seen

pub same_rank : (s t : Standing) (seen : List SeenManager) → SameWho s t → any_outranks (info_of t) seen ≡ any_outranks (info_of s) seen
same_rank s t seen w = λ i. outranked_by (w.guid i) (w.priority i) (w.conduct i) seen

-- no manager that the last sweep saw outranks this one
abbrev pub Clean : Manager → Type 0
Clean m = any_outranks (info_of m.standing) m.seen ≡ false

-- states --------------------------------------------------------------------------------------------------------------

pub state_is : (one other : SmState) → (number_of_state one == number_of_state other) ≡ true → one ≡ other
state_is NotActive NotActive e = refl
state_is Discovering Discovering e = refl
state_is Standby Standby e = refl
state_is Master Master e = refl
state_is NotActive Discovering e = absurd (cc)
state_is NotActive Standby e = absurd (cc)
state_is NotActive Master e = absurd (cc)
state_is Discovering NotActive e = absurd (cc)
state_is Discovering Standby e = absurd (cc)
state_is Discovering Master e = absurd (cc)
state_is Standby NotActive e = absurd (cc)
state_is Standby Discovering e = absurd (cc)
state_is Standby Master e = absurd (cc)
state_is Master NotActive e = absurd (cc)
state_is Master Discovering e = absurd (cc)
state_is Master Standby e = absurd (cc)

pub moved_who : (state : SmState) (s : Standing) → SameWho s (moved_to state s)
moved_who state s =
    cond_both (is_in state s) s (record s { state = state; polls_lost = 0 }) (SameWho s) (λ _. record { guid = refl; priority = refl; conduct = refl })
    (λ _. record { guid = refl; priority = refl; conduct = refl })

pub moved_state : (state : SmState) (s : Standing) → (moved_to state s).state ≡ state
moved_state state s =
    cond_both (is_in state s) s (record s { state = state; polls_lost = 0 }) (λ (t : Standing). t.state ≡ state) (λ e. state_is s.state state e) (λ _. refl)

-- a state that it is in
pub moved_none : (state : SmState) (s : Standing) → s.state ≡ state → moved_to state s ≡ s
moved_none state s e = cond-true (is_in state s) s (record s { state = state; polls_lost = 0 })
    (eq-eqb (number_of_state s.state) (number_of_state state) (ap number_of_state e))

-- the state after the end of a sweep
abbrev verdict_in : Conduct → Bool → SmState → SmState
verdict_in conduct outranked state = (stepped conduct state (cond outranked Outranked Unrivalled)).state

verdict_master : (conduct : Conduct) (b : Bool) → verdict_in conduct b Master ≡ Master
verdict_master conduct true = refl
verdict_master conduct false = refl

verdict_standby : (conduct : Conduct) (b : Bool) → verdict_in conduct b Standby ≡ Standby
verdict_standby conduct true = refl
verdict_standby conduct false = refl

verdict_active : (conduct : Conduct) (b : Bool) (state : SmState) → state ≢ NotActive → verdict_in conduct b state ≢ NotActive
verdict_active conduct true Discovering active = λ e. cc
verdict_active conduct false Discovering active = λ e. cc
verdict_active conduct true Standby active = λ e. cc
verdict_active conduct false Standby active = λ e. cc
verdict_active conduct true Master active = λ e. cc
verdict_active conduct false Master active = λ e. cc
verdict_active conduct b NotActive active = absurd (active refl)

-- moves -----------------------------------------------------------------------------------------------------------------

-- the manager `m` becomes `n`: as master it stays that; as standby it stays that, having lost no fewer polls, or discovers; and
-- if it discovers, and the sweep that runs has seen none that outranks it, it discovers on, or is master
pub record Moves (m n : Manager) : Type 0 where
  pub clean : Clean m → Clean n
  pub idle : is_running m.sweep ≡ false → is_running n.sweep ≡ false
  pub master : m.standing.state ≡ Master → n.standing.state ≡ Master
  pub stood : m.standing.state ≡ Standby
      → ((n.standing.state ≡ Standby) × (2 - n.standing.polls_lost ≤ 2 - m.standing.polls_lost)) ⊎ (n.standing.state ≡ Discovering)
  pub found : m.standing.state ≡ Discovering → Clean m ⊎ (is_running m.sweep ≡ false)
      → ((n.standing.state ≡ Discovering) × (is_running m.sweep ≡ true → is_running n.sweep ≡ true)) ⊎ (n.standing.state ≡ Master)
  pub active : m.standing.state ≢ NotActive → n.standing.state ≢ NotActive

module _ (m : Manager) where
  -- the state is as before
  stays : (n : Manager) → SameWho m.standing n.standing → n.seen ≡ m.seen → n.sweep ≡ m.sweep → n.standing.state ≡ m.standing.state
      → n.standing.polls_lost ≡ m.standing.polls_lost → Moves m n
  stays n who seen sweep state lost =
      record {
        clean = λ clean. ap (any_outranks (info_of n.standing)) seen ∙ same_rank m.standing n.standing m.seen who ∙ clean;
        idle = λ idle. ap is_running sweep ∙ idle;
        master = λ e. state ∙ e;
        stood = λ e. inl (state ∙ e, omega (arith, lost));
        found = λ e _. inl (state ∙ e, λ runs. ap is_running sweep ∙ runs);
        active = λ active e. active (sym state ∙ e);
      }

  same : Moves m m
  same = stays m (record { guid = refl; priority = refl; conduct = refl }) refl refl refl refl

  abbrev MovesTo : Called → Type 0
  MovesTo c = Moves m c.manager

  unspent : (n : Manager) → Moves m n → MovesTo (unless_spent m n)
  unspent n h = cond_both (is_spent n) (refused m SequenceSpent) (done n) MovesTo (λ _. same) (λ _. h)

  -- a sweep that runs goes on, or is over ---------------------------------------------------------------------------------

  module _ (runs : is_running m.sweep ≡ true) (seen : List SeenManager) (clean : Clean m → any_outranks (info_of m.standing) seen ≡ false) where
    -- the manager with what it has seen
    module _ (x : Manager) (t : Sweep) (standing_is : x.standing ≡ m.standing) (seen_is : x.seen ≡ seen) (sweep_is : x.sweep ≡ Some t) where
      abbrev b : Bool
      b = any_outranks (info_of x.standing) x.seen

      clean_x : Clean m → Clean x
      clean_x c = (λ i. any_outranks (info_of (standing_is i)) (seen_is i)) ∙ clean c

      none_idle : {X : Type 0} → is_running m.sweep ≡ false → X
      none_idle idle = let wrong : true ≡ false = sym runs ∙ idle in absurd (cc)

      ended : Moves m (record x { standing = after_verdict x.seen x.standing })
      ended =
          record {
            clean = λ c. same_rank x.standing s x.seen who ∙ clean_x c;
            idle = λ idle. none_idle idle;
            master = λ e. state ∙ ap (verdict_in x.standing.conduct b) (was ∙ e) ∙ verdict_master x.standing.conduct b;
            stood = λ e.
                let still = moved_none (verdict_in x.standing.conduct b x.standing.state) x.standing
                (was ∙ e ∙ sym (verdict_standby x.standing.conduct b) ∙ ap (verdict_in x.standing.conduct b) (sym (was ∙ e))) in
                let lost : s.polls_lost ≡ m.standing.polls_lost = ap (λ (z : Standing). z.polls_lost) (still ∙ standing_is) in
                inl (ap (λ (z : Standing). z.state) still ∙ was ∙ e, omega (arith, lost));
            found = λ e or. elim or [
              | inl c ↦ inr (state ∙ (λ i. verdict_in x.standing.conduct (clean_x c i) ((was ∙ e) i)))
              | inr idle ↦ none_idle idle
            ];
            active = λ active e.
                verdict_active x.standing.conduct b x.standing.state (λ is. active (sym was ∙ is)) (sym state ∙ e);
          }
        where
          s : Standing
          s = after_verdict x.seen x.standing

          who : SameWho x.standing s
          who = moved_who (verdict_in x.standing.conduct b x.standing.state) x.standing

          state : s.state ≡ verdict_in x.standing.conduct b x.standing.state
          state = moved_state (verdict_in x.standing.conduct b x.standing.state) x.standing

          was : x.standing.state ≡ m.standing.state
          was = ap (λ (z : Standing). z.state) standing_is

      goes_on : is_done t ≡ false → Moves m (record x { standing = x.standing })
      goes_on more =
          record {
            clean = clean_x;
            idle = λ idle. none_idle idle;
            master = λ e. was ∙ e;
            stood = λ e. inl (was ∙ e, let lost = ap (λ (z : Standing). z.polls_lost) standing_is in omega (arith, lost));
            found = λ e _. inl (was ∙ e, λ _. ap is_running sweep_is ∙ ap not more);
            active = λ active e. active (sym was ∙ e);
          }
        where
          was : x.standing.state ≡ m.standing.state
          was = ap (λ (z : Standing). z.state) standing_is

      ends : Moves m (after_sweep x)
      ends =
          cond_both (is_over x.sweep) (after_verdict x.seen x.standing) x.standing (λ (s : Standing). Moves m (record x { standing = s }))
          (λ _. ended) (λ more. goes_on (sym (ap is_over sweep_is) ∙ more))

  -- steps of a writing -----------------------------------------------------------------------------------------------------

  steps : (p : Pending) (was_done : Bool) → Moves m (after_step m p was_done)
  steps p was_done = by_writing (noted (counts p) was_done m.writing)
    where
      x : Manager
      x = record m { pending = without_number p.number m.pending; writing = noted (counts p) was_done m.writing }

      as_was : (n : Manager) → n.standing ≡ m.standing → n.seen ≡ m.seen → n.sweep ≡ m.sweep → Moves m n
      as_was n standing seen sweep =
          stays n (record {
            guid = ap (λ (s : Standing). s.guid) standing;
            priority = ap (λ (s : Standing). s.priority) standing;
            conduct = ap (λ (s : Standing). s.conduct) standing;
          }) seen sweep (ap (λ (s : Standing). s.state) standing) (ap (λ (s : Standing). s.polls_lost) standing)

      by_writing : (o : Option Writing) → Moves m (went_on_with x o)
      by_writing None = as_was x refl refl refl
      by_writing (Some w) =
          cond_both (no_step_waits x.pending) (phase_sent x w) x (Moves m) (λ _. as_was (phase_sent x w) refl refl refl) (λ _. as_was x refl refl refl)

  step_ends : (p : Pending) (was_done : Bool) → MovesTo (unless_spent m (after_step m p was_done))
  step_ends p was_done = unspent (after_step m p was_done) (steps p was_done)

-- time-outs ----------------------------------------------------------------------------------------------------------------

-- the state after three polls were lost
abbrev lost_in : Conduct → SmState → SmState
lost_in conduct state = (stepped conduct state PollsUnanswered).state

lost_active : (conduct : Conduct) (state : SmState) → state ≢ NotActive → lost_in conduct state ≢ NotActive
lost_active conduct Discovering active = λ e. cc
lost_active conduct Standby active = λ e. cc
lost_active conduct Master active = λ e. cc
lost_active conduct NotActive active = absurd (active refl)

-- a poll is lost
pub loses_poll : (m n : Manager) → n.standing ≡ poll_lost m.standing → n.seen ≡ m.seen → n.sweep ≡ m.sweep → Moves m n
loses_poll m n standing_is seen sweep =
    by_standing n (nat_le 3 (one_more m.standing.polls_lost)) standing_is seen sweep
  where
    s : Standing
    s = record m.standing { polls_lost = one_more m.standing.polls_lost }

    by_standing : (n : Manager) (b : Bool) → n.standing ≡ cond b (moved_by PollsUnanswered s) s → n.seen ≡ m.seen → n.sweep ≡ m.sweep → Moves m n
    by_standing n true standing_is seen sweep =
        record {
          clean = λ clean. (λ i. any_outranks (info_of (standing_is i)) (seen i))
              ∙ same_rank m.standing (moved_by PollsUnanswered s) m.seen (record { guid = who.guid; priority = who.priority; conduct = who.conduct }) ∙ clean;
          idle = λ idle. ap is_running sweep ∙ idle;
          master = λ e. state ∙ ap (lost_in m.standing.conduct) e;
          stood = λ e. inr (state ∙ ap (lost_in m.standing.conduct) e);
          found = λ e _. inl (state ∙ ap (lost_in m.standing.conduct) e, λ runs. ap is_running sweep ∙ runs);
          active = λ active e. lost_active m.standing.conduct m.standing.state active (sym state ∙ e);
        }
      where
        who : SameWho s (moved_by PollsUnanswered s)
        who = moved_who (lost_in s.conduct s.state) s

        state : n.standing.state ≡ lost_in m.standing.conduct m.standing.state
        state = ap (λ (z : Standing). z.state) standing_is ∙ moved_state (lost_in s.conduct s.state) s
    by_standing n false standing_is seen sweep =
        record {
          clean = λ clean. (λ i. any_outranks (info_of (standing_is i)) (seen i))
              ∙ same_rank m.standing s m.seen (record { guid = refl; priority = refl; conduct = refl }) ∙ clean;
          idle = λ idle. ap is_running sweep ∙ idle;
          master = λ e. state ∙ e;
          stood = λ e. let lost = ap (λ (z : Standing). z.polls_lost) standing_is in inl (state ∙ e, omega (arith, lost));
          found = λ e _. inl (state ∙ e, λ runs. ap is_running sweep ∙ runs);
          active = λ active e. active (sym state ∙ e);
        }
      where
        state : n.standing.state ≡ m.standing.state
        state = ap (λ (z : Standing). z.state) standing_is

module _ (m : Manager) where
  -- a control without an answer moves nothing
  unrelieved : (p : Pending) → is_relieved m.standing p None ≡ true → ⊥
  unrelieved p e =
      let last = and_parts (is_handover p) false (and_parts (is_live m.standing.conduct) (is_handover p && false) e).1 in
      let wrong : false ≡ true = last.1 in
      absurd (cc)

  lapses : (p : Pending) (u : Purpose) → Moves m (after_request m p None u).manager
  lapses p purpose.Poll = loses_poll m (record (without m p) { standing = poll_lost m.standing }) refl refl refl
  lapses p purpose.Control =
      cond_both (is_relieved m.standing p None) _ m.standing (λ (s : Standing). Moves m (record (without m p) { standing = s }))
      (λ e. absurd (unrelieved p e))
      (λ _. stays m (record (without m p) { standing = m.standing }) (record { guid = refl; priority = refl; conduct = refl }) refl refl refl refl)
  lapses p (purpose.Step c) = step_ends m p false

  gives_up : (o : Option Pending) → Moves m (request_gave_up m o).manager
  gives_up None = same m
  gives_up (Some p) = lapses p p.purpose

  is_true : (b : Bool) → (b ≡ false → ⊥) → b ≡ true
  is_true true none = refl
  is_true false none = absurd (none refl)

  sweep_lapses : (transaction : ℕ) (o : Option Sweep) → m.sweep ≡ o → Moves m (sweep_gave_up m transaction o).manager
  sweep_lapses transaction None e = same m
  sweep_lapses transaction (Some s) e = by_fault (timeout_fault s transaction) refl
    where
      by_fault : (why : Option SweepFault) → timeout_fault s transaction ≡ why → Moves m (sweep_timed_out m s transaction why).manager
      by_fault (Some why) f = same m
      by_fault None f =
          ends m (is_true (is_running m.sweep) (λ idle. ends_none s transaction (sym (ap is_running e) ∙ idle) f)) m.seen (λ clean. clean)
          (record m { sweep = Some (sweep_after_timeout s transaction) }) (sweep_after_timeout s transaction) refl refl refl

  pub timeout_moves : (transaction : ℕ) → Moves m (after_call m (Call.Timeout transaction))
  timeout_moves transaction =
      cond_both (nat_le (2 ^ 32) transaction) (sweep_gave_up m transaction m.sweep) (request_gave_up m (with_number transaction m.pending))
      (λ (c : Called). Moves m c.manager) (λ _. sweep_lapses transaction m.sweep refl) (λ _. gives_up (with_number transaction m.pending))

-- packets ------------------------------------------------------------------------------------------------------------------

-- none that passes is there
pub none_there : {X : Type 0} (b : Bool) → b ≡ false → b ≡ true → X
none_there true e f = absurd (cc)
none_there false e f = absurd (cc)

left_true : (a b : Bool) → a ≡ true → (a || b) ≡ true
left_true true b e = refl
left_true false b e = absurd (cc)

right_true : (a b : Bool) → b ≡ true → (a || b) ≡ true
right_true true b e = refl
right_true false b e = e

-- the TransactionIDs of sweeps do not fit in 32 bits
pub small_sweep : (bytes : List ℕ) → number_in transaction_id bytes < 2 ^ 32 → is_for_sweep bytes ≡ false
small_sweep bytes few =
    by (number_in method bytes == get_resp) (is_directed bytes) (nat_le (2 ^ 32) (number_in transaction_id bytes))
    (lt-leb (2 ^ 32) (number_in transaction_id bytes) few)
  where
    by : (a b c : Bool) → c ≡ false → (a && (b && c)) ≡ false
    by true true c e = e
    by true false c e = refl
    by false b c e = refl

module _ (own : SmInfo) (bytes : List ℕ) (quiet : is_word own bytes ≡ false) where
  -- a Set of SMInfo is a word
  pub no_control : {X : Type 0} → (number_in attribute_id bytes == sm_info) ≡ true → (number_in method bytes == set) ≡ true → X
  no_control info sets =
      none_there (is_word own bytes) quiet (and_both (number_in attribute_id bytes == sm_info) _ info (left_true (number_in method bytes == set) _ sets))

  -- so is an answer of SMInfo that no sweep asked for
  pub no_answer : {X : Type 0} → (number_in attribute_id bytes == sm_info) ≡ true → is_response bytes ≡ true → is_for_sweep bytes ≡ false → X
  no_answer info response other =
      none_there (is_word own bytes) quiet
      (and_both (number_in attribute_id bytes == sm_info) _ info
      (right_true (number_in method bytes == set) _ (and_both (is_response bytes) _ response (left_true (not (is_for_sweep bytes)) _ (ap not other)))))

  -- as one that answers a poll
  pub poll_is_word : {X : Type 0} → is_response bytes ≡ true → answers_poll bytes ≡ true → X
  poll_is_word response polls =
      let parts = and_parts (number_in attribute_id bytes == sm_info) _ polls in
      let few = ltb-true (number_in transaction_id bytes) (2 ^ 32) (and_parts (nat_lt (number_in transaction_id bytes) (2 ^ 32)) _ parts.1).0 in
      no_answer parts.0 response (small_sweep bytes few)

  -- and an answer of one that outranks this manager
  none_outranks : (number_in attribute_id bytes == sm_info) ≡ true → is_response bytes ≡ true
      → outranks own (sm_info_in (bytes_in attribute_data bytes)) ≡ false
  none_outranks info response = by (outranks own (sm_info_in (bytes_in attribute_data bytes))) refl
    where
      by : (b : Bool) → outranks own (sm_info_in (bytes_in attribute_data bytes)) ≡ b → outranks own (sm_info_in (bytes_in attribute_data bytes)) ≡ false
      by false e = e
      by true e =
          none_there (is_word own bytes) quiet
          (and_both (number_in attribute_id bytes == sm_info) _ info
          (right_true (number_in method bytes == set) _ (and_both (is_response bytes) _ response (right_true (not (is_for_sweep bytes)) _ e))))

any_last : (own : SmInfo) (seen : List SeenManager) (s : SeenManager) → any_outranks own seen ≡ false → outranks own s.info ≡ false
    → any_outranks own (seen ++ s ∷ []) ≡ false
any_last own [] s none last = (λ i. last i || false)
any_last own (x ∷ seen) s none last = by (outranks own x.info) none (any_last own seen s)
  where
    by : (b : Bool) → (b || any_outranks own seen) ≡ false
        → (any_outranks own seen ≡ false → outranks own s.info ≡ false → any_outranks own (seen ++ s ∷ []) ≡ false)
        → (b || any_outranks own (seen ++ s ∷ [])) ≡ false
    by true e rest = absurd (cc)
    by false e rest = rest e last

module _ (m : Manager) (bytes : List ℕ) (from : Option ℕ) (info : InfoOnly m) (quiet : is_word (info_of m.standing) bytes ≡ false) where
  counted_stays : Moves m (replying m bytes from)
  counted_stays =
      cond_both (is_live m.standing.conduct) (active_once_more m.standing) m.standing
      (λ (s : Standing). (n : Manager) → n.standing ≡ s → n.seen ≡ m.seen → n.sweep ≡ m.sweep → Moves m n)
      (λ _ n standing seen sweep. by_standing n standing seen sweep refl refl refl refl refl)
      (λ _ n standing seen sweep. by_standing n standing seen sweep refl refl refl refl refl)
      (replying m bytes from) refl refl refl
    where
      by_standing : {s : Standing} (n : Manager) → n.standing ≡ s → n.seen ≡ m.seen → n.sweep ≡ m.sweep → s.guid ≡ m.standing.guid
          → s.priority ≡ m.standing.priority → s.conduct ≡ m.standing.conduct → s.state ≡ m.standing.state → s.polls_lost ≡ m.standing.polls_lost → Moves m n
      by_standing n standing seen sweep guid priority conduct state lost =
          stays m n (record {
            guid = ap (λ (z : Standing). z.guid) standing ∙ guid;
            priority = ap (λ (z : Standing). z.priority) standing ∙ priority;
            conduct = ap (λ (z : Standing). z.conduct) standing ∙ conduct;
          }) seen sweep (ap (λ (z : Standing). z.state) standing ∙ state) (ap (λ (z : Standing). z.polls_lost) standing ∙ lost)

  serves : is_info_request bytes ≡ true → MovesTo m (unless_spent m (served m bytes from))
  serves e =
      unspent m (served m bytes from)
      (cond_both (may_control m.standing bytes) (controlled m bytes from) (replying m bytes from) (Moves m)
      (λ may. no_control (info_of m.standing) bytes quiet (and_parts (not (is_response bytes)) (number_in attribute_id bytes == sm_info) e).1
      (and_parts (number_in method bytes == set) _ may).0)
      (λ _. counted_stays))

  -- an answer to a sweep
  seen_clean : (s : Sweep) (answer : Answer) → judged s bytes ≡ Ok answer → is_response bytes ≡ true → Clean m
      → any_outranks (info_of m.standing) (with_seen answer m.seen) ≡ false
  seen_clean s answer taken response clean =
      let a = accepted s bytes answer taken in
      let mine = (found_there (belongs s.generation bytes) s.outstanding a.request a.belongs).1 in
      let asked = (and_parts (transaction_of s.generation a.request.number == number_in transaction_id bytes) _ mine).1 in
      subst (λ (x : Answer). any_outranks (info_of m.standing) (with_seen x m.seen) ≡ false) (sym a.answer_is)
      (by_question a.request a.request.question (and_parts (number_in attribute_id bytes == attribute_asked a.request.question) _ asked).0)
    where
      by_question : (r : Request) (q : Question) → (number_in attribute_id bytes == attribute_asked q) ≡ true
          → any_outranks (info_of m.standing) (with_seen (answer_by q (report_for s r bytes)) m.seen) ≡ false
      by_question r ask.Node e = clean
      by_question r ask.Switch e = clean
      by_question r (ask.Port port) e = clean
      by_question r (ask.Manager guid port) e =
          any_last (info_of m.standing) m.seen (record { guid = guid; port = port; info = sm_info_in (bytes_in attribute_data bytes) }) clean
          (none_outranks (info_of m.standing) bytes quiet e response)

  by_sweep : is_for_sweep bytes ≡ true → (o : Option Sweep) → m.sweep ≡ o → MovesTo m (sweep_answered m bytes o)
  by_sweep for None e = same m
  by_sweep for (Some s) e = by_judged (judged s bytes) refl
    where
      response : is_response bytes ≡ true
      response = responds bytes (eqb-true (number_in method bytes) get_resp (and_parts (number_in method bytes == get_resp) _ for).0)

      by_judged : (r : Result Answer SweepFault) → judged s bytes ≡ r → MovesTo m (answered_by m s bytes r)
      by_judged (Err why) taken = same m
      by_judged (Ok answer) taken =
          ends m (is_true m (is_running m.sweep) (λ idle. takes_none s bytes answer (sym (ap is_running e) ∙ idle) taken)) (with_seen answer m.seen)
          (seen_clean s answer taken response)
          (with_sweep (record m {
            store = (with_answer m s bytes answer).store;
            seen = with_seen answer m.seen;
          }) (after_reply s bytes)) _ refl refl refl

  word : {X : Type 0} → is_for_sweep bytes ≡ false → (p : Pending) → answers bytes p ≡ true → p.attribute ≡ sm_info → X
  word other p mine is =
      let parts = and_parts (number_in method bytes == get_resp) _ mine in
      let alike = (and_parts (p.number == number_in transaction_id bytes) _ parts.1).1 in
      let kind = eqb-true (number_in attribute_id bytes) p.attribute (and_parts (number_in attribute_id bytes == p.attribute) _ alike).0 in
      no_answer (info_of m.standing) bytes quiet (eq-eqb (number_in attribute_id bytes) sm_info (kind ∙ is))
      (responds bytes (eqb-true (number_in method bytes) get_resp parts.0)) other

  -- an answer to a request outside sweeps: none for SMInfo
  answered : is_for_sweep bytes ≡ false → (p : Pending) → answers bytes p ≡ true → IsInfo p → (u : Purpose) → p.purpose ≡ u
      → MovesTo m (after_request m p (Some (status bytes)) u)
  answered other p mine of (purpose.Step c) e = step_ends m p (is_done_by (Some (status bytes)))
  answered other p mine of purpose.Poll e = word other p mine (of (ap (λ u. is_for_step u) e))
  answered other p mine of purpose.Control e = word other p mine (of (ap (λ u. is_for_step u) e))

  by_pending : is_for_sweep bytes ≡ false → (o : Option Pending) → pending_for m bytes ≡ o → MovesTo m (request_answered m bytes o)
  by_pending other None e = same m
  by_pending other (Some p) e =
      let found = found_there (answers bytes) m.pending p e in
      answered other p found.1 (at_member IsInfo m.pending p info found.0) p.purpose refl

  by_fault : (fault : Option SmpFault) → MovesTo m (packet_taken m bytes from fault)
  by_fault (Some why) = same m
  by_fault None =
      cond_both (is_info_request bytes) (unless_spent m (served m bytes from)) _ (MovesTo m) serves
      (λ _. cond_both (represses m bytes) (done (repressing m bytes from)) _ (MovesTo m)
      (λ _. stays m (repressing m bytes from) (record { guid = refl; priority = refl; conduct = refl }) refl refl refl refl)
      (λ _. cond_both (is_for_sweep bytes) (sweep_answered m bytes m.sweep) (request_answered m bytes (pending_for m bytes)) (MovesTo m)
      (λ for. by_sweep for m.sweep refl) (λ other. by_pending other (pending_for m bytes) refl)))

  pub packet_moves : Moves m (after_call m (Call.Packet bytes from))
  packet_moves = by_fault (fault_of bytes)
