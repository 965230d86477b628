-- A poll of a manager that is alone goes out, and is lost in the end.
use Rattle.std.proofs.Common.{◌≡◌, ◌∙◌, inl, ℕ, zero, suc, ◌+◌, ◌-◌, ◌<◌, ◌≤◌, ◌^◌, Bool, true, false, cond, ◌&&◌, not, List, [], ◌∷◌, ◌++◌, length, refl, sym, ap, subst, arith}
use Rattle.std.proofs.lemmas.Bool.{and_parts, cond_both, cond-true, cond-false, eq-eqb, eqb-true, leb-false, lt-leb, ltb-true}
use Rattle.std.specs.List.{AllByRecursion}
use Rattle.std.specs.Prelude.{◌==◌, Option, Some, None, filter, nat_le, nat_lt}
use Rattle.smp_bytes.specs.Field.{number_in}
use Rattle.smp_bytes.specs.Header.{get, sm_info}
use Rattle.smp_bytes.specs.Packet.{attribute_id, is_response, method, transaction_id}
use Rattle.sm_state.specs.Standing.{info_of, moved_by, one_more, poll_lost}
use Rattle.sm_state.specs.Transitions.{stepped}
use Rattle.sm_state.specs.declared.event.Event.TheVariants.{PollsUnanswered}
use Rattle.sm_state.specs.declared.standing.Standing.{Standing}
use Rattle.sm_state.specs.declared.state.SmState.TheVariants.{NotActive, Standby}
use Rattle.sm_manager.specs.CallLists.{Call, after_call, after_calls}
use Rattle.sm_manager.specs.Manager.{Manager, is_running}
use Rattle.sm_manager.specs.ManagerRequests.{with_number}
use Rattle.sm_manager.specs.Packets.{Called, after_request, request_gave_up, sweep_gave_up}
use Rattle.sm_manager.specs.Writing.{without}
use Rattle.sm_manager.specs.declared.pending.Pending.{Pending}
use Rattle.sm_manager.specs.declared.pending.Purpose.TheVariants as purpose
use Rattle.sm_manager.proofs.CountedSteps.{Rising}
use Rattle.sm_policy.specs.declared.policy.Policy.{Policy}
use Rattle.sm_policy.specs.declared.rival.Rival.{Rival}
use Rattle.request_window.specs.Window.{Window, after_send, answers, behind, first_out, is_late, is_poll, is_sent_again, judged_late}
use Rattle.request_window.specs.Window.{kept_behind, late_in, sent_of}
use Rattle.request_window.specs.declared.late.Late.TheVariants.{GivenUp}
use Rattle.request_window.specs.declared.out.Out.{Out}
use Rattle.acting_manager.specs.Acting.{Acting, caught_up, collected, is_request}
use Rattle.acting_manager.specs.Acts.{acted}
use Rattle.acting_manager.specs.Working.{all_overdue, all_sent, are_none, given_away, is_given_up, is_idle, is_resting, late_done, one_overdue, one_sent}
use Rattle.acting_manager.specs.Working.{repeated, sent}
use Rattle.manager_laws.specs.WritingEnds.{HasLived}
use Rattle.manager_laws.proofs.writing_ends.Turns.{turn, turn_rises}
use Rattle.program_laws.specs.Alone.{IsNoWord}
use Rattle.program_laws.specs.Wakes.{Line, after_line, before_deciding}
use Rattle.program_laws.proofs.alone.Hearing.{Unanswered, caught_out, caught_pending, caught_queued, caught_standing, idle_lists}
use Rattle.program_laws.proofs.alone.InfoOnly.{InfoOnly, info_call}
use Rattle.program_laws.proofs.alone.Moves.{moved_state, no_answer, small_sweep}
use Rattle.program_laws.proofs.alone.Needs.{HasCounted, IsRest, counted_lasts, need, rest_lasts, rest_other, sweeps_left}
use Rattle.program_laws.proofs.alone.Quiet.{IsAwake, catches_up, hears_quietly}
use Rattle.program_laws.proofs.alone.Steady.{IsReady, Steady, heard_then, knows_then, looked_time, steady}
use Rattle.program_laws.proofs.wakes.Deciding.{caught_about}
use Rattle.program_laws.proofs.wakes.DueTimes.{IsDueSoon, still_soon}
use Rattle.program_laws.proofs.wakes.FreshWork.{GoesOn}
use Rattle.program_laws.proofs.wakes.Makes.{and_false}
use Rattle.program_laws.proofs.wakes.Sending.{only_sends, sent_window}

-- numbers of requests -----------------------------------------------------------------------------------------------------------

rises : (calls : List Call) (m : Manager) → Rising m.counter m.pending → Rising (after_calls calls m).counter (after_calls calls m).pending
rises [] m rising = rising
rises (call ∷ calls) m rising = rises calls (after_call m call) (turn_rises m call (after_call m call) (turn m call) rising)

pub lived_rising : (m : Manager) → HasLived m → Rising m.counter m.pending
lived_rising m h = subst (λ (x : Manager). Rising x.counter x.pending) h.are (rises h.calls _ (omega arith))

-- the last request is the one with its number
pub find_last : (n : ℕ) (ps : List Pending) (q : Pending) → AllByRecursion (λ (p : Pending). p.number < n) ps → q.number ≡ n
    → with_number n (ps ++ q ∷ []) ≡ Some q
find_last n [] q all e = cond-true (q.number == n) (Some q) None (eq-eqb q.number n e)
find_last n (p ∷ ps) q all e =
    let low = all.0 in
    cond-false (p.number == n) (Some p) (with_number n (ps ++ q ∷ [])) (other p.number n low) ∙ find_last n ps q all.1 e
  where
    other : (i n : ℕ) → i < n → (i == n) ≡ false
    other i n less = by (i == n) refl
      where
        by : (b : Bool) → (i == n) ≡ b → (i == n) ≡ false
        by false e = e
        by true e = let same = eqb-true i n e in absurd (omega (arith, less, same))

-- the manager polls --------------------------------------------------------------------------------------------------------------

-- a poll is out, and nothing else; the manager rests, and is a standby that knows a master
pub record IsPolling (j by : ℕ) (a : Acting) : Type 0 where
  pub rests : is_resting a.policy.activity ≡ true
  pub out : Out
  pub queued : a.window.queued ≡ []
  pub outs : a.window.outs ≡ out ∷ []
  pub poll : is_poll out.request.packet ≡ true
  pub deadline : out.deadline ≤ by
  pub pending : Pending
  pub found : with_number (number_in transaction_id out.request.packet) a.manager.pending ≡ Some pending
  pub purpose : pending.purpose ≡ purpose.Poll
  pub standby : a.manager.standing.state ≡ Standby
  pub few : sweeps_left a.policy.masterless a.policy.gaps + 3 + (2 - a.manager.standing.polls_lost) ≤ suc j
  pub polls_by : ℕ
  pub state : IsRest (suc j) polls_by a.manager a.policy

-- what a poll is
record IsPollPacket (packet : List ℕ) : Type 0 where
  info : (number_in attribute_id packet == sm_info) ≡ true
  small : number_in transaction_id packet < 2 ^ 32

poll_packet : (packet : List ℕ) → is_poll packet ≡ true → IsPollPacket packet
poll_packet packet e =
    let parts = and_parts (number_in method packet == get) _ e in
    let more = and_parts (number_in attribute_id packet == sm_info) _ parts.1 in
    record { info = more.0; small = ltb-true (number_in transaction_id packet) (2 ^ 32) more.1 }

-- what answers it is a word
poll_unanswered : (j by : ℕ) (a : Acting) → IsPolling j by a → Unanswered a
poll_unanswered j by a p bytes quiet =
    subst (λ outs. first_out (answers bytes) outs ≡ record { outs = outs; request = None }) (sym p.outs) (by_answer (answers bytes p.out) refl)
  where
    request : List ℕ
    request = p.out.request.packet

    by_answer : (b : Bool) → answers bytes p.out ≡ b
        → cond b (record { outs = []; request = Some p.out.request }) (kept_behind p.out (record { outs = []; request = None }))
        ≡ record { outs = p.out ∷ []; request = None }
    by_answer false e = refl
    by_answer true e =
        let parts = and_parts (is_response bytes) _ e in
        let tids = and_parts (number_in transaction_id bytes == number_in transaction_id request) _ parts.1 in
        let kinds = and_parts (number_in attribute_id bytes == number_in attribute_id request) _ tids.1 in
        let is = poll_packet request p.poll in
        let same = eqb-true (number_in transaction_id bytes) (number_in transaction_id request) tids.0 in
        let kind = eqb-true (number_in attribute_id bytes) (number_in attribute_id request) kinds.0 in
        let info = eqb-true (number_in attribute_id request) sm_info is.info in
        let small = is.small in
        no_answer (info_of a.manager.standing) bytes quiet (eq-eqb (number_in attribute_id bytes) sm_info (kind ∙ info)) parts.0
        (small_sweep bytes (omega (arith, same, small)))

-- what sends nothing
all_none : (n : ℕ) (a : Acting) → a.window.queued ≡ [] → (repeated n one_sent a).window ≡ a.window
all_none zero a queued = refl
all_none (suc n) a queued =
    let b = repeated n one_sent a in
    let before = all_none n a queued in
    sent_window (after_send b.time b.window).request (record b { window = (after_send b.time b.window).window })
    ∙ ap (λ queue. (sent_of b.time b.window queue).window) (ap (λ (w : Window). w.queued) before ∙ queued) ∙ before

none_sent : (a : Acting) → a.window.queued ≡ [] → (sent a).window ≡ a.window
none_sent a queued =
    cond_both (is_given_up a) a (all_sent a) (λ (b : Acting). b.window ≡ a.window) (λ _. refl) (λ _. all_none a.window.limits.outstanding a queued)

-- late or not --------------------------------------------------------------------------------------------------------------------

module _ (j by : ℕ) (line : Line) (a : Acting) (g : GoesOn a (line ∷ [])) (quiet : IsNoWord line.1 a) (awake : IsAwake line a) (p : IsPolling j by a) where
  abbrev x : Acting
  x = before_deciding line a

  abbrev z : Acting
  z = heard_then line a

  s : Steady line a z
  s = steady line a g quiet awake (poll_unanswered j by a p) p.rests p.queued

  outs_is : z.window.outs ≡ p.out ∷ []
  outs_is = s.outs ∙ p.outs

  -- one request is out
  one_is : all_overdue z ≡ one_overdue z
  one_is = ap (λ n. repeated n one_overdue z) (ap length outs_is)

  counted : (z.policy.masterless ≡ a.policy.masterless) × (z.policy.gaps ≡ a.policy.gaps)
  counted =
      hears_quietly (HasCounted a.policy.masterless a.policy.gaps) (counted_lasts a.policy.masterless a.policy.gaps) line a g.none_leaves.0 quiet
      (refl, refl)

  rest_z : IsRest (suc j) p.polls_by z.manager z.policy
  rest_z = hears_quietly (IsRest (suc j) p.polls_by) (rest_lasts (suc j) p.polls_by) line a g.none_leaves.0 quiet p.state

  -- it is not late
  module _ (early : is_late z.time p.out ≡ false) where
    none_late : late_in z.window.limits z.time z.window.outs ≡ record { outs = z.window.outs; late = None }
    none_late =
        subst (λ outs. late_in z.window.limits z.time outs ≡ record { outs = outs; late = None }) (sym outs_is)
        (cond-false (is_late z.time p.out) (judged_late z.window.limits z.time p.out []) (behind p.out (record { outs = []; late = None })) early)

    still_is : x ≡ caught_up z
    still_is = s.is ∙ ap caught_up (one_is ∙ (λ i. late_done (none_late i).late (record z { window = record z.window { outs = (none_late i).outs } })))

    queued_then : x.window.queued ≡ []
    queued_then = ap (λ (y : Acting). y.window.queued) still_is ∙ caught_queued z (ap (filter is_request) s.given) s.queued

    outs_then : x.window.outs ≡ p.out ∷ []
    outs_then = ap (λ (y : Acting). y.window.outs) still_is ∙ caught_out z ∙ outs_is

    pub early_busy : is_idle x.window ≡ false
    early_busy = λ i. are_none (queued_then i) (outs_then i)

    after_is : after_line line a ≡ given_away (sent x)
    after_is = ap (λ (y : Acting). given_away (sent y)) (cond-false (is_idle x.window) (caught_up (acted x)) x early_busy)

    sent_is : (sent x).window ≡ x.window
    sent_is = none_sent x queued_then

    pub early_polling : IsPolling j by (after_line line a)
    early_polling =
        subst (IsPolling j by) (sym after_is) (record {
          rests = ap is_resting (ap (λ (q : Policy). q.activity) policy_is ∙ about) ∙ p.rests;
          out = p.out;
          queued = ap (λ (w : Window). w.queued) sent_is ∙ queued_then;
          outs = ap (λ (w : Window). w.outs) sent_is ∙ outs_then;
          poll = p.poll;
          deadline = p.deadline;
          pending = p.pending;
          found =
              ap (with_number (number_in transaction_id p.out.request.packet))
              (ap (λ (m : Manager). m.pending) (only_sends x).manager ∙ ap (λ (y : Acting). y.manager.pending) still_is ∙ caught_pending z ∙ s.pending)
              ∙ p.found;
          purpose = p.purpose;
          standby = ap (λ (t : Standing). t.state) standing_is ∙ s.state ∙ p.standby;
          few =
              let few = p.few in
              let one = ap (λ (q : Policy). q.masterless) policy_is ∙ counts.0 in
              let two = ap (λ (q : Policy). q.gaps) policy_is ∙ counts.1 in
              let lost = ap (λ (t : Standing). t.polls_lost) standing_is ∙ s.lost in
              less few one two lost;
          polls_by = p.polls_by;
          state = subst (λ (m : Manager). IsRest (suc j) p.polls_by m (sent x).policy) (sym (only_sends x).manager)
              (subst (IsRest (suc j) p.polls_by x.manager) (sym policy_is)
              (subst (λ (y : Acting). IsRest (suc j) p.polls_by y.manager y.policy) (sym still_is)
              (catches_up (IsRest (suc j) p.polls_by) (rest_lasts (suc j) p.polls_by) z rest_z)));
        })
      where
        policy_is : (sent x).policy ≡ x.policy
        policy_is = (only_sends x).policy

        about : x.policy.activity ≡ a.policy.activity
        about = ap (λ (y : Acting). y.policy.activity) still_is ∙ caught_about z ∙ s.about

        standing_is : (sent x).manager.standing ≡ z.manager.standing
        standing_is = ap (λ (m : Manager). m.standing) (only_sends x).manager ∙ ap (λ (y : Acting). y.manager.standing) still_is ∙ caught_standing z

        counts : (x.policy.masterless ≡ a.policy.masterless) × (x.policy.gaps ≡ a.policy.gaps)
        counts =
            subst (λ (y : Acting). (y.policy.masterless ≡ a.policy.masterless) × (y.policy.gaps ≡ a.policy.gaps)) (sym still_is)
            (catches_up (HasCounted a.policy.masterless a.policy.gaps) (counted_lasts a.policy.masterless a.policy.gaps) z counted)

        less : {i k l m n o : ℕ} → sweeps_left i k + 3 + (2 - l) ≤ suc j → m ≡ i → n ≡ k → o ≡ l → sweeps_left m n + 3 + (2 - o) ≤ suc j
        less few e f h = omega (arith, few, e, f, h)

    pub early_time : (after_line line a).time ≤ by
    early_time =
        let before = leb-false p.out.deadline z.time early in
        let soon = p.deadline in
        let same : (after_line line a).time ≡ z.time =
        ap (λ (y : Acting). y.time) after_is ∙ (only_sends x).time ∙ ap (λ (y : Acting). y.time) still_is ∙ looked_time (collected z) in
        omega (arith, before, soon, same)

  -- it is late: it is lost
  module _ (late : is_late z.time p.out ≡ true) where
    abbrev tid : ℕ
    tid = number_in transaction_id p.out.request.packet

    judged_is : late_in z.window.limits z.time z.window.outs ≡ record { outs = []; late = Some (GivenUp p.out.request) }
    judged_is =
        ap (late_in z.window.limits z.time) outs_is
        ∙ cond-true (is_late z.time p.out) (judged_late z.window.limits z.time p.out []) (behind p.out (record { outs = []; late = None })) late
        ∙ cond-false (is_sent_again z.window.limits p.out) _ (record { outs = []; late = Some (GivenUp p.out.request) })
        (ap (λ b. nat_lt p.out.tries z.window.limits.tries && not b) p.poll ∙ and_false (nat_lt p.out.tries z.window.limits.tries))

    abbrev w : Acting
    w = late_done (Some (GivenUp p.out.request)) (record z { window = record z.window { outs = [] } })

    lost_is : x ≡ caught_up w
    lost_is = s.is ∙ ap caught_up (one_is ∙ (λ i. late_done (judged_is i).late (record z { window = record z.window { outs = (judged_is i).outs } })))

    call_is : after_call z.manager (Call.Timeout tid) ≡ record (without z.manager p.pending) { standing = poll_lost z.manager.standing }
    call_is =
        ap (λ (c : Called). c.manager)
        (cond-false (nat_le (2 ^ 32) tid) (sweep_gave_up z.manager tid z.manager.sweep) (request_gave_up z.manager (with_number tid z.manager.pending))
        (lt-leb (2 ^ 32) tid (poll_packet p.out.request.packet p.poll).small)
        ∙ ap (request_gave_up z.manager) (ap (with_number tid) s.pending ∙ p.found) ∙ ap (after_request z.manager p.pending None) p.purpose)

    rest_w : IsRest j p.polls_by (after_call z.manager (Call.Timeout tid)) z.policy
    rest_w =
        by_lost (nat_le 3 (one_more z.manager.standing.polls_lost)) refl
        (info_call z.manager rest_z.info (Call.Timeout tid))
      where
        t : Standing
        t = record z.manager.standing { polls_lost = one_more z.manager.standing.polls_lost }

        n : Manager
        n = after_call z.manager (Call.Timeout tid)

        standby : z.manager.standing.state ≡ Standby
        standby = s.state ∙ p.standby

        idle : is_running n.sweep ≡ false
        idle = ap (λ (m : Manager). is_running m.sweep) call_is ∙ rest_z.idle

        needed : sweeps_left z.policy.masterless z.policy.gaps + 3 + (2 - z.manager.standing.polls_lost) ≤ suc j
        needed = let few = p.few in let one = counted.0 in let two = counted.1 in let lost = s.lost in less few one two lost
          where
            less : {i k l m n o : ℕ} → sweeps_left i k + 3 + (2 - l) ≤ suc j → m ≡ i → n ≡ k → o ≡ l → sweeps_left m n + 3 + (2 - o) ≤ suc j
            less few e f h = omega (arith, few, e, f, h)

        by_lost : (b : Bool) → nat_le 3 (one_more z.manager.standing.polls_lost) ≡ b → InfoOnly n → IsRest j p.polls_by n z.policy
        by_lost true e info =
            rest_other j p.polls_by n z.policy info idle (let few = needed in omega (arith, few))
            (inl (ap (λ (m : Manager). m.standing.state) call_is
            ∙ ap (λ (u : Standing). u.state) (cond-true (nat_le 3 (one_more z.manager.standing.polls_lost)) (moved_by PollsUnanswered t) t e)
            ∙ moved_state (stepped t.conduct t.state PollsUnanswered).state t ∙ ap (λ u. (stepped t.conduct u PollsUnanswered).state) standby))
        by_lost false e info = by_master z.policy.master refl
          where
            standing_is : n.standing ≡ t
            standing_is = ap (λ (m : Manager). m.standing) call_is ∙ cond-false (nat_le 3 (one_more z.manager.standing.polls_lost)) (moved_by PollsUnanswered t) t e

            few_lost : one_more z.manager.standing.polls_lost < 3
            few_lost = leb-false 3 (one_more z.manager.standing.polls_lost) e

            rested : need Standby z.policy.master (one_more z.manager.standing.polls_lost) z.policy.masterless z.policy.gaps ≤ j
                → IsRest j p.polls_by n z.policy
            rested few =
                record {
                  info = info;
                  idle = idle;
                  active = λ is. let wrong : Standby ≡ NotActive = sym (ap (λ (u : Standing). u.state) standing_is ∙ standby) ∙ is in absurd (cc);
                  few = subst (λ (u : Standing). need u.state z.policy.master u.polls_lost z.policy.masterless z.policy.gaps ≤ j) (sym standing_is)
                      (subst (λ u. need u z.policy.master (one_more z.manager.standing.polls_lost) z.policy.masterless z.policy.gaps ≤ j) (sym standby) few);
                  poll = λ _. rest_z.poll standby;
                }

            by_master : (master : Option Rival) → z.policy.master ≡ master → IsRest j p.polls_by n z.policy
            by_master None f =
                rested (subst (λ o. need Standby o (one_more z.manager.standing.polls_lost) z.policy.masterless z.policy.gaps ≤ j) (sym f)
                (let few = needed in omega (arith, few)))
            by_master (Some rival) f =
                rested (subst (λ o. need Standby o (one_more z.manager.standing.polls_lost) z.policy.masterless z.policy.gaps ≤ j) (sym f)
                (let few = needed in let lost = few_lost in less z.manager.standing.polls_lost (sweeps_left z.policy.masterless z.policy.gaps) few lost))
              where
                less : (l i : ℕ) → i + 3 + (2 - l) ≤ suc j → one_more l < 3 → i + 3 + (2 - one_more l) ≤ j
                less l i few lost = omega (arith, few, lost)

    pub late_ready : (last : ℕ) → IsDueSoon last a.policy → p.polls_by ≤ last → IsReady j last x
    late_ready last soon polls =
        record {
          soon = still_soon last line g.none_leaves.0 a soon;
          idle = ap (λ (y : Acting). is_idle y.window) lost_is
              ∙ idle_lists (caught_up w).window
              (caught_queued w (ap (λ (m : Manager). filter is_request m.outgoing) call_is ∙ ap (filter is_request) s.given) s.queued) (caught_out w);
          state = rebound (subst (λ (y : Acting). IsRest j p.polls_by y.manager y.policy) (sym lost_is)
              (catches_up (IsRest j p.polls_by) (rest_lasts j p.polls_by) w rest_w));
          knows = knows_then line a;
        }
      where
        rebound : {m : Manager} {q : Policy} → IsRest j p.polls_by m q → IsRest j last m q
        rebound r =
            record {
              info = r.info;
              idle = r.idle;
              active = r.active;
              few = r.few;
              poll = λ e. let h = r.poll e in (h.0, let soon = h.1 in omega (arith, soon, polls));
            }
