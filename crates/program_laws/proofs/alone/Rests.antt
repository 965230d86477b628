-- What a manager that is alone, and rests without a request, decides: it waits, polls, or sweeps.
use Rattle.std.proofs.Common.{◌≡◌, ◌∙◌, inl, inr, ℕ, zero, suc, ◌+◌, ◌-◌, ◌*◌, ◌≤◌, ◌^◌, Bool, true, false, cond, ◌&&◌, not, List, [], ◌∷◌, ◌++◌, ◌||◌, length, replicate, refl, sym, ap, subst, arith}
use Rattle.std.proofs.lemmas.Bool.{cond_both, cond-true, cond-false, eq-eqb, leb-false, lt-ltb, ltb-false}
use Rattle.std.specs.Prelude.{◌==◌, Option, Some, None, filter, is_none, nat_lt}
use Rattle.smp_bytes.specs.Field.{number_in}
use Rattle.smp_bytes.specs.Header.{get, sm_info}
use Rattle.smp_bytes.specs.Packet.{attribute_id, method, transaction_id}
use Rattle.sm_state.specs.Standing.{is_in}
use Rattle.sm_state.specs.State.{number_of_state}
use Rattle.sm_state.specs.declared.state.SmState.{SmState}
use Rattle.sm_state.specs.declared.state.SmState.TheVariants.{NotActive, Discovering, Standby, Master}
use Rattle.sm_manager.specs.CallLists.{Call}
use Rattle.sm_manager.specs.Election.{after_poll, along, poll_fault, poll_out, poll_pending, poll_way, polled_by, unless_way}
use Rattle.sm_manager.specs.Manager.{Manager, after_begin_sweep, begin_fault, emptied}
use Rattle.sm_manager.specs.ManagerRequests.{with_number}
use Rattle.sm_manager.specs.PlanFaults.{number_fault, or_else}
use Rattle.sm_manager.specs.declared.fault.ManagerFault.{ManagerFault}
use Rattle.sm_manager.specs.declared.fault.ManagerFault.TheVariants as fault
use Rattle.sm_manager.specs.declared.outgoing.Outgoing.{Outgoing}
use Rattle.sm_manager.specs.declared.pending.Pending.{Pending}
use Rattle.sm_manager.specs.declared.way.Way.{Way}
use Rattle.sm_manager.specs.declared.way.Way.TheVariants.{Along}
use Rattle.sm_policy.specs.Judged.{failed}
use Rattle.sm_policy.specs.Policy.{Decision, announced_every, is_master, is_sweeping, later_by, polled, still}
use Rattle.sm_policy.specs.Resting.{call_due, call_due_in, is_due, poll_due, poll_due_in, rested, sweep_due, sweeping}
use Rattle.sm_policy.specs.declared.act.Act.TheVariants as act
use Rattle.sm_policy.specs.declared.activity.Activity.{Activity}
use Rattle.sm_policy.specs.declared.policy.Policy.{Policy}
use Rattle.sm_policy.specs.declared.rival.Rival.{Rival}
use Rattle.sm_policy.specs.declared.rival.Rival.TheVariants.{Lesser, Greater}
use Rattle.request_window.specs.Window.{Given, Window, after_send, is_poll, out_at, patience, sent_of}
use Rattle.request_window.specs.declared.limits.Limits.{Limits}
use Rattle.acting_manager.specs.Acting.{Acting, collected, is_request}
use Rattle.acting_manager.specs.Acts.{acted_in, decided, done_by, floor_raised}
use Rattle.acting_manager.specs.Working.{all_sent, is_given_up, is_resting, is_writing, one_sent, repeated, sent}
use Rattle.manager_laws.specs.WritingEnds.{HasLived}
use Rattle.manager_laws.proofs.writing_ends.Headers.{directed_attribute, directed_method}
use Rattle.manager_laws.proofs.writing_ends.Lists.{all_below}
use Rattle.program_laws.specs.RestTime.{sweeps_in}
use Rattle.program_laws.specs.Wakes.{Line, after_line, before_deciding}
use Rattle.program_laws.proofs.alone.After.{fell, idle_after, manager_is, policy_is, time_is, window_is}
use Rattle.program_laws.proofs.alone.Hearing.{lists_idle}
use Rattle.program_laws.proofs.alone.InfoOnly.{InfoOnly, info_call}
use Rattle.program_laws.proofs.alone.Needs.{IsRest, IsSweep, Sweeps, need, sweeps_left}
use Rattle.program_laws.proofs.alone.Polling.{IsPolling, find_last, lived_rising}
use Rattle.program_laws.proofs.alone.Steady.{AtRest, IsReady, IsResting}
use Rattle.program_laws.proofs.lasting.Running.{still_sound}
use Rattle.program_laws.proofs.lasting.Standing.{is_sound}
use Rattle.program_laws.proofs.wakes.DueTimes.{IsDueSoon}
use Rattle.program_laws.proofs.wakes.FreshWork.{GoesOn}
use Rattle.program_laws.proofs.wakes.Requests.{all_three, directed_transaction, gets}
use Rattle.program_laws.proofs.wakes.Resting.{sweep_soon}
use Rattle.program_laws.proofs.wakes.Sending.{sent_window}
use Rattle.program_laws.proofs.wakes.Settled.{settled_given}

-- what the manager does: it waits for what is due; it begins a sweep; there is no way to the master that it knew; or it polls
pub data RestEnds (j last : ℕ) (line : Line) (a : Acting) : Type 0 where
  Waits : AtRest (suc j) last (after_line line a) → RestEnds j last line a
  Begins : is_sweeping (after_line line a).policy.activity ≡ true → IsSweep j (after_line line a).manager (after_line line a).policy → RestEnds j last line a
  Fails : IsResting j (after_line line a) → RestEnds j last line a
  Polls : IsPolling j ((after_line line a).time + 3 * (after_line line a).window.limits.timeout) (after_line line a) → RestEnds j last line a

-- requests that go out ------------------------------------------------------------------------------------------------------------

-- the window with one request that went out
abbrev with_out : Window → ℕ → Outgoing → Window
with_out w time request = record w { queued = []; outs = out_at w.limits time 1 request ∷ [] }

one_goes : (time : ℕ) (w : Window) (request : Outgoing) → w.queued ≡ request ∷ [] → w.outs ≡ [] → 1 ≤ w.limits.outstanding
    → (after_send time w).window ≡ with_out w time request
one_goes time w request queued outs room =
    ap (λ queue. (sent_of time w queue).window) queued
    ∙ ap (λ (given : Given). given.window)
    (cond-true (nat_lt (length w.outs) w.limits.outstanding)
    (record { window = record w { queued = []; outs = w.outs ++ out_at w.limits time 1 request ∷ [] }; request = Some request })
    (record { window = w; request = None }) (ap (λ os. nat_lt (length os) w.limits.outstanding) outs ∙ lt-ltb 0 w.limits.outstanding (omega (arith, room))))
    ∙ ap (λ os. record w { queued = []; outs = os ++ out_at w.limits time 1 request ∷ [] }) outs

many_go : (n : ℕ) (a : Acting) (request : Outgoing) → a.window.queued ≡ request ∷ [] → a.window.outs ≡ [] → 1 ≤ a.window.limits.outstanding
    → (repeated (suc n) one_sent a).window ≡ with_out a.window a.time request
many_go zero a request queued outs room =
    sent_window (after_send a.time a.window).request (record a { window = (after_send a.time a.window).window })
    ∙ one_goes a.time a.window request queued outs room
many_go (suc n) a request queued outs room =
    let b = repeated (suc n) one_sent a in
    let before = many_go n a request queued outs room in
    sent_window (after_send b.time b.window).request (record b { window = (after_send b.time b.window).window })
    ∙ ap (λ queue. (sent_of b.time b.window queue).window) (ap (λ (w : Window). w.queued) before) ∙ before

all_go : (a : Acting) (request : Outgoing) → is_given_up a ≡ false → a.window.queued ≡ request ∷ [] → a.window.outs ≡ []
    → 1 ≤ a.window.limits.outstanding → (sent a).window ≡ with_out a.window a.time request
all_go a request down queued outs room =
    ap (λ (b : Acting). b.window) (cond-false (is_given_up a) a (all_sent a) down) ∙ by_room a.window.limits.outstanding room
  where
    by_room : (n : ℕ) → 1 ≤ n → (repeated n one_sent a).window ≡ with_out a.window a.time request
    by_room zero some = absurd (omega (arith, some))
    by_room (suc n) some = many_go n a request queued outs room

-- how long an answer is waited for
patient_is : (limits : Limits) (request : Outgoing) → patience limits request ≤ 3 * limits.timeout
patient_is limits request =
    cond_both (number_in attribute_id request.packet == sm_info) (3 * limits.timeout) limits.timeout (λ i. i ≤ 3 * limits.timeout)
    (λ _. omega arith) (λ _. omega arith)

-- the way of a poll is a path
along_is : (o : Option (List ℕ)) (way : Way) → along o ≡ Some way → (path : List ℕ) × (way ≡ Along path)
along_is None way e = absurd (cc)
along_is (Some path) way e = (path, let same : Along path ≡ way = cc in sym same)

-- decisions -----------------------------------------------------------------------------------------------------------------------

-- what is known when a poll or an announcement is due
poll_known : (now : ℕ) (state : SmState) (master : Option Rival) (next : ℕ) → is_due now (poll_due_in state master next) ≡ true
    → (state ≡ Standby) × ((rival : Rival) × (master ≡ Some rival))
poll_known now Standby (Some rival) next e = (refl, (rival, refl))
poll_known now Standby None next e = absurd (cc)
poll_known now NotActive master next e = absurd (cc)
poll_known now Discovering master next e = absurd (cc)
poll_known now Master master next e = absurd (cc)

call_known : (now : ℕ) (state : SmState) (master : Option Rival) (next : ℕ) → is_due now (call_due_in state master next) ≡ true
    → (state ≡ Standby) × ((rival : Rival) × (master ≡ Some rival))
call_known now Standby (Some Lesser) next e = (refl, (Lesser, refl))
call_known now Standby (Some Greater) next e = absurd (cc)
call_known now Standby None next e = absurd (cc)
call_known now NotActive master next e = absurd (cc)
call_known now Discovering master next e = absurd (cc)
call_known now Master master next e = absurd (cc)

module _ (j last : ℕ) (line : Line) (a : Acting) (g : GoesOn a (line ∷ [])) (r : IsReady (suc j) last (before_deciding line a))
    (may : begin_fault (floor_raised (before_deciding line a)).manager ≡ None) where
  abbrev x : Acting
  x = before_deciding line a

  abbrev b : Acting
  b = after_line line a

  given : x.manager.outgoing ≡ []
  given = settled_given line a

  -- a decision that changes only when something is due
  waits : (e : Acting) → acted_in x.policy.activity x ≡ e → e.manager ≡ x.manager → e.window ≡ x.window → e.time ≡ x.time
      → e.policy.state ≡ x.policy.state → IsDueSoon last e.policy → IsRest (suc j) last x.manager e.policy → x.time ≤ last → RestEnds j last line a
  waits e is manager window time state soon rest early =
      let knows : e.policy.state ≡ e.manager.standing.state = state ∙ r.knows ∙ ap (λ (m : Manager). m.standing.state) (sym manager) in
      let policy = policy_is line a g r.idle e is knows in
      let after = manager_is line a g r.idle e is knows in
      let now = time_is line a g r.idle e is knows ∙ time in
      Waits (record {
        soon = subst (IsDueSoon last) (sym policy) soon;
        idle = idle_after line a g r.idle e is (ap (λ (m : Manager). m.outgoing) manager ∙ given) window;
        state = subst (λ (m : Manager). IsRest (suc j) last m b.policy) (sym (after ∙ ap emptied manager))
            (subst (IsRest (suc j) last (emptied x.manager)) (sym policy) (record {
              info = rest.info;
              idle = rest.idle;
              active = rest.active;
              few = rest.few;
              poll = rest.poll;
            }));
        knows = ap (λ (p : Policy). p.state) policy ∙ knows ∙ ap (λ (m : Manager). m.standing.state) (sym after);
        time = omega (arith, now, early);
      })

  polls_early : is_due x.time (poll_due x.policy) ≡ false → (x.policy.state ≡ Standby) × ((rival : Rival) × (x.policy.master ≡ Some rival)) → x.time ≤ last
  polls_early none known =
      let before = leb-false x.policy.next_poll x.time
      (ap (is_due x.time) (sym (λ i. poll_due_in (known.0 i) (known.1.1 i) x.policy.next_poll)) ∙ none) in
      let soon = (r.state.poll (sym r.knows ∙ known.0)).1 in
      omega (arith, before, soon)

  early : is_due x.time (poll_due x.policy) ≡ false → is_due x.time (sweep_due x.policy) ≡ false → x.time ≤ last
  early none still = by_state x.policy.state x.policy.master refl refl
    where
      itself : sweeps_in x.policy.state x.policy.master ≡ true → x.time ≤ last
      itself e =
          let due = sweep_soon last x.policy r.soon e in
          let before = leb-false due.time x.time (sym (ap (is_due x.time) due.is) ∙ still) in
          let soon = due.soon in
          omega (arith, before, soon)

      by_state : (state : SmState) (master : Option Rival) → x.policy.state ≡ state → x.policy.master ≡ master → x.time ≤ last
      by_state NotActive master e f = absurd (r.state.active (sym r.knows ∙ e))
      by_state Discovering master e f = itself (λ i. sweeps_in (e i) (f i))
      by_state Master master e f = itself (λ i. sweeps_in (e i) (f i))
      by_state Standby None e f = itself (λ i. sweeps_in (e i) (f i))
      by_state Standby (Some rival) e f = polls_early none (e, (rival, f))

  -- a sweep begins
  begins : acted_in x.policy.activity x ≡ decided (record { policy = sweeping x.time x.policy; act = act.Sweep }) x → RestEnds j last line a
  begins is =
      Begins (ap (λ (p : Policy). is_sweeping p.activity) policy)
      (subst (λ (m : Manager). IsSweep j m b.policy) (sym after) (subst (IsSweep j (emptied n)) (sym policy) (record {
        info = info_then;
        clean = refl;
        fresh = refl;
        state = by_state x.manager.standing.state refl;
      })))
    where
      c : Acting
      c = record x { policy = sweeping x.time x.policy }

      e : Acting
      e = done_by act.Sweep c

      n : Manager
      n = after_begin_sweep (floor_raised x).manager

      made : e.manager ≡ n
      made = cond-true (is_none (begin_fault (floor_raised x).manager)) n (floor_raised x).manager (ap is_none may)

      decided_policy : e.policy ≡ c.policy
      decided_policy = cond-true (is_none (begin_fault (floor_raised x).manager)) c.policy (failed c.time c.policy) (ap is_none may)

      knows : e.policy.state ≡ e.manager.standing.state
      knows = ap (λ (p : Policy). p.state) decided_policy ∙ r.knows ∙ ap (λ (m : Manager). m.standing.state) (sym made)

      policy : b.policy ≡ c.policy
      policy = policy_is line a g r.idle e is knows ∙ decided_policy

      after : b.manager ≡ emptied n
      after = manager_is line a g r.idle e is knows ∙ ap emptied made

      info_then : InfoOnly (emptied n)
      info_then = r.state.info

      by_state : (state : SmState) → x.manager.standing.state ≡ state → Sweeps j (emptied n) c.policy
      by_state NotActive f = absurd (r.state.active f)
      by_state Discovering f = inr (inl (f, inl refl))
      by_state Master f = inr (inr f)
      by_state Standby f =
          inl (
            f,
            by_master x.policy.master
                (subst (λ s. need s x.policy.master x.manager.standing.polls_lost x.policy.masterless x.policy.gaps ≤ suc j) f r.state.few),
          )
        where
          by_master : (master : Option Rival) → need Standby master x.manager.standing.polls_lost x.policy.masterless x.policy.gaps ≤ suc j
              → sweeps_left x.policy.masterless x.policy.gaps + 1 ≤ j
          by_master None few = omega (arith, few)
          by_master (Some rival) few = omega (arith, few)

  -- a poll is due
  module _ (known : (x.policy.state ≡ Standby) × ((rival : Rival) × (x.policy.master ≡ Some rival)))
      (is : acted_in x.policy.activity x
      ≡ decided (record { policy = record x.policy { next_poll = later_by x.policy.timing.poll x.time }; act = act.Poll }) x) where
    abbrev c : Acting
    c = record x { policy = record x.policy { next_poll = later_by x.policy.timing.poll x.time } }

    abbrev e : Acting
    e = done_by act.Poll c

    standby : x.manager.standing.state ≡ Standby
    standby = sym r.knows ∙ known.0

    few : sweeps_left x.policy.masterless x.policy.gaps + 3 + (2 - x.manager.standing.polls_lost) ≤ suc j
    few =
        subst (λ o. need Standby o x.manager.standing.polls_lost x.policy.masterless x.policy.gaps ≤ suc j) known.1.1
        (subst (λ s. need s x.policy.master x.manager.standing.polls_lost x.policy.masterless x.policy.gaps ≤ suc j) standby r.state.few)

    -- there is no way
    fails : (why : ManagerFault) → poll_fault x.manager None ≡ Some why → RestEnds j last line a
    fails why f =
        Fails (record {
          about = ap (λ (p : Policy). p.activity) policy ∙ r.soon.rests;
          idle = idle_after line a g r.idle e is (ap (λ (m : Manager). m.outgoing) made ∙ given) refl;
          state = subst (λ (m : Manager). IsRest j b.policy.next_poll m b.policy) (sym after) (record {
            info = r.state.info;
            idle = r.state.idle;
            active = r.state.active;
            few = subst (λ (p : Policy). need x.manager.standing.state p.master x.manager.standing.polls_lost p.masterless p.gaps ≤ j) (sym policy)
                (subst (λ s. need s None x.manager.standing.polls_lost x.policy.masterless x.policy.gaps ≤ j) (sym standby)
                (let h = few in omega (arith, h)));
            poll = λ _. (ap (λ (p : Policy). p.state) policy ∙ known.0, omega arith);
          });
          knows = ap (λ (p : Policy). p.state) policy ∙ r.knows ∙ ap (λ (m : Manager). m.standing.state) (sym after);
        })
      where
        made : e.manager ≡ x.manager
        made = cond-false (is_none (poll_fault x.manager None)) (after_poll x.manager None) x.manager (ap is_none f)

        decided_policy : e.policy ≡ polled false c.policy
        decided_policy = cond-false (is_none (poll_fault x.manager None)) c.policy (polled false c.policy) (ap is_none f)

        knows : e.policy.state ≡ e.manager.standing.state
        knows = ap (λ (p : Policy). p.state) decided_policy ∙ r.knows ∙ ap (λ (m : Manager). m.standing.state) (sym made)

        policy : b.policy ≡ polled false c.policy
        policy = policy_is line a g r.idle e is knows ∙ decided_policy

        after : b.manager ≡ emptied x.manager
        after = manager_is line a g r.idle e is knows ∙ ap emptied made

    -- it goes out
    sends : poll_fault x.manager None ≡ None → RestEnds j last line a
    sends f = by_way (poll_way x.manager None) refl
      where
        m : Manager
        m = x.manager

        made : e.manager ≡ after_poll m None
        made = cond-true (is_none (poll_fault m None)) (after_poll m None) m (ap is_none f)

        decided_policy : e.policy ≡ c.policy
        decided_policy = cond-true (is_none (poll_fault m None)) c.policy (polled false c.policy) (ap is_none f)

        -- it has a way and a number
        unrefused : or_else (unless_way (poll_way m None)) (number_fault (m.counter + 1)) ≡ None
        unrefused =
            sym (cond-true (is_in Standby m.standing) (or_else (unless_way (poll_way m None)) (number_fault (m.counter + 1))) (Some fault.NotStandby)
            (eq-eqb (number_of_state m.standing.state) (number_of_state Standby) (ap number_of_state standby))) ∙ f

        numbers_left : (b : Bool) → nat_lt (2 ^ 32) (m.counter + 1) ≡ b → cond b (Some fault.SequenceSpent) None ≡ None → m.counter + 1 ≤ 2 ^ 32
        numbers_left true h none = absurd (cc)
        numbers_left false h none = ltb-false (2 ^ 32) (m.counter + 1) h

        by_way : (o : Option Way) → poll_way m None ≡ o → RestEnds j last line a
        by_way None w =
            let wrong : Some fault.Nobody ≡ None = sym (ap (λ o. or_else (unless_way o) (number_fault (m.counter + 1))) w) ∙ unrefused in absurd (cc)
        by_way (Some way) w =
            goes way w (along_is _ way w)
            (numbers_left (nat_lt (2 ^ 32) (m.counter + 1)) refl (sym (ap (λ o. or_else (unless_way o) (number_fault (m.counter + 1))) w) ∙ unrefused))
          where
            goes : (way : Way) → poll_way m None ≡ Some way → (path : List ℕ) × (way ≡ Along path) → m.counter + 1 ≤ 2 ^ 32 → RestEnds j last line a
            goes way w p small =
                Polls (record {
                  rests = ap (λ (q : Policy). is_resting q.activity) policy ∙ ap is_resting r.soon.rests;
                  out = out_at x.window.limits e.time 1 request;
                  queued = ap (λ (v : Window). v.queued) window;
                  outs = ap (λ (v : Window). v.outs) window;
                  poll = is_a_poll;
                  deadline = deadline_soon;
                  pending = waits_for;
                  found = ap (λ t. with_number t b.manager.pending) tid_is ∙ ap (with_number m.counter) pending_is
                      ∙ find_last m.counter m.pending waits_for (all_below 0 m.pending m.counter (lived_rising m lived)) refl;
                  purpose = refl;
                  standby = ap (λ (y : Manager). y.standing.state) after ∙ standby;
                  few =
                      let h = few in
                      let one = ap (λ (q : Policy). q.masterless) policy in
                      let two = ap (λ (q : Policy). q.gaps) policy in
                      let lost = ap (λ (y : Manager). y.standing.polls_lost) after in
                      omega (arith, h, one, two, lost);
                  polls_by = later_by x.policy.timing.poll x.time;
                  state = subst (λ (y : Manager). IsRest (suc j) (later_by x.policy.timing.poll x.time) y b.policy) (sym after)
                      (subst (IsRest (suc j) (later_by x.policy.timing.poll x.time) (emptied n)) (sym policy) (record {
                        info = subst InfoOnly (cond-true (is_none (poll_fault m None)) (after_poll m None) m (ap is_none f) ∙ way_is)
                            (info_call m r.state.info (Call.Poll None));
                        idle = r.state.idle;
                        active = r.state.active;
                        few = r.state.few;
                        poll = λ _. (known.0, omega arith);
                      }));
                })
              where
                n : Manager
                n = polled_by m (Some way)

                way_is : after_poll m None ≡ n
                way_is = ap (polled_by m) w

                request : Outgoing
                request = poll_out m.counter way

                waits_for : Pending
                waits_for = poll_pending m.counter way

                lived : HasLived m
                lived = (still_sound line a (is_sound a g.decided)).lived

                knows : e.policy.state ≡ e.manager.standing.state
                knows = ap (λ (q : Policy). q.state) decided_policy ∙ r.knows ∙ ap (λ (y : Manager). y.standing.state) (sym (made ∙ way_is))

                policy : b.policy ≡ c.policy
                policy = policy_is line a g r.idle e is knows ∙ decided_policy

                after : b.manager ≡ emptied n
                after = manager_is line a g r.idle e is knows ∙ ap emptied (made ∙ way_is)

                pending_is : b.manager.pending ≡ m.pending ++ waits_for ∷ []
                pending_is = ap (λ (y : Manager). y.pending) after

                packet_is : (t : Way) → t ≡ way → (number_in method (poll_out m.counter t).packet ≡ get)
                    × (number_in attribute_id (poll_out m.counter t).packet ≡ sm_info) × (number_in transaction_id (poll_out m.counter t).packet ≡ m.counter)
                packet_is t same =
                    subst (λ (u : Way). (number_in method (poll_out m.counter u).packet ≡ get)
                    × (number_in attribute_id (poll_out m.counter u).packet ≡ sm_info) × (number_in transaction_id (poll_out m.counter u).packet ≡ m.counter))
                    (sym p.1 ∙ sym same) (
                      directed_method get sm_info 0 m.counter p.0 (replicate 64 0) (omega arith),
                      directed_attribute get sm_info 0 m.counter p.0 (replicate 64 0) (omega arith),
                      directed_transaction get sm_info 0 m.counter p.0 (replicate 64 0) (omega (arith, small)) (omega arith),
                    )

                fields : (number_in method request.packet ≡ get) × (number_in attribute_id request.packet ≡ sm_info)
                    × (number_in transaction_id request.packet ≡ m.counter)
                fields = packet_is way refl

                tid_is : number_in transaction_id request.packet ≡ m.counter
                tid_is = fields.2

                is_a_poll : is_poll request.packet ≡ true
                is_a_poll =
                    all_three (number_in method request.packet == get) (number_in attribute_id request.packet == sm_info)
                    (nat_lt (number_in transaction_id request.packet) (2 ^ 32)) (eq-eqb (number_in method request.packet) get fields.0)
                    (eq-eqb (number_in attribute_id request.packet) sm_info fields.1)
                    (lt-ltb (number_in transaction_id request.packet) (2 ^ 32) (let t = tid_is in omega (arith, t, small)))

                l : (x.window.queued ≡ []) × (x.window.outs ≡ [])
                l = lists_idle x.window.queued x.window.outs r.idle

                -- the packet is all that is queued
                queued_is : (collected e).window.queued ≡ request ∷ []
                queued_is =
                    (λ i. l.0 i ++ filter is_request ((ap (λ (y : Manager). y.outgoing) (made ∙ way_is)) i))
                    ∙ ap (λ packets. filter is_request (packets ++ request ∷ [])) given
                    ∙ cond-true (is_request request) (request ∷ []) [] (gets request fields.0)

                down : is_given_up (collected e) ≡ false
                down =
                    ap (λ (q : Policy). is_writing q.activity && ((collected e).is_void || not (is_master (collected e).manager.standing.state))) decided_policy
                    ∙ ap (λ (w : Activity). is_writing w && ((collected e).is_void || not (is_master (collected e).manager.standing.state))) r.soon.rests

                room : 1 ≤ x.window.limits.outstanding
                room = subst (λ (v : Limits). 1 ≤ v.outstanding) (sym (fell line a g r.idle).fits.same) g.outstanding

                window : b.window ≡ with_out x.window e.time request
                window =
                    window_is line a g r.idle e is knows
                    ∙ all_go (collected e) request down queued_is l.1 room

                deadline_soon : (out_at x.window.limits e.time 1 request).deadline ≤ b.time + 3 * b.window.limits.timeout
                deadline_soon =
                    let limits = ap (λ (v : Window). v.limits.timeout) window in
                    let time = time_is line a g r.idle e is knows in
                    let patient = patient_is x.window.limits request in
                    omega (arith, limits, time, patient)

    pub by_fault : (o : Option ManagerFault) → poll_fault x.manager None ≡ o → RestEnds j last line a
    by_fault None f = sends f
    by_fault (Some why) f = fails why f

  -- what it does
  pub rest_ends : RestEnds j last line a
  rest_ends =
      by_due (is_due x.time (poll_due x.policy)) refl (is_due x.time (call_due x.policy)) refl (is_due x.time (sweep_due x.policy)) refl
    where
      acts : acted_in x.policy.activity x ≡ decided (rested x.time x.policy) x
      acts = ap (λ what. acted_in what x) r.soon.rests

      by_due : (poll : Bool) → is_due x.time (poll_due x.policy) ≡ poll → (call : Bool) → is_due x.time (call_due x.policy) ≡ call → (sweep : Bool)
          → is_due x.time (sweep_due x.policy) ≡ sweep → RestEnds j last line a
      by_due true p call c sweep s =
          by_fault (poll_known x.time x.policy.state x.policy.master x.policy.next_poll p)
          (acts ∙ ap (λ (d : Decision). decided d x) (cond-true (is_due x.time (poll_due x.policy)) _ _ p)) (poll_fault x.manager None) refl
      by_due false p true c sweep s =
          waits (done_by act.Announce (record x { policy = record x.policy { next_call = later_by announced_every x.time } }))
          (acts ∙ ap (λ (d : Decision). decided d x)
          (cond-false (is_due x.time (poll_due x.policy)) _ _ p ∙ cond-true (is_due x.time (call_due x.policy)) _ _ c)) refl refl refl refl
          (record { rests = r.soon.rests; earliest = r.soon.earliest; wanted = r.soon.wanted; regular = r.soon.regular })
          (record { info = r.state.info; idle = r.state.idle; active = r.state.active; few = r.state.few; poll = r.state.poll })
          (polls_early p (call_known x.time x.policy.state x.policy.master x.policy.next_call c))
      by_due false p false c true s =
          begins (acts ∙ ap (λ (d : Decision). decided d x)
          (cond-false (is_due x.time (poll_due x.policy)) _ _ p ∙ cond-false (is_due x.time (call_due x.policy)) _ _ c
          ∙ cond-true (is_due x.time (sweep_due x.policy)) _ _ s))
      by_due false p false c false s =
          waits (record x { policy = x.policy })
          (acts ∙ ap (λ (d : Decision). decided d x)
          (cond-false (is_due x.time (poll_due x.policy)) _ _ p ∙ cond-false (is_due x.time (call_due x.policy)) _ _ c
          ∙ cond-false (is_due x.time (sweep_due x.policy)) _ _ s)) refl refl refl refl r.soon r.state (early p s)
