-- While a manager rests, the time at which it sweeps is not put off.
use Rattle.std.proofs.Common.{◌≡◌, ◌∙◌, ℕ, zero, suc, ◌≤◌, Bool, true, false, cond, ◌&&◌, List, [], ◌∷◌, ◌++◌, length, refl, sym, ap, subst, arith}
use Rattle.std.proofs.lemmas.Bool.{cond_both}
use Rattle.std.specs.Prelude.{Option, Some, None, is_none, max}
use Rattle.smp_bytes.specs.Packet.{fault_of, is_response}
use Rattle.smp_bytes.specs.declared.smp_fault.SmpFault.{SmpFault}
use Rattle.sm_state.specs.declared.state.SmState.{SmState}
use Rattle.sm_state.specs.declared.state.SmState.TheVariants.{NotActive, Discovering, Standby, Master}
use Rattle.sm_manager.specs.CallLists.{Call, after_call}
use Rattle.sm_manager.specs.Packets.{after_packet}
use Rattle.sm_manager.specs.declared.outgoing.Outgoing.{Outgoing}
use Rattle.sm_policy.specs.Policy.{in_state, is_master, later_by, moved, new_policy, polled, shortest, sweeps_first, taken_over, wanting}
use Rattle.sm_policy.specs.PolicyLaws as news
use Rattle.sm_policy.specs.PolicyLaws.{IsDueBy, News, Rise, after_news, longest_wait}
use Rattle.sm_policy.specs.Resting.{call_due_in, earlier, poll_due_in, rest_due, sweep_due_in}
use Rattle.sm_policy.specs.declared.activity.Activity.{Activity}
use Rattle.sm_policy.specs.declared.activity.Activity.TheVariants as activity
use Rattle.sm_policy.specs.declared.policy.Policy.{Policy}
use Rattle.sm_policy.specs.declared.rival.Rival.{Rival}
use Rattle.sm_policy.specs.declared.timing.Timing.{Timing}
use Rattle.sm_policy.proofs.Prompt.{never_waits_long}
use Rattle.request_window.specs.Window.{after_answer, after_drop_out, after_drop_queued, after_overdue, late_in}
use Rattle.request_window.specs.declared.late.Late.{Late}
use Rattle.request_window.specs.declared.late.Late.TheVariants.{Again, GivenUp}
use Rattle.acting_manager.specs.Acting.{Acting, caught_up, collected, entered, looked}
use Rattle.acting_manager.specs.Heard.{answered, answers_poll, asked, given_up, handed_in, hands_over, heard_by, requested, responded, says_master, tells_change, told}
use Rattle.acting_manager.specs.Working.{Told, all_overdue, dropped, dropped_one, is_given_up, late_done, one_overdue, out_dropped, paused_until}
use Rattle.acting_manager.specs.Working.{queued_dropped, repeated, stood_still, stopped, taken, told_time, wake_of}
use Rattle.program_laws.specs.Wakes.{IsNoLeave, Line, before_deciding}
use Rattle.program_laws.proofs.wakes.News.{HasNews, after_behind, rise_behind}

-- the times ---------------------------------------------------------------------------------------------------------

-- a sweep of a manager that rests is due at `by` at the latest, whatever state it comes into
pub record IsDueSoon (by : ℕ) (p : Policy) : Type 0 where
  pub rests : p.activity ≡ activity.Rests
  pub earliest : p.earliest ≤ by
  pub wanted : later_by shortest p.begun ≤ by
  pub regular : p.state ≡ Master → p.is_wanted ≡ false → p.next_sweep ≤ by

module _ (by : ℕ) where
  abbrev Soon : Policy → Type 0
  Soon = IsDueSoon by

  wants : (p : Policy) → Soon p → Soon (wanting p)
  wants p h = record { rests = h.rests; earliest = h.wanted; wanted = h.wanted; regular = λ is none. absurd (cc) }

  polls : (is_master : Bool) (p : Policy) → Soon p → Soon (polled is_master p)
  polls is_master p h = record { rests = h.rests; earliest = h.earliest; wanted = h.wanted; regular = h.regular }

  -- a state in which it does not sweep at once is not that of a master
  moves : (now : ℕ) (state : SmState) (p : Policy) → Soon p → Soon (moved now state p)
  moves now Master p h =
      subst (λ (what : Activity). Soon (cond (sweeps_first Master what) (wanting (in_state now Master p)) (in_state now Master p))) (sym h.rests)
      (record { rests = h.rests; earliest = h.wanted; wanted = h.wanted; regular = λ is none. absurd (cc) })
  moves now Discovering p h = record { rests = h.rests; earliest = h.wanted; wanted = h.wanted; regular = λ is none. absurd (cc) }
  moves now Standby p h = record { rests = h.rests; earliest = h.earliest; wanted = h.wanted; regular = λ is none. absurd (cc) }
  moves now NotActive p h = record { rests = h.rests; earliest = h.earliest; wanted = h.wanted; regular = λ is none. absurd (cc) }

  takes_over : (p : Policy) → Soon p → Soon (taken_over p)
  takes_over p h = record { rests = h.rests; earliest = h.wanted; wanted = h.wanted; regular = λ is none. absurd (cc) }

  -- steps -----------------------------------------------------------------------------------------------------------

  abbrev Keeps : (Acting → Acting) → Type 0
  Keeps step = (a : Acting) → Soon a.policy → Soon (step a).policy

  repeats : (n : ℕ) (step : Acting → Acting) → Keeps step → Keeps (repeated n step)
  repeats zero step each a h = h
  repeats (suc n) step each a h = each (repeated n step a) (repeats n step each a h)

  looks : Keeps looked
  looks a h =
      cond_both _ a (entered a.manager.standing.state a) (λ (b : Acting). Soon b.policy) (λ _. h)
      (λ _. moves a.time a.manager.standing.state a.policy h)

  catches_up : Keeps caught_up
  catches_up a h = looks (collected a) h

  ends_late : (late : Option Late) → Keeps (late_done late)
  ends_late None a h = h
  ends_late (Some (Again request)) a h = h
  ends_late (Some (GivenUp request)) a h = h

  overdue : Keeps one_overdue
  overdue a h =
      ends_late (late_in a.window.limits a.time a.window.outs).late (record a { window = after_overdue a.time a.window }) h

  all_end : Keeps all_overdue
  all_end a h = repeats (length a.window.outs) one_overdue overdue a h

  drops_one : (request : Option Outgoing) → Keeps (dropped_one request)
  drops_one None a h = h
  drops_one (Some request) a h = h

  drops_queued : Keeps queued_dropped
  drops_queued a h = drops_one (after_drop_queued a.window).request (record a { window = (after_drop_queued a.window).window }) h

  drops_out : Keeps out_dropped
  drops_out a h = drops_one (after_drop_out a.window).request (record a { window = (after_drop_out a.window).window }) h

  drops : Keeps dropped
  drops a h =
      let unqueued = repeated (length a.window.queued) queued_dropped a in
      repeats (length unqueued.window.outs) out_dropped drops_out unqueued (repeats (length a.window.queued) queued_dropped drops_queued a h)

  stops : Keeps stopped
  stops a h = cond_both (is_given_up a) (collected (dropped a)) a (λ (b : Acting). Soon b.policy) (λ _. drops a h) (λ _. h)

  -- packets ---------------------------------------------------------------------------------------------------------

  tells : (packet : List ℕ) → Keeps (told packet)
  tells packet a h =
      cond_both (answers_poll packet) (polled (says_master packet) a.policy) a.policy Soon (λ _. polls (says_master packet) a.policy h) (λ _. h)

  hands_in : (request : Outgoing) (packet : List ℕ) (is_taken : Bool) → Keeps (handed_in request packet is_taken)
  hands_in request packet is_taken a h =
      cond_both is_taken (told packet a) (given_up request a) (λ (b : Acting). Soon b.policy) (λ _. tells packet a h) (λ _. h)

  answers_it : (request : Option Outgoing) (packet : List ℕ) (from : Option ℕ) → Keeps (answered request packet from)
  answers_it None packet from a h = h
  answers_it (Some request) packet from a h =
      hands_in request packet (is_none (after_packet a.manager packet from).fault)
      (record a { manager = after_call a.manager (Call.Packet packet from) }) h

  requests : (packet : List ℕ) (from : Option ℕ) → Keeps (requested packet from)
  requests packet from a h =
      cond_both (tells_change packet) (wanting a.policy) _ Soon (λ _. wants a.policy h)
      (λ _. cond_both (hands_over packet && is_master a.manager.standing.state) (taken_over a.policy) a.policy Soon
      (λ _. takes_over a.policy h) (λ _. h))

  hears_by : (packet : List ℕ) (from : Option ℕ) (fault : Option SmpFault) → Keeps (heard_by packet from fault)
  hears_by packet from (Some why) a h = h
  hears_by packet from None a h =
      let b = record a { window = (after_answer packet a.window).window } in
      cond_both (is_response packet) (responded packet from a) (asked packet from a) (λ (b : Acting). Soon b.policy)
      (λ _. answers_it (after_answer packet a.window).request packet from b h)
      (λ _. cond_both (a.is_leaving && hands_over packet) a (requested packet from a) (λ (b : Acting). Soon b.policy) (λ _. h)
      (λ _. requests packet from a h))

  takes : (what : Told) → IsNoLeave what → Keeps (taken what)
  takes Told.Time remains a h = h
  takes (Told.Packet bytes from) remains a h = hears_by bytes from (fault_of bytes) a h
  takes Told.Look remains a h = wants a.policy h
  takes Told.Leave remains a h = absurd remains

  resumes : (now : ℕ) (a : Acting) → Soon a.policy → Soon (paused_until now a).policy
  resumes now a h = record { rests = h.rests; earliest = h.wanted; wanted = h.wanted; regular = λ is none. absurd (cc) }

  tells_time : (time : ℕ) → Keeps (told_time time)
  tells_time time a h =
      let now = max time a.time in
      cond_both (stood_still a.time now (wake_of a)) (paused_until now a) (record a { time = now }) (λ (b : Acting). Soon b.policy)
      (λ _. resumes now a h) (λ _. h)

  -- until the manager decides
  pub still_soon : (line : Line) → IsNoLeave line.1 → (a : Acting) → Soon a.policy → Soon (before_deciding line a).policy
  still_soon line remains a h =
      let b = taken line.1 (told_time line.0 a) in
      let caught = catches_up b (takes line.1 remains (told_time line.0 a) (tells_time line.0 a h)) in
      catches_up (all_overdue (stopped (caught_up b))) (all_end (stopped (caught_up b)) (stops (caught_up b) caught))

-- at first --------------------------------------------------------------------------------------------------------------

module _ (timing : Timing) (a : Acting) (h : HasNews timing a) where
  abbrev by : ℕ
  by = later_by (longest_wait timing) a.time

  -- what would be due if the manager came into a state
  due_in_state : (state : SmState) → (moved a.time state a.policy).state ≡ state → (state ≡ NotActive → ⊥)
      → IsDueBy by (rest_due (moved a.time state a.policy))
  due_in_state state is active =
      let more = h.told ++ (a.time, news.Moved state) ∷ [] in
      let after : news.after_told more (new_policy timing) ≡ moved a.time state a.policy =
      after_behind h.told ((a.time, news.Moved state) ∷ []) (new_policy timing) ∙ ap (after_news a.time (news.Moved state)) h.are in
      subst (λ (p : Policy). IsDueBy by (rest_due p)) after
      (never_waits_long timing more a.time (rise_behind 0 h.told a.time (news.Moved state) h.rise)
      (λ e. active (sym is ∙ sym (ap (λ (p : Policy). p.state) after) ∙ e)))

  due_regular : (state : SmState) (master : Option Rival) (is_wanted : Bool) (poll call earliest next : ℕ) → state ≡ Master → is_wanted ≡ false
      → IsDueBy by (earlier (poll_due_in state master poll) (earlier (call_due_in state master call) (sweep_due_in state master is_wanted earliest (max earliest next))))
      → next ≤ by
  due_regular Master master false poll call earliest next e f due = omega (arith, due)
  due_regular Master master true poll call earliest next e f due = absurd (cc)
  due_regular Discovering master is_wanted poll call earliest next e f due = absurd (cc)
  due_regular Standby master is_wanted poll call earliest next e f due = absurd (cc)
  due_regular NotActive master is_wanted poll call earliest next e f due = absurd (cc)

  pub first_soon : a.policy.activity ≡ activity.Rests → IsDueSoon by a.policy
  first_soon rests =
      record {
        rests = rests;
        earliest = due_in_state Standby refl (λ e. absurd (cc));
        wanted = due_in_state Discovering refl (λ e. absurd (cc));
        regular = λ master unwanted.
            due_regular a.policy.state a.policy.master a.policy.is_wanted a.policy.next_poll a.policy.next_call a.policy.earliest
            a.policy.next_sweep master unwanted (here master);
      }
    where
      here : a.policy.state ≡ Master → IsDueBy by (rest_due a.policy)
      here master =
          subst (λ (p : Policy). IsDueBy by (rest_due p)) h.are
          (never_waits_long timing h.told a.time h.rise
          (λ e. let wrong : NotActive ≡ Master = sym e ∙ ap (λ (p : Policy). p.state) h.are ∙ master in absurd (cc)))
