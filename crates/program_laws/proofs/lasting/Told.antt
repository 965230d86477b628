-- What lasts while a manager that decides by itself is told something: a property of its manager, its policy, the plan that
-- it keeps, its notes, and whether it leaves, which each move keeps that it may make before it decides.
use Rattle.std.proofs.Common.{◌≡◌, ℕ, zero, suc, Bool, true, false, cond, ◌&&◌, List, length}
use Rattle.std.proofs.lemmas.Bool.{and_parts, cond_both}
use Rattle.std.specs.Prelude.{Option, Some, None, is_none, max}
use Rattle.smp_bytes.specs.Packet.{fault_of, is_response}
use Rattle.smp_bytes.specs.declared.smp_fault.SmpFault.{SmpFault}
use Rattle.lft_blocks.specs.Plan.{PlanValue}
use Rattle.sm_state.specs.declared.state.SmState.{SmState}
use Rattle.sm_manager.specs.CallLists.{Call, after_call}
use Rattle.sm_manager.specs.Manager.{Manager, emptied}
use Rattle.sm_manager.specs.Packets.{after_packet}
use Rattle.sm_manager.specs.declared.outgoing.Outgoing.{Outgoing}
use Rattle.sm_policy.specs.Policy.{is_master, polled, taken_over, wanting}
use Rattle.sm_policy.specs.declared.policy.Policy.{Policy}
use Rattle.request_window.specs.Window.{after_answer, after_drop_out, after_drop_queued, after_overdue, after_send, late_in}
use Rattle.request_window.specs.declared.late.Late.{Late}
use Rattle.request_window.specs.declared.late.Late.TheVariants.{Again, GivenUp}
use Rattle.acting_manager.specs.Acting.{Acting, caught_up, collected, entered, looked}
use Rattle.acting_manager.specs.Heard.{answered, answers_poll, asked, given_up, handed_in, hands_over, heard_by, is_handed, requested, responded, says_master}
use Rattle.acting_manager.specs.Heard.{tells_change, timed_out, told}
use Rattle.acting_manager.specs.Working.{Told, all_overdue, all_sent, dropped, dropped_one, is_given_up, is_writing, late_done, leaving, one_overdue, one_sent}
use Rattle.acting_manager.specs.Working.{out_dropped, paused_until, queued_dropped, repeated, sent, sent_one, stood_still, stopped, taken, told_time, wake_of}
use Rattle.acting_manager.specs.declared.note.Note.{Note}
use Rattle.program_laws.specs.Wakes.{Line, before_deciding}

-- a property of these
abbrev pub Property : Type 1
Property = Manager → Policy → Option PlanValue → List Note → Bool → Type 0

-- it is so of `a`
abbrev pub Of : Property → Acting → Type 0
Of P a = P a.manager a.policy a.kept a.notes a.is_leaving

-- each move keeps the property: the manager's packets are given out; a packet comes; a request is given up, or dropped
-- while the manager writes; the policy hears of something; the manager stood still, or is told to leave
pub record Lasts (P : Property) : Type 0 where
  pub gives : (a : Acting) → Of P a → Of P (record a { manager = emptied a.manager })
  pub hears : (a : Acting) (bytes : List ℕ) (from : Option ℕ) → Of P a
      → Of P (record a { manager = after_call a.manager (Call.Packet bytes from) })
  pub gives_up : (a : Acting) (request : Outgoing) → Of P a → Of P (given_up request a)
  pub drops : (a : Acting) (request : Outgoing) → is_writing a.policy.activity ≡ true → Of P a → Of P (timed_out request a)
  pub wants : (a : Acting) → Of P a → Of P (record a { policy = wanting a.policy })
  pub polls : (a : Acting) (is_master : Bool) → Of P a → Of P (record a { policy = polled is_master a.policy })
  pub is_taken : (a : Acting) → Of P a → Of P (record a { policy = taken_over a.policy })
  pub enters : (a : Acting) (state : SmState) → Of P a → Of P (entered state a)
  pub pauses : (a : Acting) (time : ℕ) → Of P a → Of P (paused_until time a)
  pub leaves : (a : Acting) → Of P a → Of P (leaving a)

module _ (P : Property) (lasts : Lasts P) where
  abbrev Keeps : (Acting → Acting) → Type 0
  Keeps step = (a : Acting) → Of P a → Of P (step a)

  repeats : (n : ℕ) (step : Acting → Acting) → Keeps step → Keeps (repeated n step)
  repeats zero step each a h = h
  repeats (suc n) step each a h = each (repeated n step a) (repeats n step each a h)

  looks : Keeps looked
  looks a h = cond_both _ a (entered a.manager.standing.state a) (Of P) (λ _. h) (λ _. lasts.enters a a.manager.standing.state h)

  collects : Keeps collected
  collects a h = lasts.gives a h

  pub catches_up : Keeps caught_up
  catches_up a h = looks (collected a) (collects a h)

  -- requests --------------------------------------------------------------------------------------------

  ends_late : (late : Option Late) → Keeps (late_done late)
  ends_late None a h = h
  ends_late (Some (Again request)) a h = h
  ends_late (Some (GivenUp request)) a h = lasts.gives_up a request h

  overdue : Keeps one_overdue
  overdue a h = ends_late (late_in a.window.limits a.time a.window.outs).late (record a { window = after_overdue a.time a.window }) h

  all_end : Keeps all_overdue
  all_end a h = repeats (length a.window.outs) one_overdue overdue a h

  -- while it writes
  abbrev Writing : Acting → Type 0
  Writing a = (is_writing a.policy.activity ≡ true) × Of P a

  drops_one : (request : Option Outgoing) (a : Acting) → Writing a → Writing (dropped_one request a)
  drops_one None a h = h
  drops_one (Some request) a h = (h.0, lasts.drops a request h.0 h.1)

  drops_some : (n : ℕ) (step : Acting → Acting) → ((a : Acting) → Writing a → Writing (step a)) → (a : Acting) → Writing a → Writing (repeated n step a)
  drops_some zero step each a h = h
  drops_some (suc n) step each a h = each (repeated n step a) (drops_some n step each a h)

  drops_queued : (a : Acting) → Writing a → Writing (queued_dropped a)
  drops_queued a h = drops_one (after_drop_queued a.window).request (record a { window = (after_drop_queued a.window).window }) h

  drops_out : (a : Acting) → Writing a → Writing (out_dropped a)
  drops_out a h = drops_one (after_drop_out a.window).request (record a { window = (after_drop_out a.window).window }) h

  drops_all : (a : Acting) → Writing a → Writing (dropped a)
  drops_all a h =
      let unqueued = repeated (length a.window.queued) queued_dropped a in
      drops_some (length unqueued.window.outs) out_dropped drops_out unqueued
      (drops_some (length a.window.queued) queued_dropped drops_queued a h)

  stops : Keeps stopped
  stops a h =
      cond_both (is_given_up a) (collected (dropped a)) a (Of P)
      (λ e. collects (dropped a) (drops_all a ((and_parts (is_writing a.policy.activity) _ e).0, h)).1) (λ _. h)

  sends_it : (request : Option Outgoing) → Keeps (sent_one request)
  sends_it None a h = h
  sends_it (Some request) a h = h

  sends_one : Keeps one_sent
  sends_one a h = sends_it (after_send a.time a.window).request (record a { window = (after_send a.time a.window).window }) h

  pub sends : Keeps sent
  sends a h = cond_both (is_given_up a) a (all_sent a) (Of P) (λ _. h) (λ _. repeats a.window.limits.outstanding one_sent sends_one a h)

  -- packets ---------------------------------------------------------------------------------------------

  tells : (packet : List ℕ) → Keeps (told packet)
  tells packet a h =
      cond_both (answers_poll packet) (polled (says_master packet) a.policy) a.policy (λ (p : Policy). P a.manager p a.kept a.notes a.is_leaving)
      (λ _. lasts.polls a (says_master packet) h) (λ _. h)

  hands_in : (request : Outgoing) (packet : List ℕ) (is_taken : Bool) → Keeps (handed_in request packet is_taken)
  hands_in request packet is_taken a h =
      cond_both is_taken (told packet a) (given_up request a) (Of P) (λ _. tells packet a h) (λ _. lasts.gives_up a request h)

  answers_it : (request : Option Outgoing) (packet : List ℕ) (from : Option ℕ) → Keeps (answered request packet from)
  answers_it None packet from a h = h
  answers_it (Some request) packet from a h =
      hands_in request packet (is_none (after_packet a.manager packet from).fault) (record a { manager = after_call a.manager (Call.Packet packet from) })
      (lasts.hears a packet from h)

  requests : (packet : List ℕ) (from : Option ℕ) → Keeps (requested packet from)
  requests packet from a h =
      by (tells_change packet) (hands_over packet && is_master a.manager.standing.state) (is_handed packet (is_master a.manager.standing.state))
    where
      after : Manager
      after = after_call a.manager (Call.Packet packet from)

      policies : (change taken : Bool) → Of P (record a { policy = cond change (wanting a.policy) (cond taken (taken_over a.policy) a.policy) })
      policies true taken = lasts.wants a h
      policies false true = lasts.is_taken a h
      policies false false = h

      by : (change taken handed : Bool)
          → P (cond handed after a.manager) (cond change (wanting a.policy) (cond taken (taken_over a.policy) a.policy)) a.kept a.notes a.is_leaving
      by change taken true =
          lasts.hears (record a { policy = cond change (wanting a.policy) (cond taken (taken_over a.policy) a.policy) }) packet from (policies change taken)
      by change taken false = policies change taken

  hears_by : (packet : List ℕ) (from : Option ℕ) (fault : Option SmpFault) → Keeps (heard_by packet from fault)
  hears_by packet from (Some why) a h = h
  hears_by packet from None a h =
      cond_both (is_response packet) (responded packet from a) (asked packet from a) (Of P)
      (λ _. answers_it (after_answer packet a.window).request packet from (record a { window = (after_answer packet a.window).window }) h)
      (λ _. cond_both (a.is_leaving && hands_over packet) a (requested packet from a) (Of P) (λ _. h) (λ _. requests packet from a h))

  takes : (what : Told) → Keeps (taken what)
  takes Told.Time a h = h
  takes (Told.Packet bytes from) a h = hears_by bytes from (fault_of bytes) a h
  takes Told.Look a h = lasts.wants a h
  takes Told.Leave a h = lasts.leaves a h

  tells_time : (time : ℕ) → Keeps (told_time time)
  tells_time time a h =
      let now = max time a.time in
      cond_both (stood_still a.time now (wake_of a)) (paused_until now a) (record a { time = now }) (Of P) (λ _. lasts.pauses a now h) (λ _. h)

  -- so it is until the manager decides
  pub lasts_until : (line : Line) → Keeps (before_deciding line)
  lasts_until line a h =
      let b = taken line.1 (told_time line.0 a) in
      let stop = stops (caught_up b) (catches_up b (takes line.1 (told_time line.0 a) (tells_time line.0 a h))) in
      catches_up (all_overdue (stopped (caught_up b))) (all_end (stopped (caught_up b)) stop)
