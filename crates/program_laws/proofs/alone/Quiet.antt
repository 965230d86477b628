-- What lasts while a manager that decides by itself hears no word of another one: a property of its manager and its policy, which
-- each move keeps that it may make before it decides.
use Rattle.std.proofs.Common.{◌≡◌, ℕ, zero, suc, Bool, true, false, cond, ◌&&◌, List, length, refl, sym, ap, subst}
use Rattle.std.proofs.lemmas.Bool.{and_parts, cond_both, cond-false}
use Rattle.std.specs.Prelude.{◌==◌, Option, Some, None, is_none, max}
use Rattle.smp_bytes.specs.Field.{number_in}
use Rattle.smp_bytes.specs.Header.{set, sm_info}
use Rattle.smp_bytes.specs.Packet.{attribute_id, fault_of, is_response, method, transaction_id}
use Rattle.smp_bytes.specs.declared.smp_fault.SmpFault.{SmpFault}
use Rattle.sm_state.specs.Standing.{info_of}
use Rattle.sm_state.specs.State.{number_of_state}
use Rattle.sm_manager.specs.CallLists.{Call, after_call}
use Rattle.sm_manager.specs.Manager.{Manager, emptied}
use Rattle.sm_manager.specs.Packets.{after_packet}
use Rattle.sm_manager.specs.declared.outgoing.Outgoing.{Outgoing}
use Rattle.sm_policy.specs.Policy.{is_master, moved, polled, taken_over, wanting}
use Rattle.sm_policy.specs.declared.policy.Policy.{Policy}
use Rattle.request_window.specs.Window.{after_answer, after_drop_out, after_drop_queued, after_overdue, late_in}
use Rattle.request_window.specs.declared.late.Late.{Late}
use Rattle.request_window.specs.declared.late.Late.TheVariants.{Again, GivenUp}
use Rattle.acting_manager.specs.Acting.{Acting, caught_up, collected, entered, looked}
use Rattle.acting_manager.specs.Heard.{answered, answers_poll, asked, given_up, handed_in, hands_over, heard_by, is_handed, requested, responded, says_master}
use Rattle.acting_manager.specs.Heard.{tells_change, told}
use Rattle.acting_manager.specs.Working.{Told, all_overdue, dropped, dropped_one, is_given_up, late_done, one_overdue, out_dropped, paused_until}
use Rattle.acting_manager.specs.Working.{queued_dropped, repeated, stood_still, stopped, taken, told_time, wake_of}
use Rattle.program_laws.specs.Alone.{IsNoWord, is_word}
use Rattle.program_laws.specs.Wakes.{IsNoLeave, Line, before_deciding}
use Rattle.program_laws.proofs.alone.Moves.{no_control, poll_is_word}

-- each move keeps the property: the manager's packets are given out; a packet comes that is no word; a request is given up; a
-- sweep is asked for; the policy hears of another state
pub record LastsQuietly (P : Manager → Policy → Type 0) : Type 0 where
  pub gives : (m : Manager) (p : Policy) → P m p → P (emptied m) p
  pub hears : (m : Manager) (p : Policy) (bytes : List ℕ) (from : Option ℕ) → is_word (info_of m.standing) bytes ≡ false → P m p
      → P (after_call m (Call.Packet bytes from)) p
  pub gives_up : (m : Manager) (p : Policy) (transaction : ℕ) → P m p → P (after_call m (Call.Timeout transaction)) p
  pub wants : (m : Manager) (p : Policy) → P m p → P m (wanting p)
  pub enters : (m : Manager) (p : Policy) (now : ℕ) → (number_of_state m.standing.state == number_of_state p.state) ≡ false → P m p
      → P m (moved now m.standing.state p)

-- the manager does not stand still before the line
abbrev pub IsAwake : Line → Acting → Type 0
IsAwake line a = stood_still a.time (max line.0 a.time) (wake_of a) ≡ false

pub told_is : (line : Line) (a : Acting) → IsAwake line a → told_time line.0 a ≡ record a { time = max line.0 a.time }
told_is line a awake =
    cond-false (stood_still a.time (max line.0 a.time) (wake_of a)) (paused_until (max line.0 a.time) a) (record a { time = max line.0 a.time }) awake

-- the time makes no word
pub no_word : (what : Told) (a : Acting) (now : ℕ) → IsNoWord what a → IsNoWord what (record a { time = now })
no_word Told.Time a now quiet = tt
no_word (Told.Packet bytes from) a now quiet = quiet
no_word Told.Look a now quiet = tt
no_word Told.Leave a now quiet = tt

module _ (P : Manager → Policy → Type 0) (lasts : LastsQuietly P) where
  abbrev pub Of : Acting → Type 0
  Of a = P a.manager a.policy

  abbrev Keeps : (Acting → Acting) → Type 0
  Keeps step = (a : Acting) → Of a → Of (step a)

  repeats : (n : ℕ) (step : Acting → Acting) → Keeps step → Keeps (repeated n step)
  repeats zero step each a h = h
  repeats (suc n) step each a h = each (repeated n step a) (repeats n step each a h)

  looks : Keeps looked
  looks a h =
      cond_both (number_of_state a.manager.standing.state == number_of_state a.policy.state) a (entered a.manager.standing.state a) Of (λ _. h)
      (λ other. lasts.enters a.manager a.policy a.time other h)

  collects : Keeps collected
  collects a h = lasts.gives a.manager a.policy h

  pub catches_up : Keeps caught_up
  catches_up a h = looks (collected a) (collects a h)

  -- requests --------------------------------------------------------------------------------------------

  ends_late : (late : Option Late) → Keeps (late_done late)
  ends_late None a h = h
  ends_late (Some (Again request)) a h = h
  ends_late (Some (GivenUp request)) a h = lasts.gives_up a.manager a.policy (number_in transaction_id request.packet) h

  overdue : Keeps one_overdue
  overdue a h = ends_late (late_in a.window.limits a.time a.window.outs).late (record a { window = after_overdue a.time a.window }) h

  all_end : Keeps all_overdue
  all_end a h = repeats (length a.window.outs) one_overdue overdue a h

  drops_one : (request : Option Outgoing) → Keeps (dropped_one request)
  drops_one None a h = h
  drops_one (Some request) a h = lasts.gives_up a.manager a.policy (number_in transaction_id request.packet) h

  drops_queued : Keeps queued_dropped
  drops_queued a h = drops_one (after_drop_queued a.window).request (record a { window = (after_drop_queued a.window).window }) h

  drops_out : Keeps out_dropped
  drops_out a h = drops_one (after_drop_out a.window).request (record a { window = (after_drop_out a.window).window }) h

  drops : Keeps dropped
  drops a h =
      let unqueued = repeated (length a.window.queued) queued_dropped a in
      repeats (length unqueued.window.outs) out_dropped drops_out unqueued (repeats (length a.window.queued) queued_dropped drops_queued a h)

  stops : Keeps stopped
  stops a h = cond_both (is_given_up a) (collected (dropped a)) a Of (λ _. collects (dropped a) (drops a h)) (λ _. h)

  -- packets ---------------------------------------------------------------------------------------------

  module _ (packet : List ℕ) (from : Option ℕ) (a : Acting) (quiet : is_word (info_of a.manager.standing) packet ≡ false) (h : Of a) where
    abbrev after : Manager
    after = after_call a.manager (Call.Packet packet from)

    heard : P after a.policy
    heard = lasts.hears a.manager a.policy packet from quiet h

    -- an answer to a poll is a word
    no_poll : {X : Type 0} → is_response packet ≡ true → answers_poll packet ≡ true → X
    no_poll response polls = poll_is_word (info_of a.manager.standing) packet quiet response polls

    hands_in : (b : Acting) (request : Outgoing) (is_taken : Bool) → is_response packet ≡ true → b.manager ≡ after → b.policy ≡ a.policy
        → Of (handed_in request packet is_taken b)
    hands_in b request is_taken response manager policy =
        cond_both is_taken (told packet b) (given_up request b) Of
        (λ _. cond_both (answers_poll packet) (polled (says_master packet) b.policy) b.policy (λ (p : Policy). P b.manager p)
        (λ polls. no_poll response polls) (λ _. here))
        (λ _. lasts.gives_up b.manager b.policy (number_in transaction_id request.packet) here)
      where
        here : Of b
        here = subst (λ (m : Manager). P m b.policy) (sym manager) (subst (P after) (sym policy) heard)

    answers_it : is_response packet ≡ true → (b : Acting) → b.manager ≡ a.manager → b.policy ≡ a.policy → (request : Option Outgoing)
        → Of (answered request packet from b)
    answers_it response b manager policy None = subst (λ (m : Manager). P m b.policy) (sym manager) (subst (P a.manager) (sym policy) h)
    answers_it response b manager policy (Some request) =
        hands_in (record b { manager = after_call b.manager (Call.Packet packet from) }) request (is_none (after_packet b.manager packet from).fault) response
        (ap (λ m. after_call m (Call.Packet packet from)) manager) policy

    requests : Of (requested packet from a)
    requests =
        by (tells_change packet) (hands_over packet && is_master a.manager.standing.state) refl (is_handed packet (is_master a.manager.standing.state))
      where
        policies : (change taken : Bool) → (hands_over packet && is_master a.manager.standing.state) ≡ taken → (m : Manager) → P m a.policy
            → P m (cond change (wanting a.policy) (cond taken (taken_over a.policy) a.policy))
        policies true taken e m k = lasts.wants m a.policy k
        policies false true e m k = hands_is_word (and_parts (hands_over packet) (is_master a.manager.standing.state) e).0
          where
            hands_is_word : {X : Type 0} → hands_over packet ≡ true → X
            hands_is_word hands =
                let sets = and_parts (number_in method packet == set) _ hands in
                no_control (info_of a.manager.standing) packet quiet (and_parts (number_in attribute_id packet == sm_info) _ sets.1).0 sets.0
        policies false false e m k = k

        by : (change taken : Bool) → (hands_over packet && is_master a.manager.standing.state) ≡ taken → (handed : Bool)
            → P (cond handed after a.manager) (cond change (wanting a.policy) (cond taken (taken_over a.policy) a.policy))
        by change taken e true = policies change taken e after heard
        by change taken e false = policies change taken e a.manager h

    hears_by : (fault : Option SmpFault) → Of (heard_by packet from fault a)
    hears_by (Some why) = h
    hears_by None =
        cond_both (is_response packet) (responded packet from a) (asked packet from a) Of
        (λ response. answers_it response (record a { window = (after_answer packet a.window).window }) refl refl (after_answer packet a.window).request)
        (λ _. cond_both (a.is_leaving && hands_over packet) a (requested packet from a) Of (λ _. h) (λ _. requests))

  takes : (what : Told) → IsNoLeave what → (a : Acting) → IsNoWord what a → Of a → Of (taken what a)
  takes Told.Time stays a quiet h = h
  takes (Told.Packet bytes from) stays a quiet h = hears_by bytes from a quiet h (fault_of bytes)
  takes Told.Look stays a quiet h = lasts.wants a.manager a.policy h
  takes Told.Leave stays a quiet h = absurd stays

  -- so it is once something was told
  pub hears_quietly : (line : Line) (a : Acting) → IsNoLeave line.1 → IsNoWord line.1 a → Of a
      → Of (caught_up (taken line.1 (record a { time = max line.0 a.time })))
  hears_quietly line a stays quiet h =
      let now = max line.0 a.time in
      catches_up (taken line.1 (record a { time = now })) (takes line.1 stays (record a { time = now }) (no_word line.1 a now quiet) h)

  -- and until the manager decides
  pub lasts_quietly : (line : Line) (a : Acting) → IsNoLeave line.1 → IsNoWord line.1 a → IsAwake line a → Of a → Of (before_deciding line a)
  lasts_quietly line a stays quiet awake h =
      let now = max line.0 a.time in
      let b = taken line.1 (told_time line.0 a) in
      let heard = subst (λ (t : Acting). Of (taken line.1 t)) (sym (told_is line a awake))
      (takes line.1 stays (record a { time = now }) (no_word line.1 a now quiet) h) in
      let stop = stops (caught_up b) (catches_up b heard) in
      catches_up (all_overdue (stopped (caught_up b))) (all_end (stopped (caught_up b)) stop)
