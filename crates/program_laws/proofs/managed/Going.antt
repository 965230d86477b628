-- What a manager that decides by itself does is to make calls of its manager, to take packets from it, and to move them.
use Rattle.std.proofs.Common.{◌≡◌, ◌∙◌, ◌++◌, ◌<◌, ◌^◌, ℕ, zero, suc, Bool, true, false, List, [], ◌∷◌, Option, None, Some, length, not, refl, ap, subst}
use Rattle.std.specs.List.{AllByRecursion}
use Rattle.std.specs.Prelude.{if◌then◌else◌, is_none, option_to_list}
use Rattle.smp_bytes.specs.Field.{number_in}
use Rattle.smp_bytes.specs.Packet.{fault_of, is_response, transaction_id}
use Rattle.smp_bytes.specs.declared.smp_fault.SmpFault.{SmpFault}
use Rattle.sm_manager.specs.CallLists.{Call, after_call, after_calls}
use Rattle.sm_manager.specs.Manager.{Manager, after_take_outgoing, emptied}
use Rattle.sm_manager.specs.Packets.{after_packet}
use Rattle.sm_manager.specs.declared.outgoing.Outgoing.{Outgoing}
use Rattle.sm_policy.specs.Policy.{is_sweeping}
use Rattle.request_window.specs.Window.{after_answer, after_drop_out, after_drop_queued, after_overdue, after_send, answers as is_answered, late_in}
use Rattle.request_window.specs.declared.late.Late.{Late}
use Rattle.request_window.specs.declared.late.Late.TheVariants.{Again, GivenUp}
use Rattle.request_window.specs.declared.out.Out.{Out}
use Rattle.acting_manager.specs.Acting.{Acting, caught_up, collected, is_request, looked}
use Rattle.acting_manager.specs.Heard.{answered, asked, handed_in, heard_by, requested, responded}
use Rattle.acting_manager.specs.Working.{Told, all_overdue, dropped, dropped_one, late_done, leaving, one_overdue, one_sent}
use Rattle.acting_manager.specs.Working.{out_dropped, queued_dropped, repeated, sent, sent_one, stopped, taken as taken_in, told_time}
use Rattle.program_laws.specs.Deciding.{HoldsOnly}
use Rattle.program_laws.proofs.managed.Moves.{IsGivenOf, IsLateOf, both, drops_out, drops_queued, filtered, first_of, late_ones, later_of, sends_next, without_answered}

-- either case of a condition
pub cases : {A : Type 0} (b : Bool) (x y : A) (P : A → Type 1) → P x → P y → P (if b then x else y)
cases true x y P p q = p
cases false x y P p q = q

-- a manager that was told something as it decides: it has given up what is to be given up, and taken what was queued
abbrev pub readied : Acting → Acting
readied a = caught_up (all_overdue (stopped (caught_up a)))

-- calls ------------------------------------------------------------------------------------------

-- the packets that the calls take from the manager
abbrev pub taken_by : List Call → Manager → List Outgoing
taken_by [] m = []
taken_by (Call.Take ∷ calls) m = option_to_list (after_take_outgoing m).packet ++ taken_by calls (after_call m Call.Take)
taken_by (call ∷ calls) m = taken_by calls (after_call m call)

-- the call is one that a manager makes which is told `what`, until it decides: it takes in no packet but that, and no
-- view; it begins no sweep and no writing, and raises no floor
abbrev pub IsAllowed : Told → Call → Type 0
IsAllowed what Call.BeginSweep = ⊥
IsAllowed what Call.WriteSteps = ⊥
IsAllowed what (Call.Packet bytes from) = what ≡ Told.Packet bytes from
IsAllowed what (Call.Raise floor) = ⊥
IsAllowed what (Call.Merge floor sightings) = ⊥
IsAllowed what call = Unit {0}

after_both : (first later : List Call) (m : Manager) → after_calls (first ++ later) m ≡ after_calls later (after_calls first m)
after_both [] later m = refl
after_both (call ∷ first) later m = after_both first later (after_call m call)

module _ (P : Outgoing → Type 0) where
  -- what two lists of calls take, one after the other
  taken_first : (first later : List Call) (m : Manager) → AllByRecursion P (taken_by (first ++ later) m) → AllByRecursion P (taken_by first m)
  taken_first [] later m t = tt
  taken_first (Call.Take ∷ first) later m t =
      let now = option_to_list (after_take_outgoing m).packet in
      both P now (taken_by first (after_call m Call.Take)) (first_of P now _ t) (taken_first first later (after_call m Call.Take) (later_of P now _ t))
  taken_first (Call.BeginSweep ∷ first) later m t = taken_first first later _ t
  taken_first (Call.WriteSteps ∷ first) later m t = taken_first first later _ t
  taken_first (Call.Packet bytes from ∷ first) later m t = taken_first first later _ t
  taken_first (Call.Timeout transaction ∷ first) later m t = taken_first first later _ t
  taken_first (Call.Raise floor ∷ first) later m t = taken_first first later _ t
  taken_first (Call.Merge floor sightings ∷ first) later m t = taken_first first later _ t
  taken_first (Call.Poll lid ∷ first) later m t = taken_first first later _ t
  taken_first (Call.Handover ∷ first) later m t = taken_first first later _ t
  taken_first (Call.Yield ∷ first) later m t = taken_first first later _ t
  taken_first (Call.Rediscover ∷ first) later m t = taken_first first later _ t

  taken_later : (first later : List Call) (m : Manager) → AllByRecursion P (taken_by (first ++ later) m)
      → AllByRecursion P (taken_by later (after_calls first m))
  taken_later [] later m t = t
  taken_later (Call.Take ∷ first) later m t =
      taken_later first later (after_call m Call.Take) (later_of P (option_to_list (after_take_outgoing m).packet) _ t)
  taken_later (Call.BeginSweep ∷ first) later m t = taken_later first later _ t
  taken_later (Call.WriteSteps ∷ first) later m t = taken_later first later _ t
  taken_later (Call.Packet bytes from ∷ first) later m t = taken_later first later _ t
  taken_later (Call.Timeout transaction ∷ first) later m t = taken_later first later _ t
  taken_later (Call.Raise floor ∷ first) later m t = taken_later first later _ t
  taken_later (Call.Merge floor sightings ∷ first) later m t = taken_later first later _ t
  taken_later (Call.Poll lid ∷ first) later m t = taken_later first later _ t
  taken_later (Call.Handover ∷ first) later m t = taken_later first later _ t
  taken_later (Call.Yield ∷ first) later m t = taken_later first later _ t
  taken_later (Call.Rediscover ∷ first) later m t = taken_later first later _ t

-- each packet of a queue is taken
abbrev takes_of : List Outgoing → List Call
takes_of [] = []
takes_of (out ∷ later) = Call.Take ∷ takes_of later

after_takes : (m : Manager) (queue : List Outgoing) → after_calls (takes_of queue) (record m { outgoing = queue }) ≡ emptied m
after_takes m [] = refl
after_takes m (out ∷ later) = after_takes m later

module _ (P : Outgoing → Type 0) where
  taken_whole : (m : Manager) (queue : List Outgoing) → AllByRecursion P (taken_by (takes_of queue) (record m { outgoing = queue })) → AllByRecursion P queue
  taken_whole m [] t = tt
  taken_whole m (out ∷ later) t = (t.0, taken_whole m later t.1)

-- steps ------------------------------------------------------------------------------------------

-- whatever holds of all that `a` holds holds of all that `b` holds
abbrev pub Keeps : Acting → Acting → Type 1
Keeps a b = (P : Outgoing → Type 0) → HoldsOnly P a → HoldsOnly P b

-- allowed calls lead from the manager of `a` to that of `b`, and `b` holds nothing but what `a` holds and what they take
pub record Going (what : Told) (a b : Acting) : Type 1 where
  pub calls : List Call
  pub allowed : AllByRecursion (IsAllowed what) calls
  pub are : after_calls calls a.manager ≡ b.manager
  pub keeps : (P : Outgoing → Type 0) → AllByRecursion P (taken_by calls a.manager) → HoldsOnly P a → HoldsOnly P b
  pub newest : b.newest < 2 ^ 32

module _ (what : Told) where
  abbrev pub Goes : Acting → Acting → Type 1
  Goes a b = a.newest < 2 ^ 32 → Going what a b

  -- a step of a manager that decides by itself is of this kind
  abbrev pub Steps : (Acting → Acting) → Type 1
  Steps step = (a : Acting) → Goes a (step a)

  moves : (a b : Acting) → a.manager ≡ b.manager → a.newest ≡ b.newest → Keeps a b → Goes a b
  moves a b manager newest keeps h = record {
    calls = [];
    allowed = tt;
    are = manager;
    keeps = λ P t held. keeps P held;
    newest = subst (λ n. n < 2 ^ 32) newest h;
  }

  pub same : (a b : Acting) → a.window ≡ b.window → a.ready ≡ b.ready → Keeps a b
  same a b window ready P held = record {
    queued = subst (λ w. AllByRecursion P w.queued) window held.queued;
    outs = subst (λ w. AllByRecursion (λ (out : Out). P out.request) w.outs) window held.outs;
    ready = subst (AllByRecursion P) ready held.ready;
  }

  pub still : (a b : Acting) → a.manager ≡ b.manager → a.newest ≡ b.newest → a.window ≡ b.window → a.ready ≡ b.ready → Goes a b
  still a b manager newest window ready = moves a b manager newest (same a b window ready)

  pub calls : (a b : Acting) (call : Call) → IsAllowed what call → after_call a.manager call ≡ b.manager → a.newest ≡ b.newest → Keeps a b → Goes a b
  calls a b call allowed manager newest keeps h = record {
    calls = call ∷ [];
    allowed = (allowed, tt);
    are = manager;
    keeps = λ P t held. keeps P held;
    newest = subst (λ n. n < 2 ^ 32) newest h;
  }

  pub thus : (a b c : Acting) → Goes a b → Goes b c → Goes a c
  thus a b c r s h =
      let first = r h in
      let later = s first.newest in
      record {
        calls = first.calls ++ later.calls;
        allowed = both (IsAllowed what) first.calls later.calls first.allowed later.allowed;
        are = after_both first.calls later.calls a.manager ∙ ap (after_calls later.calls) first.are ∙ later.are;
        keeps = λ P t held.
            later.keeps P (subst (λ m. AllByRecursion P (taken_by later.calls m)) first.are (taken_later P first.calls later.calls a.manager t))
            (first.keeps P (taken_first P first.calls later.calls a.manager t) held);
        newest = later.newest;
      }

  collects : Steps collected
  collects a h = record {
    calls = takes_of a.manager.outgoing;
    allowed = all_allowed a.manager.outgoing;
    are = after_takes a.manager a.manager.outgoing;
    keeps = λ P t held.
        let queue = taken_whole P a.manager a.manager.outgoing t in
        record {
          queued = both P a.window.queued _ held.queued (filtered P is_request a.manager.outgoing queue);
          outs = held.outs;
          ready = both P a.ready _ held.ready (filtered P (λ out. not (is_request out)) a.manager.outgoing queue);
        };
    newest = h;
  }
    where
      all_allowed : (queue : List Outgoing) → AllByRecursion (IsAllowed what) (takes_of queue)
      all_allowed [] = tt
      all_allowed (out ∷ later) = (tt, all_allowed later)

  looks : Steps looked
  looks a = cases _ _ _ (Goes a) (still a _ refl refl refl refl) (still a _ refl refl refl refl)

  pub catches_up : Steps caught_up
  catches_up a = thus a (collected a) (caught_up a) (collects a) (looks (collected a))

  repeats : (n : ℕ) (step : Acting → Acting) → Steps step → Steps (repeated n step)
  repeats zero step each a = still a a refl refl refl refl
  repeats (suc n) step each a =
      thus a (repeated n step a) (step (repeated n step a)) (repeats n step each a) (each (repeated n step a))

  -- packets --------------------------------------------------------------------------------------

  times_out : (request : Outgoing) (a b : Acting) → after_call a.manager (Call.Timeout (number_in transaction_id request.packet)) ≡ b.manager
      → a.newest ≡ b.newest → Keeps a b → Goes a b
  times_out request a b = calls a b (Call.Timeout (number_in transaction_id request.packet)) tt

  hands_in : (request : Outgoing) (packet : List ℕ) (is_taken : Bool) → Steps (handed_in request packet is_taken)
  hands_in request packet is_taken a =
      cases is_taken _ _ (Goes a) (still a _ refl refl refl refl) (times_out request a _ refl refl (same a _ refl refl))

  answers : (request : Option Outgoing) (packet : List ℕ) (from : Option ℕ) → what ≡ Told.Packet packet from → Steps (answered request packet from)
  answers None packet from e a = still a a refl refl refl refl
  answers (Some request) packet from e a =
      let b = record a { manager = after_call a.manager (Call.Packet packet from) } in
      thus a b _ (calls a b (Call.Packet packet from) e refl refl (same a b refl refl))
      (hands_in request packet (is_none (after_packet a.manager packet from).fault) b)

  responds : (packet : List ℕ) (from : Option ℕ) → what ≡ Told.Packet packet from → Steps (responded packet from)
  responds packet from e a =
      let b = record a { window = (after_answer packet a.window).window } in
      thus a b _ (moves a b refl refl (λ P held. record {
        queued = held.queued;
        outs = without_answered P (is_answered packet) a.window.outs held.outs;
        ready = held.ready;
      })) (answers (after_answer packet a.window).request packet from e b)

  requests : (packet : List ℕ) (from : Option ℕ) → what ≡ Told.Packet packet from → Steps (requested packet from)
  requests packet from e a =
      cases _ _ _ (λ (m : Manager). Goes a (record (requested packet from a) { manager = m }))
      (calls a _ (Call.Packet packet from) e refl refl (same a _ refl refl)) (still a _ refl refl refl refl)

  asks : (packet : List ℕ) (from : Option ℕ) → what ≡ Told.Packet packet from → Steps (asked packet from)
  asks packet from e a = cases _ _ _ (Goes a) (still a a refl refl refl refl) (requests packet from e a)

  hears_by : (packet : List ℕ) (from : Option ℕ) (fault : Option SmpFault) → what ≡ Told.Packet packet from → Steps (heard_by packet from fault)
  hears_by packet from (Some fault) e a = still a a refl refl refl refl
  hears_by packet from None e a = cases (is_response packet) _ _ (Goes a) (responds packet from e a) (asks packet from e a)

  -- requests -------------------------------------------------------------------------------------

  is_late : (a : Acting) (late : Option Late) → ((P : Outgoing → Type 0) → HoldsOnly P a → IsLateOf P late)
      → Keeps a (record a { window = after_overdue a.time a.window }) → Goes a (late_done late (record a { window = after_overdue a.time a.window }))
  is_late a None late keeps = moves a _ refl refl keeps
  is_late a (Some (Again request)) late keeps = moves a _ refl refl (λ P held. record {
    queued = (keeps P held).queued;
    outs = (keeps P held).outs;
    ready = both P a.ready (request ∷ []) held.ready (late P held, tt);
  })
  is_late a (Some (GivenUp request)) late keeps = times_out request a _ refl refl (λ P held. record {
    queued = (keeps P held).queued;
    outs = (keeps P held).outs;
    ready = held.ready;
  })

  overdue_once : Steps one_overdue
  overdue_once a =
      is_late a (late_in a.window.limits a.time a.window.outs).late (λ P held. (late_ones P a.window.limits a.time a.window.outs held.outs).late)
      (λ P held. record {
        queued = held.queued;
        outs = (late_ones P a.window.limits a.time a.window.outs held.outs).outs;
        ready = held.ready;
      })

  drops_one : (request : Option Outgoing) (a b : Acting) → a.manager ≡ b.manager → a.newest ≡ b.newest → Keeps a b → Goes a (dropped_one request b)
  drops_one None a b manager newest keeps = moves a b manager newest keeps
  drops_one (Some request) a b manager newest keeps =
      times_out request a _ (ap (λ m. after_call m (Call.Timeout (number_in transaction_id request.packet))) manager) newest
      (λ P held. record { queued = (keeps P held).queued; outs = (keeps P held).outs; ready = (keeps P held).ready })

  drops_first_queued : Steps queued_dropped
  drops_first_queued a =
      drops_one (after_drop_queued a.window).request a (record a { window = (after_drop_queued a.window).window }) refl refl
      (λ P held. record {
        queued = (drops_queued P a.window held.queued held.outs).queued;
        outs = (drops_queued P a.window held.queued held.outs).outs;
        ready = held.ready;
      })

  drops_first_out : Steps out_dropped
  drops_first_out a =
      drops_one (after_drop_out a.window).request a (record a { window = (after_drop_out a.window).window }) refl refl
      (λ P held. record {
        queued = (drops_out P a.window held.queued held.outs).queued;
        outs = (drops_out P a.window held.queued held.outs).outs;
        ready = held.ready;
      })

  drops : Steps dropped
  drops a =
      let unqueued = repeated (length a.window.queued) queued_dropped a in
      thus a unqueued _ (repeats (length a.window.queued) queued_dropped drops_first_queued a)
      (repeats (length unqueued.window.outs) out_dropped drops_first_out unqueued)

  stops : Steps stopped
  stops a = cases _ _ _ (Goes a) (thus a (dropped a) _ (drops a) (collects (dropped a))) (still a a refl refl refl refl)

  sends_one : (a : Acting) (request : Option Outgoing) → ((P : Outgoing → Type 0) → HoldsOnly P a → IsGivenOf P request)
      → Keeps a (record a { window = (after_send a.time a.window).window })
      → Goes a (sent_one request (record a { window = (after_send a.time a.window).window }))
  sends_one a None given keeps = moves a _ refl refl keeps
  sends_one a (Some request) given keeps = moves a _ refl refl (λ P held. record {
    queued = (keeps P held).queued;
    outs = (keeps P held).outs;
    ready = both P a.ready (request ∷ []) held.ready (given P held, tt);
  })

  sends_once : Steps one_sent
  sends_once a =
      sends_one a (after_send a.time a.window).request (λ P held. (sends_next P a.time a.window held.queued held.outs).request)
      (λ P held. record {
        queued = (sends_next P a.time a.window held.queued held.outs).queued;
        outs = (sends_next P a.time a.window held.queued held.outs).outs;
        ready = held.ready;
      })

  pub sends : Steps sent
  sends a = cases _ _ _ (Goes a) (still a a refl refl refl refl) (repeats a.window.limits.outstanding one_sent sends_once a)

  -- what a manager is told -------------------------------------------------------------------------

  -- a manager that is told something gets ready to act
  pub readies : (a : Acting) → Goes a (readied a)
  readies a =
      let caught = caught_up a in
      let stop = stopped caught in
      let late = all_overdue stop in
      thus a caught _ (catches_up a) (thus caught stop _ (stops caught) (thus stop late _ (repeats (length stop.window.outs) one_overdue overdue_once stop)
      (catches_up late)))

  pub tells_time : (time : ℕ) → Steps (told_time time)
  tells_time time a = cases _ _ _ (Goes a) (still a _ refl refl refl refl) (still a _ refl refl refl refl)

  leaves : Steps leaving
  leaves a =
      cases a.is_leaving _ _ (Goes a) (still a a refl refl refl refl)
      (cases (is_sweeping a.policy.activity) _ _ (Goes a) (still a _ refl refl refl refl)
      (calls a _ Call.Yield tt refl refl (λ P held. record { queued = tt; outs = tt; ready = held.ready })))

  pub takes : (told : Told) → what ≡ told → Steps (taken_in told)
  takes Told.Time e a = still a a refl refl refl refl
  takes (Told.Packet bytes from) e a = hears_by bytes from (fault_of bytes) e a
  takes Told.Look e a = still a _ refl refl refl refl
  takes Told.Leave e a = leaves a
