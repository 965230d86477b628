-- The manager that stands for one that decides by itself makes its calls, and hears what that is told.
use Rattle.std.proofs.Common.{◌≡◌, ◌∙◌, ◌++◌, ℕ, zero, suc, arith, Bool, true, false, List, [], ◌∷◌, Option, None, Some, refl, sym, ap, subst}
use Rattle.std.proofs.lemmas.List.{append_assoc, append-nil}
use Rattle.std.proofs.lemmas.List.Elements.{Contains-append_left, Contains-append_right}
use Rattle.std.proofs.lemmas.Option.{slice_get-get_or}
use Rattle.std.specs.List.{AllByRecursion}
use Rattle.std.specs.Prelude.{Contains, if◌then◌else◌, option_to_list, slice_get}
use Rattle.fabric_model.specs.Cables.{is_same_port}
use Rattle.sm_manager.specs.CallLists.{Call, after_call, after_calls}
use Rattle.sm_manager.specs.Manager.{Manager, after_take_outgoing}
use Rattle.sm_manager.specs.declared.outgoing.Outgoing.{Outgoing}
use Rattle.request_window.specs.declared.out.Out.{Out}
use Rattle.acting_manager.specs.Acting.{Acting}
use Rattle.acting_manager.specs.Working.{Told, given_away}
use Rattle.manager_laws.specs.Scene.{Handed}
use Rattle.manager_laws.specs.Managing as managing
use Rattle.manager_laws.specs.Managing.{CanBe, Managing, ManagerEvent, after_manager_event, after_manager_events, calling, hearing, one_more, packet_of, sending}
use Rattle.program_laws.specs.Deciding.{Deciding, DecidingEvent, IsNoPacket, StandsFor}
use Rattle.program_laws.specs.Deciding.{after_deciding_event, after_deciding_events, hearing_at, sending_from, telling}
use Rattle.program_laws.proofs.managed.Going.{Going, IsAllowed, taken_by}
use Rattle.program_laws.proofs.managed.Moves.{both, weaker}

-- calls as events ----------------------------------------------------------------------------------

-- the event of a manager for a call, if the packet that it may bring is the one at the given index
abbrev pub event_of : ℕ → Call → ManagerEvent
event_of which Call.BeginSweep = managing.Begin
event_of which Call.WriteSteps = managing.Write
event_of which Call.Take = managing.Take
event_of which (Call.Packet bytes from) = managing.Hear which
event_of which (Call.Timeout transaction) = managing.TimeOut transaction
event_of which (Call.Raise floor) = managing.Raise floor
event_of which (Call.Merge floor sightings) = managing.Merge floor sightings
event_of which (Call.Poll lid) = managing.Poll lid
event_of which Call.Handover = managing.HandOver
event_of which Call.Yield = managing.Yield
event_of which Call.Rediscover = managing.Rediscover

abbrev pub events_of : ℕ → List Call → List ManagerEvent
events_of which [] = []
events_of which (call ∷ calls) = event_of which call ∷ events_of which calls

-- `w` with the manager after the calls, and the packets that they take given out
abbrev pub called : List Call → Managing → Managing
called calls w = record w { manager = after_calls calls w.manager; out = w.out ++ taken_by calls w.manager }

one_taken : (out : List Outgoing) (packet : Option Outgoing) → one_more out packet ≡ out ++ option_to_list packet
one_taken out None = sym (append-nil out)
one_taken out (Some packet) = refl

-- the packet that is told comes in if the event at the index is heard
module _ (what : Told) (which : ℕ) where
  abbrev pub Tells : Managing → Type 0
  Tells w = (bytes : List ℕ) (from : Option ℕ) → what ≡ Told.Packet bytes from → (m : Manager) (out : List Outgoing)
      → after_manager_event (record w { manager = m; out = out }) (managing.Hear which)
      ≡ record w { manager = after_call m (Call.Packet bytes from); out = out }

  pub can_be : (w : Managing) (calls : List Call) → AllByRecursion (IsAllowed what) calls → AllByRecursion (CanBe w.seat) (events_of which calls)
  can_be w [] a = tt
  can_be w (Call.BeginSweep ∷ calls) a = absurd a.0
  can_be w (Call.WriteSteps ∷ calls) a = absurd a.0
  can_be w (Call.Take ∷ calls) a = (tt, can_be w calls a.1)
  can_be w (Call.Packet bytes from ∷ calls) a = (tt, can_be w calls a.1)
  can_be w (Call.Timeout transaction ∷ calls) a = (tt, can_be w calls a.1)
  can_be w (Call.Raise floor ∷ calls) a = absurd a.0
  can_be w (Call.Merge floor sightings ∷ calls) a = absurd a.0
  can_be w (Call.Poll lid ∷ calls) a = (tt, can_be w calls a.1)
  can_be w (Call.Handover ∷ calls) a = (tt, can_be w calls a.1)
  can_be w (Call.Yield ∷ calls) a = (tt, can_be w calls a.1)
  can_be w (Call.Rediscover ∷ calls) a = (tt, can_be w calls a.1)

  pub events_call : (w : Managing) → Tells w → (calls : List Call) → AllByRecursion (IsAllowed what) calls → (m : Manager) (out : List Outgoing)
      → after_manager_events (events_of which calls) (record w { manager = m; out = out })
      ≡ record w { manager = after_calls calls m; out = out ++ taken_by calls m }
  events_call w t [] a m out = λ i. record w { manager = m; out = sym (append-nil out) i }
  events_call w t (Call.BeginSweep ∷ calls) a m out = absurd a.0
  events_call w t (Call.WriteSteps ∷ calls) a m out = absurd a.0
  events_call w t (Call.Take ∷ calls) a m out =
      let now = option_to_list (after_take_outgoing m).packet in
      let left = (after_take_outgoing m).manager in
      (λ i. after_manager_events (events_of which calls) (record w { manager = left; out = one_taken out (after_take_outgoing m).packet i }))
      ∙ events_call w t calls a.1 left (out ++ now)
      ∙ (λ i. record w { manager = after_calls calls left; out = append_assoc out now (taken_by calls left) i })
  events_call w t (Call.Packet bytes from ∷ calls) a m out =
      ap (after_manager_events (events_of which calls)) (t bytes from a.0 m out) ∙ events_call w t calls a.1 (after_call m (Call.Packet bytes from)) out
  events_call w t (Call.Timeout transaction ∷ calls) a m out = events_call w t calls a.1 (after_call m (Call.Timeout transaction)) out
  events_call w t (Call.Raise floor ∷ calls) a m out = absurd a.0
  events_call w t (Call.Merge floor sightings ∷ calls) a m out = absurd a.0
  events_call w t (Call.Poll lid ∷ calls) a m out = events_call w t calls a.1 (after_call m (Call.Poll lid)) out
  events_call w t (Call.Handover ∷ calls) a m out = events_call w t calls a.1 (after_call m Call.Handover) out
  events_call w t (Call.Yield ∷ calls) a m out = events_call w t calls a.1 (after_call m Call.Yield) out
  events_call w t (Call.Rediscover ∷ calls) a m out = events_call w t calls a.1 (after_call m Call.Rediscover) out

-- lists that a list contains -------------------------------------------------------------------------

contained : (xs ys : List Outgoing) → AllByRecursion (Contains (xs ++ ys)) ys
contained xs [] = tt
contained xs (y ∷ ys) = (
  Contains-append_right xs (y ∷ ys) y (0, omega arith, refl),
  subst (λ l. AllByRecursion (Contains l) ys) (append_assoc xs (y ∷ []) ys) (contained (xs ++ y ∷ []) ys),
)

more : (out later xs : List Outgoing) → AllByRecursion (Contains out) xs → AllByRecursion (Contains (out ++ later)) xs
more out later = weaker (Contains out) (Contains (out ++ later)) (λ x h. Contains-append_left out later x h)

-- events -------------------------------------------------------------------------------------------

-- a step of the manager that decides: the manager that stands for it makes the calls
pub staged : (w : Managing) (d : Deciding) (what : Told) (a b : Acting) → StandsFor w (record d { acting = a })
    → (g : Going what a b) → StandsFor (called g.calls w) (record d { acting = b })
staged w d what a b s goes =
    let taken = taken_by goes.calls w.manager in
    record {
      scene = s.scene;
      seat = s.seat;
      manager = ap (after_calls goes.calls) s.manager ∙ goes.are;
      printed = more w.out taken d.printed s.printed;
      held = goes.keeps (Contains (w.out ++ taken))
          (subst (λ m. AllByRecursion (Contains (w.out ++ taken)) (taken_by goes.calls m)) s.manager (contained w.out taken))
          (record {
            queued = more w.out taken a.window.queued s.held.queued;
            outs = weaker (λ (out : Out). Contains w.out out.request) (λ out. Contains (w.out ++ taken) out.request)
                (λ out h. Contains-append_left w.out taken out.request h) a.window.outs s.held.outs;
            ready = more w.out taken a.ready s.held.ready;
          });
      newest = goes.newest;
    }

-- what it had to give out is printed
pub printed_too : (w : Managing) (d : Deciding) (a : Acting) → StandsFor w (record d { acting = a })
    → StandsFor w (record d { acting = given_away a; printed = d.printed ++ a.ready })
printed_too w d a s =
    record {
      scene = s.scene;
      seat = s.seat;
      manager = s.manager;
      printed = both (Contains w.out) d.printed a.ready s.printed s.held.ready;
      held = record { queued = s.held.queued; outs = s.held.outs; ready = tt };
      newest = s.newest;
    }

-- what is told is no packet, so that none comes in
pub no_packet : (what : Told) (which : ℕ) (w : Managing) → IsNoPacket what → Tells what which w
no_packet what which w none bytes from e = absurd (subst IsNoPacket e none)

pub heard_here : (w : Managing) (h : Handed) (which : ℕ) → slice_get w.scene.handed which ≡ Some h → is_same_port h.at w.seat ≡ true
    → Tells (Told.Packet h.packet.bytes (Some h.packet.slid)) which w
heard_here w h which there here bytes from e m out =
    let v = record w { manager = m; out = out } in
    ap (hearing v) there ∙ ap (λ b. if b then calling v (Call.Packet h.packet.bytes (Some h.packet.slid)) else v) here
    ∙ ap (λ call. record w { manager = after_call m call; out = out }) (packet_is h.packet.bytes bytes (Some h.packet.slid) from e)
  where
    packet_is : (bytes bytes' : List ℕ) (from from' : Option ℕ) → Told.Packet bytes from ≡ Told.Packet bytes' from'
        → Call.Packet bytes from ≡ Call.Packet bytes' from'
    packet_is bytes bytes' from from' e = cc

-- the packet at some index of a list that contains it
pub at_index : (out : List Outgoing) (o : Outgoing) → Contains out o → (k : ℕ) × (slice_get out k ≡ Some o)
at_index out o c = (c.0, slice_get-get_or out c.0 o c.1 ∙ ap Some c.2)

pub each_at : (printed out : List Outgoing) (k : ℕ) (o : Outgoing) → AllByRecursion (Contains out) printed → slice_get printed k ≡ Some o → Contains out o
each_at [] out k o p e = absurd (cc)
each_at (x ∷ printed) out zero o p e = let same : x ≡ o = cc in subst (Contains out) same p.0
each_at (x ∷ printed) out (suc k) o p e = each_at printed out k o p.1 e

-- all events -----------------------------------------------------------------------------------------

heard_there : (time : ℕ) (there : Option Handed) (d : Deciding) → (hearing_at time there d).seat ≡ d.seat
heard_there time None d = refl
heard_there time (Some h) d = either (is_same_port h.at d.seat)
  where
    either : (b : Bool) → (if b then telling time (Told.Packet h.packet.bytes (Some h.packet.slid)) d else d).seat ≡ d.seat
    either true = refl
    either false = refl

sent_there : (there : Option Outgoing) (d : Deciding) → (sending_from there d).seat ≡ d.seat
sent_there None d = refl
sent_there (Some o) d = refl

pub seat_stays : (event : DecidingEvent) (d : Deciding) → (after_deciding_event d event).seat ≡ d.seat
seat_stays (DecidingEvent.Around event) d = refl
seat_stays (DecidingEvent.Tell time what) d = refl
seat_stays (DecidingEvent.Hear time which) d = heard_there time (slice_get d.scene.handed which) d
seat_stays (DecidingEvent.Send which) d = sent_there (slice_get d.printed which) d

pub seats_stay : (events : List DecidingEvent) (d : Deciding) → (after_deciding_events events d).seat ≡ d.seat
seats_stay [] d = refl
seats_stay (event ∷ events) d = seats_stay events (after_deciding_event d event) ∙ seat_stays event d
