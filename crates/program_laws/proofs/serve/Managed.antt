-- A process at its seat is a manager there.
use Rattle.std.proofs.Common.{◌≡◌, ℕ, Bool, true, false, cond, List, [], ◌∷◌, ◌++◌, refl, sym, ap, ◌∙◌, subst}
use Rattle.std.specs.Prelude.{All, Option, Some, None, map, slice_get}
use Rattle.std.proofs.lemmas.List.{append_assoc, append-nil}
use Rattle.std.proofs.lemmas.List.Elements.{All-nil, All-cons, All-append, All-head, All-tail}
use Rattle.fabric_model.specs.declared.cable.NodePort.{NodePort}
use Rattle.fabric_model.specs.Cables.{is_same_port}
use Rattle.schedule_file.specs.declared.command.Ask.{Ask as Asking}
use Rattle.schedule_file.specs.declared.command.Ask.TheVariants as ask
use Rattle.sm_manager.specs.CallLists as calls
use Rattle.sm_manager.specs.Manager.{Manager, outstanding, emptied}
use Rattle.sm_manager.specs.declared.outgoing.Outgoing.{Outgoing}
use Rattle.manager_laws.specs.Scene.{Handed}
use Rattle.manager_laws.specs.Managing as managing
use Rattle.manager_laws.specs.Managing.{CanBe, Managing, ManagerEvent, after_manager_event, after_manager_events, calling, hearing, sending}
use Rattle.manager_laws.proofs.RunParts.{events_behind}
use Rattle.serve_lines.specs.declared.serve_line.ServeLine.{ServeLine}
use Rattle.serve_lines.specs.declared.serve_line.ServeLine.TheVariants.{Ask, Floor, Packet, Timeout, GiveUp}
use Rattle.serve_run.specs.Served.{after_giving_up, after_line, served, served_all}
use Rattle.program_laws.specs.Told.{call_asked, given_by}
use Rattle.program_laws.specs.Live.{CanLive, IsOrder, LiveEvent, Around, Tell, Hear, Send, ServedIsManaging, after_live}
use Rattle.program_laws.specs.Live.{event_asked, events_by, events_of, events_of_line, given_all, given_heard, lines_by, lines_heard, lines_of, takes_of}
use Rattle.program_laws.proofs.serve.Behind.{now_behind}
use Rattle.program_laws.proofs.serve.Lived.{asked_lives}

-- a line --------------------------------------------------------------------------------------------------

-- all that is queued is given out
taken_all : (w : Managing) (m : Manager) (before out : List Outgoing)
    → after_manager_events (takes_of out) (record w { manager = record m { outgoing = out }; out = before })
    ≡ record w { manager = emptied m; out = before ++ out }
taken_all w m before [] = ap (λ (out : List Outgoing). record w { manager = emptied m; out = out }) (sym (append-nil before))
taken_all w m before (o ∷ later) =
    taken_all w m (before ++ o ∷ []) later
    ∙ ap (λ (out : List Outgoing). record w { manager = emptied m; out = out }) (append_assoc before (o ∷ []) later)

given_up : (w : Managing) (transactions : List ℕ)
    → after_manager_events (map managing.TimeOut transactions) w
    ≡ record w { manager = (after_giving_up w.manager transactions).now }
given_up w [] = refl
given_up w (transaction ∷ later) = given_up (calling w (calls.Timeout transaction)) later

asked_so : (w : Managing) (what : Asking) → after_manager_event w (event_asked what) ≡ calling w (call_asked what)
asked_so w ask.Sweep = refl
asked_so w ask.Write = refl
asked_so w ask.Handover = refl
asked_so w ask.Yield = refl
asked_so w ask.Rediscover = refl
asked_so w (ask.Poll lid) = refl

told_so : (w : Managing) (line : ServeLine) → IsOrder line
    → after_manager_events (events_of_line w.manager line) w ≡ record w { manager = (after_line w.manager line).now }
told_so w (Ask what) order =
    asked_so w what ∙ ap (λ (m : Manager). record w { manager = m }) (sym (asked_lives w.manager what))
told_so w (Packet bytes from) order = absurd order
told_so w GiveUp order = given_up w (outstanding w.manager)
told_so w line order = refl

-- an event ------------------------------------------------------------------------------------------------

-- the process is told these lines
record Steps (w after : Managing) (lines : List ServeLine) : Type 0 where
  manager : after.manager ≡ (served_all w.manager lines).now
  out : after.out ≡ w.out ++ given_all lines w.manager
  seat : after.seat ≡ w.seat

-- one line
one_line : (w after : Managing) (line : ServeLine)
    → after ≡ record w { manager = (served w.manager line).now; out = w.out ++ given_by w.manager line }
    → Steps w after (line ∷ [])
one_line w after line e =
    record {
      manager = ap (λ (x : Managing). x.manager) e;
      out = ap (λ (x : Managing). x.out) e
          ∙ ap (λ out. w.out ++ out) (sym (append-nil (given_by w.manager line)));
      seat = ap (λ (x : Managing). x.seat) e;
    }

nothing_told : (w : Managing) → Steps w w []
nothing_told w = record { manager = refl; out = sym (append-nil w.out); seat = refl }

given_so : (w : Managing) (line : ServeLine)
    → after_manager_events (takes_of (given_by w.manager line)) (record w { manager = (after_line w.manager line).now })
    ≡ record w { manager = (served w.manager line).now; out = w.out ++ given_by w.manager line }
unfolding served
given_so w line = taken_all w (after_line w.manager line).now w.out (given_by w.manager line)

pub tell_so : (w : Managing) (line : ServeLine) → IsOrder line
    → after_live w (Tell line) ≡ record w { manager = (served w.manager line).now; out = w.out ++ given_by w.manager line }
tell_so w line order =
    events_behind (events_of_line w.manager line) (takes_of (given_by w.manager line)) w
    ∙ ap (after_manager_events (takes_of (given_by w.manager line))) (told_so w line order)
    ∙ given_so w line

tell_steps : (w : Managing) (line : ServeLine) → IsOrder line → Steps w (after_live w (Tell line)) (line ∷ [])
tell_steps w line order =
    one_line w (after_live w (Tell line)) line
    (events_behind (events_of_line w.manager line) (takes_of (given_by w.manager line)) w
    ∙ ap (after_manager_events (takes_of (given_by w.manager line))) (told_so w line order) ∙ given_so w line)

hear_steps : (w : Managing) (h : Option Handed)
    → Steps w (after_manager_events (takes_of (given_heard w h)) (hearing w h)) (lines_heard w h)
hear_steps w None = nothing_told w
hear_steps w (Some h) = by_seat (is_same_port h.at w.seat)
  where
    by_seat : (t : Bool)
        → Steps w
        (after_manager_events (takes_of (cond t (given_by w.manager (Packet h.packet.bytes h.packet.slid)) []))
        (cond t (calling w (calls.Packet h.packet.bytes (Some h.packet.slid))) w))
        (cond t (Packet h.packet.bytes h.packet.slid ∷ []) [])
    by_seat true = one_line w _ (Packet h.packet.bytes h.packet.slid) (given_so w (Packet h.packet.bytes h.packet.slid))
    by_seat false = nothing_told w

send_steps : (w : Managing) (o : Option Outgoing) → Steps w (sending w o) []
send_steps w None = nothing_told w
send_steps w (Some o) = record { manager = refl; out = sym (append-nil w.out); seat = refl }

event_steps : (w : Managing) (event : LiveEvent) → CanLive w.seat event → Steps w (after_live w event) (lines_by w event)
event_steps w (Around event) can = record { manager = refl; out = sym (append-nil w.out); seat = refl }
event_steps w (Tell line) can = tell_steps w line can
event_steps w (Hear which) can = hear_steps w (slice_get w.scene.handed which)
event_steps w (Send which) can = send_steps w (slice_get w.out which)

-- all of them ---------------------------------------------------------------------------------------------

given_behind : (one other : List ServeLine) (m : Manager)
    → given_all (one ++ other) m ≡ given_all one m ++ given_all other (served_all m one).now
given_behind [] other m = refl
given_behind (line ∷ one) other m =
    ap (λ out. given_by m line ++ out) (given_behind one other (served m line).now)
    ∙ sym (append_assoc (given_by m line) (given_all one (served m line).now)
    (given_all other (served_all (served m line).now one).now))

all_steps : (w : Managing) (events : List LiveEvent) → All (CanLive w.seat) events
    → Steps w (after_manager_events (events_of events w) w) (lines_of events w)
all_steps w [] can = nothing_told w
all_steps w (event ∷ events) can =
    let next = after_live w event in
    let here = event_steps w event (All-head (CanLive w.seat) event events can) in
    let can_then = subst (λ seat. All (CanLive seat) events) (sym here.seat) (All-tail (CanLive w.seat) event events can) in
    let there = all_steps next events can_then in
    let lines = lines_by w event in
    let later = lines_of events next in
    let behind = events_behind (events_by w event) (events_of events next) w in
    record {
      manager = ap (λ (x : Managing). x.manager) behind ∙ there.manager
          ∙ ap (λ m. (served_all m later).now) here.manager
          ∙ sym (now_behind w.manager lines later);
      out = ap (λ (x : Managing). x.out) behind ∙ there.out
          ∙ (λ i. here.out i ++ given_all later (here.manager i))
          ∙ append_assoc w.out (given_all lines w.manager) (given_all later (served_all w.manager lines).now)
          ∙ ap (λ out. w.out ++ out) (sym (given_behind lines later w.manager));
      seat = ap (λ (x : Managing). x.seat) behind ∙ there.seat ∙ here.seat;
    }

-- which can be --------------------------------------------------------------------------------------------

module _ (seat : NodePort) where
  pub takes_can : (out : List Outgoing) → All (CanBe seat) (takes_of out)
  takes_can [] = All-nil (CanBe seat)
  takes_can (o ∷ later) = All-cons (CanBe seat) managing.Take (takes_of later) tt (takes_can later)

  timeouts_can : (transactions : List ℕ) → All (CanBe seat) (map managing.TimeOut transactions)
  timeouts_can [] = All-nil (CanBe seat)
  timeouts_can (transaction ∷ later) =
      All-cons (CanBe seat) (managing.TimeOut transaction) (map managing.TimeOut later) tt (timeouts_can later)

  one_can : (event : ManagerEvent) → CanBe seat event → All (CanBe seat) (event ∷ [])
  one_can event can = All-cons (CanBe seat) event [] can (All-nil (CanBe seat))

  asked_can : (what : Asking) → CanBe seat (event_asked what)
  asked_can ask.Sweep = tt
  asked_can ask.Write = tt
  asked_can ask.Handover = tt
  asked_can ask.Yield = tt
  asked_can ask.Rediscover = tt
  asked_can (ask.Poll lid) = tt

  told_can : (m : Manager) (line : ServeLine) → IsOrder line → All (CanBe seat) (events_of_line m line)
  told_can m (Ask what) order = one_can (event_asked what) (asked_can what)
  told_can m (Floor floor) order = one_can (managing.Raise floor) order
  told_can m (Timeout transaction) order = one_can (managing.TimeOut transaction) tt
  told_can m GiveUp order = timeouts_can (outstanding m)
  told_can m line order = All-nil (CanBe seat)

  event_can : (w : Managing) (event : LiveEvent) → CanLive seat event → All (CanBe seat) (events_by w event)
  event_can w (Around event) can = one_can (managing.Around event) can
  event_can w (Tell line) can =
      All-append (CanBe seat) (events_of_line w.manager line) (takes_of (given_by w.manager line)) (told_can w.manager line can)
      (takes_can (given_by w.manager line))
  event_can w (Hear which) can =
      All-cons (CanBe seat) (managing.Hear which) (takes_of (given_heard w (slice_get w.scene.handed which))) tt
      (takes_can (given_heard w (slice_get w.scene.handed which)))
  event_can w (Send which) can = one_can (managing.Send which) tt

  pub all_can : (w : Managing) (events : List LiveEvent) → All (CanLive seat) events → All (CanBe seat) (events_of events w)
  all_can w [] can = All-nil (CanBe seat)
  all_can w (event ∷ events) can =
      All-append (CanBe seat) (events_by w event) (events_of events (after_live w event))
      (event_can w event (All-head (CanLive seat) event events can))
      (all_can (after_live w event) events (All-tail (CanLive seat) event events can))

pub served_is_managing : ServedIsManaging
served_is_managing w events can =
    let steps = all_steps w events can in
    record { manager = steps.manager; out = steps.out; can_be = all_can w.seat w events can }
