-- Each event of a manager that decides by itself, as events of the manager that stands for it.
use Rattle.std.proofs.Common.{◌≡◌, ◌∙◌, ◌^◌, ◌++◌, ℕ, arith, Bool, true, false, List, [], ◌∷◌, Option, None, Some, refl, sym, ap, subst}
use Rattle.std.specs.List.{AllByRecursion}
use Rattle.std.specs.Prelude.{◌&&◌, if◌then◌else◌, slice_get}
use Rattle.std.proofs.lemmas.Bool.{le-leb, lt-ltb}
use Rattle.fabric_model.specs.Cables.{is_same_port}
use Rattle.reply_facts.specs.Sighting.{is_generation}
use Rattle.sm_state.specs.Standing.{one_more}
use Rattle.sm_manager.specs.declared.outgoing.Outgoing.{Outgoing}
use Rattle.acting_manager.specs.Working.{Told}
use Rattle.manager_laws.specs.Managing as managing
use Rattle.manager_laws.specs.Managing.{CanBe, Managing, ManagerEvent, after_manager_event, after_manager_events, packet_of, sending}
use Rattle.manager_laws.specs.Scene.{Handed, Scene, after_event, sent_from}
use Rattle.manager_laws.proofs.RunParts.{events_behind}
use Rattle.program_laws.specs.Deciding.{CanDecide, Deciding, DecidingEvent, LeadsTo, StandsFor, after_deciding_event, hearing_at, sending_from, telling}
use Rattle.program_laws.proofs.managed.Calm.{calmly}
use Rattle.program_laws.proofs.managed.Staged.{at_index, each_at, heard_here, no_packet}
use Rattle.program_laws.proofs.managed.Turns.{QuietTurn, Quietly, SweepTurn, Turn, WriteTurn, told_turn}
use Rattle.program_laws.proofs.managed.Moves.{both}

-- one run behind another
pub leads_on : (w at to : Managing) (events more : List ManagerEvent) → after_manager_events events w ≡ at → after_manager_events more at ≡ to
    → after_manager_events (events ++ more) w ≡ to
leads_on w at to events more first later = events_behind events more w ∙ ap (after_manager_events more) first ∙ later

-- the generation after the newest is one
pub next_is_one : (n : ℕ) → is_generation (one_more n) ≡ true
next_is_one n = λ i. le-leb 1 (one_more n) (omega arith) i && lt-ltb (one_more n) (2 ^ 32) (omega arith) i

-- the property P is so of what the event is if the manager is not told anything by it: it happens around the manager, or
-- a packet is sent that was given out
abbrev pub Allows : (ManagerEvent → Type 0) → DecidingEvent → Type 0
Allows P (DecidingEvent.Around event) = P (managing.Around event)
Allows P (DecidingEvent.Tell time what) = Unit {0}
Allows P (DecidingEvent.Hear time which) = Unit {0}
Allows P (DecidingEvent.Send which) = (k : ℕ) → P (managing.Send k)

-- the manager is not told anything
pub record Aside (P : ManagerEvent → Type 0) (w : Managing) (d d' : Deciding) : Type 0 where
  pub event : ManagerEvent
  pub can_be : CanBe w.seat event
  pub allowed : P event
  pub stands : StandsFor (after_manager_event w event) d'
  pub acting : d'.acting ≡ d.acting

pub data Step (P : ManagerEvent → Type 0) (w : Managing) (d d' : Deciding) : Type 0 where
  Beside : Aside P w d d' → Step P w d d'
  Within : Turn w d d' → Step P w d d'

module _ (P : ManagerEvent → Type 0) (w : Managing) (d : Deciding) (s : StandsFor w d) where
  nothing : Step P w d d
  nothing = Within (Quietly (record {
    to = w;
    leads = record { events = []; can_be = tt; quiet = tt; leads = refl; seat = refl };
    stands = s;
    calm = calmly d.acting d.acting refl refl (λ e. e);
  }))

  heard_one : (time which : ℕ) (there : Option Handed) → slice_get w.scene.handed which ≡ there → Step P w d (hearing_at time there d)
  heard_one time which None e = nothing
  heard_one time which (Some h) e = at_seat (is_same_port h.at d.seat) refl
    where
      at_seat : (b : Bool) → is_same_port h.at d.seat ≡ b
          → Step P w d (if b then telling time (Told.Packet h.packet.bytes (Some h.packet.slid)) d else d)
      at_seat true here =
          Within (told_turn (Told.Packet h.packet.bytes (Some h.packet.slid)) which w d time s
          (heard_here w h which e (ap (is_same_port h.at) s.seat ∙ here)))
      at_seat false here = nothing

  sent_one : (which : ℕ) (there : Option Outgoing) → slice_get d.printed which ≡ there → ((k : ℕ) → P (managing.Send k))
      → Step P w d (sending_from there d)
  sent_one which None e allowed = nothing
  sent_one which (Some o) e allowed =
      let found = at_index w.out o (each_at d.printed w.out which o s.printed e) in
      Beside (record {
        event = managing.Send found.0;
        can_be = tt;
        allowed = allowed found.0;
        stands = subst (λ (v : Managing). StandsFor v (sending_from (Some o) d)) (sym (ap (sending w) found.1)) (record {
          scene = λ i. sent_from (s.scene i) (s.seat i) (packet_of o);
          seat = s.seat;
          manager = s.manager;
          printed = s.printed;
          held = s.held;
          newest = s.newest;
        });
        acting = refl;
      })

  pub stepped : (event : DecidingEvent) → CanDecide d.seat event → Allows P event → Step P w d (after_deciding_event d event)
  stepped (DecidingEvent.Around event) can allowed = Beside (record {
    event = managing.Around event;
    can_be = subst (λ seat. CanBe seat (managing.Around event)) (sym s.seat) can;
    allowed = allowed;
    stands = record {
      scene = ap (λ scene. after_event scene event) s.scene;
      seat = s.seat;
      manager = s.manager;
      printed = s.printed;
      held = s.held;
      newest = s.newest;
    };
    acting = refl;
  })
  stepped (DecidingEvent.Tell time what) can allowed = Within (told_turn what 0 w d time s (no_packet what 0 w can))
  stepped (DecidingEvent.Hear time which) can allowed =
      heard_one time which (slice_get d.scene.handed which) (ap (λ (scene : Scene). slice_get scene.handed which) s.scene)
  stepped (DecidingEvent.Send which) can allowed = sent_one which (slice_get d.printed which) refl allowed

-- what leads on ----------------------------------------------------------------------------------------

module _ (w : Managing) (d d' : Deciding) where
  abbrev pub beside_leads : (P : ManagerEvent → Type 0) → Aside P w d d' → LeadsTo w d'
  beside_leads P a = record { events = a.event ∷ []; can_be = (a.can_be, tt); stands = a.stands }

  abbrev pub quiet_leads : QuietTurn w d d' → LeadsTo w d'
  quiet_leads t = record {
    events = t.leads.events;
    can_be = t.leads.can_be;
    stands = subst (λ (v : Managing). StandsFor v d') (sym t.leads.leads) t.stands;
  }

  abbrev pub sweep_leads : SweepTurn w d d' → LeadsTo w d'
  sweep_leads t =
      let n = one_more d.acting.newest in
      let first = t.leads.events in
      let later = t.goes_on.events in
      let more = managing.Raise n ∷ managing.Begin ∷ later in
      record {
        events = first ++ more;
        can_be = both (CanBe w.seat) first more t.leads.can_be
            (next_is_one d.acting.newest, (tt, subst (λ seat. AllByRecursion (CanBe seat) later) t.leads.seat t.goes_on.can_be));
        stands = subst (λ (v : Managing). StandsFor v d') (sym (leads_on w t.at t.to first more t.leads.leads t.goes_on.leads)) t.stands;
      }

  abbrev pub write_leads : WriteTurn w d d' → LeadsTo w d'
  write_leads t =
      let first = t.leads.events in
      let later = t.goes_on.events in
      let more = managing.Write ∷ later in
      record {
        events = first ++ more;
        can_be = both (CanBe w.seat) first more t.leads.can_be
            (tt, subst (λ seat. AllByRecursion (CanBe seat) later) t.leads.seat t.goes_on.can_be);
        stands = subst (λ (v : Managing). StandsFor v d') (sym (leads_on w t.at t.to first more t.leads.leads t.goes_on.leads)) t.stands;
      }

  pub step_leads : (P : ManagerEvent → Type 0) → Step P w d d' → LeadsTo w d'
  step_leads P (Step.Beside a) = beside_leads P a
  step_leads P (Step.Within (Turn.Quietly t)) = quiet_leads t
  step_leads P (Step.Within (Turn.Sweeping t)) = sweep_leads t
  step_leads P (Step.Within (Turn.Writing t)) = write_leads t
