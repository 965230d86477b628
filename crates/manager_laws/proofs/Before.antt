-- Before the writing: whatever happens, a manager goes on.
use Rattle.std.proofs.Common.{◌≡◌, ◌≢◌, ◌⊎◌, inl, inr, ℕ, ◌≤◌, ◌^◌, true, false, cond, List, [], ◌∷◌, refl, sym, ap, ◌∙◌, subst}
use Rattle.fact_store.specs.View.{cells_of}
use Rattle.std.proofs.lemmas.Bool.{cond_both}
use Rattle.std.proofs.lemmas.List.Elements.{All-head, All-tail}
use Rattle.std.specs.Prelude.{Contains, Option, Some, None, All, is_none, slice_get}
use Rattle.fabric_model.specs.declared.cable.NodePort.{NodePort}
use Rattle.fabric_model.specs.Cables.{is_same_port}
use Rattle.fabric_sim.specs.Simulation.{Simulation}
use Rattle.lft_blocks.specs.Plan.{PlanValue, plan_of}
use Rattle.subnet_view.proofs.Members.{contains_none}
use Rattle.sweep.specs.Sweep.{Sweep}
use Rattle.sm_manager.specs.declared.outgoing.Outgoing.{Outgoing}
use Rattle.sm_manager.specs.Manager.{Manager, begin_fault, after_begin_sweep, after_take_outgoing, taken_of}
use Rattle.sm_manager.specs.Packets.{after_packet, after_timeout}
use Rattle.sm_manager.specs.PlanFaults.{writing_fault}
use Rattle.sm_manager.specs.ManagerRequests.{is_for_step}
use Rattle.sm_manager.specs.Writing.{begun_with, without_empty_phases, phases_by, after_write_steps}
use Rattle.manager_laws.specs.Scene.{Handed}
use Rattle.manager_laws.proofs.Answers.{was_there}
use Rattle.manager_laws.specs.Managing.{Managing, ManagerEvent, Around, Begin, Write, Take, Send, Hear, TimeOut, Raise, Merge, Poll, HandOver, Yield, Rediscover}
use Rattle.manager_laws.specs.Managing.{CanBe, taking, sending, hearing, after_manager_event, after_manager_events}
use Rattle.manager_laws.specs.Written.{BeginsNoWriting, BeginsSweep, SweepsFirst}
use Rattle.manager_laws.proofs.Calls.{beside_swept, hands_over, packet_comes, polls_beside, rediscovers, time_passes, yields}
use Rattle.manager_laws.proofs.Fair.{IsFair, fair_taken, fair_sent, fair_around}
use Rattle.manager_laws.proofs.Generations.{all_small, generation_small}
use Rattle.manager_laws.proofs.Goes.{Goes, CanGoOn, passed_goes, heard_at_seat, phase_goes, step_goes, beside_goes}
use Rattle.manager_laws.proofs.WritingSweeps.{Ground, SweepIs, IsSweptOne, begun, facts_merged, rises}
use Rattle.manager_laws.proofs.Writings.{MayWrite, may_write, writing_goes}

pub is_none-none : {X : Type 0} (m : Option X) → is_none m ≡ true → m ≡ None
is_none-none None e = refl
is_none-none (Some x) e = absurd (cc)

pub none-is_none : {X : Type 0} (m : Option X) → m ≡ None → is_none m ≡ true
none-is_none m e = ap is_none e

pub some-is_none : {X : Type 0} (m : Option X) → m ≢ None → is_none m ≡ false
some-is_none None other = absurd (other refl)
some-is_none (Some x) other = refl

-- what stays of a manager that gives its first packet out
pub record TakesFirst (m after : Manager) : Type 0 where
  pub counter : after.counter ≡ m.counter
  pub pending : after.pending ≡ m.pending
  pub writing : after.writing ≡ m.writing
  pub sweep : after.sweep ≡ m.sweep
  pub store : after.store ≡ m.store

pub takes_first : (m : Manager) → TakesFirst m (after_take_outgoing m).manager
takes_first m = by_list m.outgoing
  where
    by_list : (out : List Outgoing) → TakesFirst m (taken_of m out).manager
    by_list [] = record { counter = refl; pending = refl; writing = refl; sweep = refl; store = refl }
    by_list (o ∷ out) = record { counter = refl; pending = refl; writing = refl; sweep = refl; store = refl }

module _ (start : Simulation) (seat : NodePort) (plan : PlanValue) (ground : Ground start seat) where
  -- a sweep that began is one, whether an old one may be or not
  pub any_goes : (old : Type 0) (w : Managing) → Goes start seat plan ⊥ w → Goes start seat plan old w
  any_goes old w g =
      record {
        fair = record {
          scene = g.fair.scene;
          traced = g.fair.traced;
          seat_is = g.fair.seat_is;
          side = record {
            port = g.fair.side.port;
            lmc = g.fair.side.lmc;
            sweep = elim g.fair.side.sweep [ inl none ↦ absurd none.0 | inr swept ↦ inr swept ];
            knows = g.fair.side.knows;
          };
          once = g.fair.once;
          outgoing = g.fair.outgoing;
          out = g.fair.out;
        };
        waits = g.waits;
      }

  -- a sweep begins
  pub begin_goes : (old : Type 0) (w : Managing) → Goes start seat plan old w → begin_fault w.manager ≡ None
      → Goes start seat plan ⊥ (record w { manager = after_begin_sweep w.manager })
  begin_goes old w g none =
      beside_goes start seat plan old ⊥ w (after_begin_sweep w.manager) g
      (beside_swept start seat plan ground old w.scene.handed ⊥ w.manager (after_begin_sweep w.manager) g.fair.once
      (begun start seat old w.manager g.fair.side none))

  -- a writing begins
  write_goes : (old : Type 0) (w : Managing) → Goes start seat plan old w → (old → ⊥) → writing_fault w.manager ≡ None
      → Goes start seat plan old (record w { manager = after_write_steps w.manager })
  write_goes old w g new none = by_sweep w.manager.sweep (swept_one w.manager.sweep g.fair.side.sweep) few
    where
      may : MayWrite w.manager
      may = may_write w.manager none

      few : (begun_with w.manager (phases_by w.manager w.manager.sweep)).counter ≤ 2 ^ 32
      few = may.few

      swept_one : (o : Option Sweep) → SweepIs start seat old o → IsSweptOne start seat o
      swept_one o (inl nothing) = absurd (new nothing.0)
      swept_one o (inr swept) = swept

      by_sweep : (o : Option Sweep) → IsSweptOne start seat o → (begun_with w.manager (phases_by w.manager o)).counter ≤ 2 ^ 32
          → Goes start seat plan old (record w { manager = begun_with w.manager (phases_by w.manager o) })
      by_sweep None swept most = absurd swept
      by_sweep (Some s) swept most =
          let phases = phases_by w.manager (Some s) in
          phase_goes start seat plan old w w.manager (record { later = without_empty_phases phases; has_failed = false }) g.fair refl refl g.fair.side
          g.fair.once
          (passed_goes start seat plan phases (writing_goes start seat w.manager may g.fair.side.lmc s swept plan)) most

  -- a packet is heard
  heard_goes : (old : Type 0) (w : Managing) (which : ℕ) (m : Option Handed) → slice_get w.scene.handed which ≡ m → Goes start seat plan old w
      → Goes start seat plan old (hearing w m)
  heard_goes old w which None there g = g
  heard_goes old w which (Some h) there g =
      cond_both (is_same_port h.at w.seat) _ _ (Goes start seat plan old)
      (λ same. elim (packet_comes start seat plan ground old w.scene.handed w.manager g.fair.side g.fair.once which h (Some h.packet.slid) there
      (ap (is_same_port h.at) (sym g.fair.seat_is) ∙ same) (heard_at_seat start seat w h g.fair.seat_is same
      (was_there start w.scene.handed which h g.fair.scene.handed there))) [
        | inl call ↦ beside_goes start seat plan old old w (after_packet w.manager h.packet.bytes (Some h.packet.slid)).manager g call
        | inr ends ↦ subst (λ x. Goes start seat plan old (record w { manager = x })) (sym ends.is)
            (step_goes start seat plan old w g ends.step ends.there (ap is_for_step ends.purpose_is) ends.was_done)
      ])
      (λ _. g)

  pub event_goes : (old : Type 0) (w : Managing) (event : ManagerEvent) → BeginsNoWriting w event ⊎ (old → ⊥) → Goes start seat plan old w → CanBe seat event
      → Goes start seat plan old (after_manager_event w event)
  event_goes old w (Around event) quiet g can_be =
      record {
        fair = fair_around start seat plan ground old w.manager.counter [] w event (λ p there. absurd (contains_none p there)) g.fair can_be.0 can_be.1
            (λ p there. absurd (contains_none p there));
        waits = g.waits;
      }
  event_goes old w Begin quiet g can_be =
      cond_both (is_none (begin_fault w.manager)) _ _ (λ x. Goes start seat plan old (record w { manager = x }))
      (λ e. any_goes old _ (begin_goes old w g (is_none-none _ e))) (λ _. g)
  event_goes old w Write (inl refused) g can_be =
      cond_both (is_none (writing_fault w.manager)) _ _ (λ x. Goes start seat plan old (record w { manager = x }))
      (λ e. absurd (refused (is_none-none _ e))) (λ _. g)
  event_goes old w Write (inr new) g can_be =
      cond_both (is_none (writing_fault w.manager)) _ _ (λ x. Goes start seat plan old (record w { manager = x }))
      (λ e. write_goes old w g new (is_none-none _ e)) (λ _. g)
  event_goes old w Take quiet g can_be =
      let t = takes_first w.manager in
      record {
        fair = subst (λ c. IsFair start seat plan old c [] (taking w (after_take_outgoing w.manager))) (sym t.counter)
            (fair_taken start seat plan old w.manager.counter [] w g.fair);
        waits = elim g.waits [
          | inl none ↦ inl (λ p there. none p (subst (λ ps. Contains ps p) t.pending there))
          | inr h ↦ inr (subst (CanGoOn start seat plan) (sym t.writing) h)
        ];
      }
  event_goes old w (Send which) quiet g can_be =
      sent_goes (slice_get w.out which) (fair_sent start seat plan ground old w.manager.counter [] w which (λ p there. absurd (contains_none p there)) g.fair)
    where
      sent_goes : (o : Option Outgoing) → IsFair start seat plan old w.manager.counter [] (sending w o) → Goes start seat plan old (sending w o)
      sent_goes None fair = g
      sent_goes (Some o) fair = record { fair = fair; waits = g.waits }
  event_goes old w (Hear which) quiet g can_be = heard_goes old w which (slice_get w.scene.handed which) refl g
  event_goes old w (TimeOut transaction) quiet g can_be =
      elim (time_passes start seat plan ground old w.scene.handed w.manager g.fair.side g.fair.once transaction) [
        | inl call ↦ beside_goes start seat plan old old w (after_timeout w.manager transaction).manager g call
        | inr ends ↦ subst (λ x. Goes start seat plan old (record w { manager = x })) (sym ends.is)
            (step_goes start seat plan old w g ends.step ends.there (ap is_for_step ends.purpose_is) ends.was_done)
      ]
  event_goes old w (Raise floor) quiet g can_be =
      beside_goes start seat plan old old w _ g
      (beside_swept start seat plan ground old w.scene.handed old w.manager _ g.fair.once
      (rises start seat old w.manager g.fair.side floor (generation_small floor can_be)))
  event_goes old w (Merge floor sightings) quiet g can_be =
      beside_goes start seat plan old old w _ g
      (beside_swept start seat plan ground old w.scene.handed old w.manager _ g.fair.once
      (facts_merged start seat old w.manager g.fair.side floor sightings (generation_small floor can_be.0) (all_small sightings can_be.1)))
  event_goes old w (Poll lid) quiet g can_be =
      beside_goes start seat plan old old w _ g (polls_beside start seat plan ground old w.scene.handed w.manager g.fair.side g.fair.once lid)
  event_goes old w HandOver quiet g can_be =
      beside_goes start seat plan old old w _ g (hands_over start seat plan ground old w.scene.handed w.manager g.fair.side g.fair.once)
  event_goes old w Yield quiet g can_be =
      beside_goes start seat plan old old w _ g (yields start seat plan ground old w.scene.handed w.manager g.fair.side g.fair.once)
  event_goes old w Rediscover quiet g can_be =
      beside_goes start seat plan old old w _ g (rediscovers start seat plan ground old w.scene.handed w.manager g.fair.side g.fair.once)

  -- once a sweep began in the run, nothing of an old one is left
  pub between_goes : (events : List ManagerEvent) (w : Managing) → Goes start seat plan ⊥ w → All (CanBe seat) events
      → Goes start seat plan ⊥ (after_manager_events events w)
  between_goes [] w g all = g
  between_goes (event ∷ events) w g all =
      between_goes events (after_manager_event w event) (event_goes ⊥ w event (inr (λ none. none)) g (All-head (CanBe seat) event events all))
      (All-tail (CanBe seat) event events all)

  -- a sweep begins by an event
  pub begins_first : (w : Managing) (event : ManagerEvent) → BeginsSweep w event → Goes start seat plan (Unit {0}) w
      → Goes start seat plan ⊥ (after_manager_event w event)
  begins_first w Begin none g =
      subst (λ b. Goes start seat plan ⊥ (record w { manager = cond b (after_begin_sweep w.manager) w.manager })) (sym (none-is_none _ none))
      (begin_goes (Unit {0}) w g none)
  begins_first w event none g = absurd none

  pub before_goes : (events : List ManagerEvent) (w : Managing) → SweepsFirst events w → Goes start seat plan (Unit {0}) w → All (CanBe seat) events
      → Goes start seat plan (Unit {0}) (after_manager_events events w)
  before_goes [] w first g all = g
  before_goes (event ∷ events) w (inl begins) g all =
      any_goes (Unit {0}) _ (between_goes events (after_manager_event w event) (begins_first w event begins g) (All-tail (CanBe seat) event events all))
  before_goes (event ∷ events) w (inr (quiet, first)) g all =
      before_goes events (after_manager_event w event) first
      (event_goes (Unit {0}) w event (inl quiet) g (All-head (CanBe seat) event events all)) (All-tail (CanBe seat) event events all)

  -- what is so of any end and of one event more is so of the events until a writing
  module _ (P : List ManagerEvent → Managing → Type 0) (none : (w : Managing) (old : Type 0) → Goes start seat plan old w → P [] w)
      (some : (event : ManagerEvent) (events : List ManagerEvent) (w : Managing) (old : Type 0) → Goes start seat plan old w → CanBe seat event
      → P events (after_manager_event w event) → P (event ∷ events) w) where
    -- once a sweep began
    pub by_swept : (events : List ManagerEvent) (w : Managing) → Goes start seat plan ⊥ w → All (CanBe seat) events → P events w
    by_swept [] w g all = none w ⊥ g
    by_swept (event ∷ events) w g all =
        let can = All-head (CanBe seat) event events all in
        some event events w ⊥ g can
        (by_swept events (after_manager_event w event) (event_goes ⊥ w event (inr (λ none. none)) g can) (All-tail (CanBe seat) event events all))

    -- and before one does
    pub by_before : (events : List ManagerEvent) (w : Managing) → SweepsFirst events w → Goes start seat plan (Unit {0}) w → All (CanBe seat) events
        → P events w
    by_before [] w first g all = none w (Unit {0}) g
    by_before (event ∷ events) w first g all =
        let can = All-head (CanBe seat) event events all in
        let later = All-tail (CanBe seat) event events all in
        some event events w (Unit {0}) g can (elim first [
          | inl begins ↦ by_swept events (after_manager_event w event) (begins_first w event begins g) later
          | inr (quiet, next) ↦ by_before events (after_manager_event w event) next (event_goes (Unit {0}) w event (inl quiet) g can) later
        ])
