-- A manager's sweep is a sweep: what happens to the manager happens to a sweep that asks, hears and times out as the manager's does.
use Rattle.std.proofs.Common.{◌≡◌, ℕ, List, [], ◌∷◌, ◌++◌, refl, sym, ap, ◌∙◌, subst}
use Rattle.std.proofs.lemmas.Bool.{cond_both}
use Rattle.std.proofs.lemmas.List.{append_assoc, append-nil}
use Rattle.std.proofs.lemmas.List.Elements.{All-nil, All-head, All-tail, All-cons}
use Rattle.std.specs.Prelude.{Option, Some, None, All, slice_get}
use Rattle.fabric_model.specs.declared.cable.NodePort.{NodePort}
use Rattle.fabric_model.specs.Cables.{is_same_port}
use Rattle.fabric_sim.specs.Simulation.{Simulation}
use Rattle.lft_blocks.specs.Plan.{PlanValue}
use Rattle.sweep.specs.declared.request.Request.{Request}
use Rattle.sweep.specs.Sweep.{after_next_request as sent_of_sweep, after_next_request_of}
use Rattle.sm_manager.specs.declared.outgoing.Outgoing.{Outgoing}
use Rattle.sm_manager.specs.Manager.{with_all_sent}
use Rattle.manager_laws.specs.Scene.{Handed, Scene, Event, Send as SendFrom, CanHappen, after_event, sent, sent_from}
use Rattle.manager_laws.specs.Sweeping as sweeping
use Rattle.manager_laws.specs.Sweeping.{AlwaysSo, Sweeping, SweepEvent, asking_more, after_sweep_event, after_sweep_events}
use Rattle.manager_laws.specs.Managing.{Managing, ManagerEvent, Around, Send, Hear}
use Rattle.manager_laws.specs.Managing.{CanBe, hearing, packet_of, sending, after_manager_event}
use Rattle.manager_laws.proofs.Fair.{IsFair, IsOwnPacket, own_there}
use Rattle.manager_laws.proofs.Steps.{StepSent}

-- runs of a sweep one after the other ------------------------------------------------------------------------

pub runs_append : (es fs : List SweepEvent) (u : Sweeping) → after_sweep_events (es ++ fs) u ≡ after_sweep_events fs (after_sweep_events es u)
runs_append [] fs u = refl
runs_append (e ∷ es) fs u = runs_append es fs (after_sweep_event u e)

pub can_append : (es fs : List SweepEvent) → All sweeping.CanBe es → All sweeping.CanBe fs → All sweeping.CanBe (es ++ fs)
can_append [] fs all also = also
can_append (e ∷ es) fs all also =
    All-cons sweeping.CanBe e (es ++ fs) (All-head sweeping.CanBe e es all) (can_append es fs (All-tail sweeping.CanBe e es all) also)

-- the scene of a manager -------------------------------------------------------------------------------------

-- a sweep with another scene
abbrev pub on_scene : Sweeping → Scene → Sweeping
on_scene u scene = record u { scene = scene }

-- what happens to the scene happens around a sweep, and something is so of it all the while
pub record SeenBySweeps (is_so : Scene → Type 0) (before after : Scene) : Type 0 where
  pub events : List SweepEvent
  pub can_be : All sweeping.CanBe events
  pub is : (u : Sweeping) → u.scene ≡ before → after_sweep_events events u ≡ on_scene u after
  pub stays : (u : Sweeping) → u.scene ≡ before → AlwaysSo is_so events u

pub nothing_seen : (is_so : Scene → Type 0) (scene : Scene) → SeenBySweeps is_so scene scene
nothing_seen is_so scene = record { stays = λ u e. tt; events = []; can_be = All-nil sweeping.CanBe; is = λ u e. λ i. on_scene u (e i) }

pub one_seen : (is_so : Scene → Type 0) (scene : Scene) (event : Event) → CanHappen event → is_so (after_event scene event)
    → SeenBySweeps is_so scene (after_event scene event)
one_seen is_so scene event can_happen stays =
    record {
      stays = λ u e. (subst (λ x. is_so (after_event x event)) (sym e) stays, tt);
      events = sweeping.Around event ∷ [];
      can_be = All-cons sweeping.CanBe (sweeping.Around event) [] can_happen (All-nil sweeping.CanBe);
      is = λ u e. ap (λ x. on_scene u (after_event x event)) e;
    }

module _ (is_so : Scene → Type 0) (start : Simulation) (seat : NodePort) (plan : PlanValue) where
  sent_seen : (c : ℕ) (all : List StepSent) (w : Managing) (o : Outgoing) → w.seat ≡ seat → IsOwnPacket start seat plan c all w.scene.handed o
      → is_so (sending w (Some o)).scene → SeenBySweeps is_so w.scene (sending w (Some o)).scene
  sent_seen c all w o seat_is own stays =
      let same : sent w.scene seat own.sending ≡ sent_from w.scene w.seat (packet_of o) =
      own.is w.scene (λ k h e. e) ∙ ap (λ p. sent_from w.scene p (packet_of o)) (sym seat_is) in
      subst (SeenBySweeps is_so w.scene) same (one_seen is_so w.scene (SendFrom seat own.sending) own.can (subst (is_so) (sym same) stays))

  pub event_seen : (old : Type 0) (c : ℕ) (all : List StepSent) (w : Managing) (event : ManagerEvent) → IsFair start seat plan old c all w → CanBe seat event
      → is_so (after_manager_event w event).scene → SeenBySweeps is_so w.scene (after_manager_event w event).scene
  event_seen old c all w (Around event) fair can_be stays = one_seen is_so w.scene event can_be.0 stays
  event_seen old c all w (Send which) fair can_be stays = by_packet (slice_get w.out which) refl stays
    where
      by_packet : (o : Option Outgoing) → slice_get w.out which ≡ o → is_so (sending w o).scene → SeenBySweeps is_so w.scene (sending w o).scene
      by_packet None e l = nothing_seen is_so w.scene
      by_packet (Some o) e l = sent_seen c all w o fair.seat_is (own_there start seat plan c all w.scene.handed w.out which o fair.out e) l
  event_seen old c all w (Hear which) fair can_be stays = by_handed (slice_get w.scene.handed which)
    where
      by_handed : (m : Option Handed) → SeenBySweeps is_so w.scene (hearing w m).scene
      by_handed None = nothing_seen is_so w.scene
      by_handed (Some h) =
          cond_both (is_same_port h.at w.seat) _ _ (λ (x : Managing). SeenBySweeps is_so w.scene x.scene) (λ _. nothing_seen is_so w.scene) (λ _. nothing_seen is_so w.scene)
  event_seen old c all w event fair can_be stays = nothing_seen is_so w.scene

-- all that is queued goes out ---------------------------------------------------------------------------------

-- a sweep that has asked all, its scene and its reports as they were
pub record HasAskedAll (u after : Sweeping) : Type 0 where
  pub scene : after.scene ≡ u.scene
  pub seat : after.seat ≡ u.seat
  pub sweep : after.sweep ≡ with_all_sent u.sweep
  pub reports : after.reports ≡ u.reports

unfoldable pub asks : List Request → List SweepEvent
asks [] = []
asks (r ∷ queue) = sweeping.Ask ∷ asks queue

pub asks_can : (queue : List Request) → All sweeping.CanBe (asks queue)
unfolding asks
asks_can [] = All-nil sweeping.CanBe
asks_can (r ∷ queue) = All-cons sweeping.CanBe sweeping.Ask (asks queue) tt (asks_can queue)

pub asks_all : (queue : List Request) (u : Sweeping) → u.sweep.queued ≡ queue → HasAskedAll u (after_sweep_events (asks queue) u)
unfolding asks
asks_all [] u e =
    record {
      scene = refl;
      seat = refl;
      sweep = λ j. record u.sweep { queued = e j; outstanding = (sym (append-nil u.sweep.outstanding) ∙ ap (λ q. u.sweep.outstanding ++ q) (sym e)) j };
      reports = refl;
    }
asks_all (r ∷ queue) u e =
    let next : after_sweep_event u sweeping.Ask ≡ asking_more u (after_next_request_of u.sweep (r ∷ queue)) =
    ap (λ q. asking_more u (after_next_request_of u.sweep q)) e in
    let later = asks_all queue (asking_more u (after_next_request_of u.sweep (r ∷ queue))) refl in
    subst (λ x. HasAskedAll u (after_sweep_events (asks queue) x)) (sym next)
    (record {
      scene = later.scene;
      seat = later.seat;
      sweep = later.sweep
          ∙ (λ j. record u.sweep {
            queued = [];
            outstanding = (append_assoc u.sweep.outstanding (r ∷ []) queue ∙ ap (λ q. u.sweep.outstanding ++ q) (sym e)) j;
          });
      reports = later.reports;
    })

-- while the scene stays
pub asks_stay : (is_so : Scene → Type 0) (queue : List Request) (u : Sweeping) → is_so u.scene → AlwaysSo is_so (asks queue) u
unfolding asks
asks_stay is_so [] u stays = tt
asks_stay is_so (r ∷ queue) u stays = (stays, asks_stay is_so queue (asking_more u (sent_of_sweep u.sweep)) stays)

-- one run behind another
pub stays_append : (is_so : Scene → Type 0) (es fs : List SweepEvent) (u : Sweeping) → AlwaysSo is_so es u → AlwaysSo is_so fs (after_sweep_events es u) → AlwaysSo is_so (es ++ fs) u
stays_append is_so [] fs u one other = other
stays_append is_so (e ∷ es) fs u one other = (one.0, stays_append is_so es fs (after_sweep_event u e) one.1 other)

-- scenes one after the other
pub seen_further : (is_so : Scene → Type 0) (a b c : Scene) → SeenBySweeps is_so a b → SeenBySweeps is_so b c → SeenBySweeps is_so a c
seen_further is_so a b c one other =
    record {
      events = one.events ++ other.events;
      can_be = can_append one.events other.events one.can_be other.can_be;
      is = λ u e. runs_append one.events other.events u ∙ ap (after_sweep_events other.events) (one.is u e) ∙ other.is (on_scene u b) refl;
      stays = λ u e. stays_append is_so one.events other.events u (one.stays u e)
          (subst (AlwaysSo is_so other.events) (sym (one.is u e)) (other.stays (on_scene u b) refl));
    }
