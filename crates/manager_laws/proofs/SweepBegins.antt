-- A run in which a sweep begins: what is so at its start, before the sweep, and from then on.
use Rattle.std.proofs.Common.{◌≡◌, inl, cond, List, [], refl, sym, ap, subst}
use Rattle.std.specs.Prelude.{All, Contains, None}
use Rattle.fabric_sim.proofs.TripEnds.{few_ports, along_itself}
use Rattle.fabric_sim.proofs.TripShapes.{IsAlong}
use Rattle.fabric_sim.proofs.TracedCalls.{AreTraced}
use Rattle.subnet_view.proofs.Members.{contains_none}
use Rattle.lft_blocks.specs.Plan.{PlanValue}
use Rattle.sm_manager.specs.Manager.{after_begin_sweep, begin_fault}
use Rattle.manager_laws.specs.Managing.{CanBe, Managing, ManagerEvent, Begin, Starts, after_manager_event, after_manager_events}
use Rattle.manager_laws.specs.Written.{SweepsFirst}
use Rattle.manager_laws.proofs.Answers as scenes
use Rattle.manager_laws.proofs.Before.{none-is_none, begin_goes, before_goes, between_goes}
use Rattle.manager_laws.proofs.Fair.{AreOwnPackets}
use Rattle.manager_laws.proofs.Generations.{generation_small, in_range_small}
use Rattle.manager_laws.proofs.Goes.{Goes}
use Rattle.manager_laws.proofs.Numbered.{none_once}
use Rattle.manager_laws.proofs.Scenes.{Sends, Tells, WereTraced}
use Rattle.manager_laws.proofs.Swept as swept_laws
use Rattle.manager_laws.proofs.WritingSweeps.{Ground, nothing_accepted}

-- at the start -----------------------------------------------------------------------------------------

pub starting : (w : Managing) → Starts w → (plan : PlanValue) → Goes w.scene.fabric w.seat plan (Unit {0}) w
starting w starts plan =
    let start = w.scene.fabric in
    let c = w.manager.counter in
    record {
      fair = record {
        scene = scenes.begun w.scene starts.quiet;
        traced = record {
          flights = subst (AreTraced (Sends start w.seat plan c []) (Tells start w.seat plan c [] start) start) (sym starts.quiet.flights) tt;
          handed = subst (WereTraced start w.seat plan c [] start) (sym starts.quiet.handed) tt;
        };
        seat_is = refl;
        side = record {
          port = starts.port;
          lmc = starts.lmc;
          sweep = inl (tt, nothing_accepted start w.seat w.manager starts.at_rest.sweep);
          knows = in_range_small w.manager.store starts.at_rest.facts (generation_small w.manager.store.floor starts.at_rest.floor);
        };
        once = none_once c w.manager.pending starts.at_rest.pending;
        outgoing = subst (AreOwnPackets start w.seat plan c [] w.scene.handed) (sym starts.at_rest.outgoing) tt;
        out = subst (AreOwnPackets start w.seat plan c [] w.scene.handed) (sym starts.out) tt;
      };
      waits = inl (λ p there is. contains_none p (subst (λ ps. Contains ps p) starts.at_rest.pending there));
    }

-- until a sweep begins, and from then on ------------------------------------------------------------------

module _ (w : Managing) (starts : Starts w) where
  pub along0 : IsAlong w.scene.fabric w.scene.fabric
  along0 = along_itself w.scene.fabric starts.quiet.fabric

  pub ground : Ground w.scene.fabric w.seat
  ground =
      record {
        cables = starts.quiet.fabric.cables;
        counts = few_ports w.scene.fabric along0.agents;
        can = swept_laws.can_be_swept w.scene.fabric starts.quiet.fabric w.seat starts.seat starts.distinct;
        cabled = swept_laws.is_cabled w.scene.fabric starts.quiet.fabric;
      }

  module _ (plan : PlanValue) (before : List ManagerEvent) (sweeps_first : SweepsFirst before w) (before_can : All (CanBe w.seat) before) where
    pub went_before : Goes w.scene.fabric w.seat plan (Unit {0}) (after_manager_events before w)
    went_before = before_goes w.scene.fabric w.seat plan ground before w sweeps_first (starting w starts plan) before_can

    module _ (begins : begin_fault (after_manager_events before w).manager ≡ None) where
      pub sweep_first : after_manager_event (after_manager_events before w) Begin
          ≡ record (after_manager_events before w) { manager = after_begin_sweep (after_manager_events before w).manager }
      sweep_first =
          ap (λ b. record (after_manager_events before w) {
            manager = cond b (after_begin_sweep (after_manager_events before w).manager)
                (after_manager_events before w).manager;
          })
          (none-is_none _ begins)

      pub swept_first : Goes w.scene.fabric w.seat plan ⊥ (after_manager_event (after_manager_events before w) Begin)
      swept_first =
          subst (Goes w.scene.fabric w.seat plan ⊥) (sym sweep_first)
          (begin_goes w.scene.fabric w.seat plan ground (Unit {0}) (after_manager_events before w) went_before begins)

      pub swept_on : (between : List ManagerEvent) → All (CanBe w.seat) between
          → Goes w.scene.fabric w.seat plan ⊥ (after_manager_events between (after_manager_event (after_manager_events before w) Begin))
      swept_on between between_can =
          between_goes w.scene.fabric w.seat plan ground between (after_manager_event (after_manager_events before w) Begin) swept_first between_can
