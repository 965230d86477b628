-- A manager all of whose writings are of one plan, while other senders set nothing but SMInfo: each Set that an agent takes carries the plan's values.
use Rattle.std.proofs.Common.{◌≡◌, inl, inr, List, [], ◌∷◌, refl, sym, subst}
use Rattle.std.specs.List.{AllByRecursion}
use Rattle.std.specs.Prelude.{Contains, None}
use Rattle.fabric_model.specs.declared.cable.NodePort.{NodePort}
use Rattle.fabric_sim.specs.Simulation.{Simulation}
use Rattle.lft_blocks.specs.Plan.{PlanValue}
use Rattle.sm_manager.specs.PlanFaults.{writing_fault}
use Rattle.subnet_view.proofs.Members.{contains_none}
use Rattle.manager_laws.specs.Scene.{Event, Deliver, Send as SendFrom}
use Rattle.manager_laws.specs.Managing.{AllAlong, CanBe, Managing, ManagerEvent, Around, Begin, Starts, Write, after_manager_event, after_manager_events}
use Rattle.manager_laws.specs.Masters.{IsItsOwn, SetsInfoOnly}
use Rattle.manager_laws.specs.Sets.{KeepsPlan, OwnSets}
use Rattle.manager_laws.specs.Written.{BeginsNoWriting, BeginsSweep, SweepsFirst, plan_at}
use Rattle.manager_laws.proofs.Before.{begins_first, event_goes}
use Rattle.manager_laws.proofs.Fair.{AreOwnPackets}
use Rattle.manager_laws.proofs.Goes.{Goes}
use Rattle.manager_laws.proofs.SweepBegins.{starting}
use Rattle.manager_laws.proofs.SweepBegins as sweeps
use Rattle.manager_laws.proofs.WritingSweeps.{Ground}
use Rattle.manager_laws.proofs.masters.Acting.{Plans, WritesCarried, event_plans}
use Rattle.manager_laws.proofs.masters.Deliveries.{taken_carries}
use Rattle.manager_laws.proofs.masters.Side.{own_scene, sending_so, writing_carried}
use Rattle.manager_laws.proofs.masters.Traces.{SendsSo, Traces, first_traces, others_so, traces_on}

-- if the event happens around the manager, others set nothing but SMInfo
abbrev pub OthersSetInfo : ManagerEvent → Type 0
OthersSetInfo (Around event) = SetsInfoOnly event
OthersSetInfo event = Unit {0}

-- a writing that begins is of the plan
abbrev pub WritesOnly : PlanValue → Managing → ManagerEvent → Type 0
WritesOnly plan w Write = writing_fault w.manager ≡ None → plan_at w ≡ plan
WritesOnly plan w event = Unit {0}

-- at the start
pub first_plans : (w : Managing) → Starts w → (plan : PlanValue) → Plans w.scene.fabric w.seat plan w
first_plans w starts plan =
    record {
      all = [];
      outgoing = subst (AreOwnPackets w.scene.fabric w.seat plan 0 [] w.scene.handed) (sym starts.at_rest.outgoing) tt;
      out = subst (AreOwnPackets w.scene.fabric w.seat plan 0 [] w.scene.handed) (sym starts.out) tt;
      known = λ x at. absurd (contains_none x at);
      waits = inl (λ p at is. contains_none p (subst (λ ps. Contains ps p) starts.at_rest.pending at));
    }

module _ (w : Managing) (starts : Starts w) (plan : PlanValue) where
  abbrev IsSeat : NodePort → Type 0
  IsSeat seat = seat ≡ w.seat

  abbrev start : Simulation
  start = w.scene.fabric

  ground : Ground w.scene.fabric w.seat
  ground = sweeps.ground w starts

  pub record Carrying (u : Managing) : Type 0 where
    pub traces : Traces w.scene plan IsSeat u.scene
    pub plans : Plans start w.seat plan u

  own_traces : (old : Type 0) (u : Managing) (event : ManagerEvent) → IsItsOwn event → Goes start w.seat plan old u → Carrying u
      → Traces w.scene plan IsSeat (after_manager_event u event).scene
  own_traces old u event its g c =
      elim (own_scene start w.seat plan 0 c.plans.all (SendsSo w.scene plan IsSeat w.seat)
      (sending_so w.scene plan IsSeat w.seat refl c.plans.all c.plans.known) u g.fair.seat_is c.plans.out event its) [
        | inl same ↦ subst (Traces w.scene plan IsSeat) (sym same) c.traces
        | inr x ↦ subst (Traces w.scene plan IsSeat) x.is
            (traces_on w.scene plan IsSeat ground.cables ground.counts u.scene (SendFrom w.seat x.sending) c.traces x.can x.so)
      ]

  next_traces : (old : Type 0) (u : Managing) (event : ManagerEvent) → Goes start w.seat plan old u → CanBe w.seat event → OthersSetInfo event → Carrying u
      → Traces w.scene plan IsSeat (after_manager_event u event).scene
  next_traces old u (Around event) g can info c =
      traces_on w.scene plan IsSeat ground.cables ground.counts u.scene event c.traces can.0 (others_so w.scene plan IsSeat event can.0 info)
  next_traces old u event g can info c = own_traces old u event tt g c

  event_carries : (old : Type 0) (u : Managing) (event : ManagerEvent) → Goes start w.seat plan old u → CanBe w.seat event → OthersSetInfo event
      → WritesCarried start w.seat plan u event → Carrying u → Carrying (after_manager_event u event)
  event_carries old u event g can info writes c =
      record {
        traces = next_traces old u event g can info c;
        plans = event_plans start w.seat plan ground old u event writes g can c.plans;
      }

  only_carried : (u : Managing) (event : ManagerEvent) → Goes start w.seat plan ⊥ u → WritesOnly plan u event → WritesCarried start w.seat plan u event
  only_carried u Write g only = λ none. writing_carried start w.seat plan u g none (only none)
  only_carried u event g only = tt

  none_carried : (u : Managing) (event : ManagerEvent) → BeginsNoWriting u event → WritesCarried start w.seat plan u event
  none_carried u Write quiet = λ none. absurd (quiet none)
  none_carried u event quiet = tt

  sweep_carried : (u : Managing) (event : ManagerEvent) → BeginsSweep u event → WritesCarried start w.seat plan u event
  sweep_carried u Begin begins = tt
  sweep_carried u event begins = absurd begins

  -- once a sweep began in the run
  swept_carry : (events : List ManagerEvent) (u : Managing) → Goes start w.seat plan ⊥ u → Carrying u → AllByRecursion (CanBe w.seat) events
      → AllByRecursion OthersSetInfo events → AllAlong (WritesOnly plan) events u → Carrying (after_manager_events events u)
  swept_carry [] u g c can info only = c
  swept_carry (event ∷ events) u g c can info only =
      swept_carry events (after_manager_event u event) (event_goes start w.seat plan ground ⊥ u event (inr (λ none. none)) g can.0)
      (event_carries ⊥ u event g can.0 info.0 (only_carried u event g only.0) c) can.1 info.1 only.1

  -- and before
  before_carry : (events : List ManagerEvent) (u : Managing) → SweepsFirst events u → Goes start w.seat plan (Unit {0}) u → Carrying u
      → AllByRecursion (CanBe w.seat) events → AllByRecursion OthersSetInfo events → AllAlong (WritesOnly plan) events u
      → Carrying (after_manager_events events u)
  before_carry [] u first g c can info only = c
  before_carry (event ∷ events) u (inl begins) g c can info only =
      swept_carry events (after_manager_event u event) (begins_first start w.seat plan ground u event begins g)
      (event_carries (Unit {0}) u event g can.0 info.0 (sweep_carried u event begins) c) can.1 info.1 only.1
  before_carry (event ∷ events) u (inr (quiet, first)) g c can info only =
      before_carry events (after_manager_event u event) first (event_goes start w.seat plan ground (Unit {0}) u event (inl quiet) g can.0)
      (event_carries (Unit {0}) u event g can.0 info.0 (none_carried u event quiet) c) can.1 info.1 only.1

  pub carries_on : (events : List ManagerEvent) → SweepsFirst events w → AllByRecursion (CanBe w.seat) events → AllByRecursion OthersSetInfo events
      → AllAlong (WritesOnly plan) events w → Carrying (after_manager_events events w)
  carries_on events first can info only =
      before_carry events w first (starting w starts plan)
      (record { traces = first_traces w.scene plan IsSeat starts.quiet; plans = first_plans w starts plan }) can info only

  pub carrying_keeps : (own : OwnSets) (u : Managing) → Carrying u → (event : Event) → KeepsPlan plan own u.scene.fabric event
  carrying_keeps own u c (Deliver n) = λ at a packet takes.
      let fabric = c.traces.continues.fabric in
      inr (taken_carries start plan IsSeat ground.cables ground.counts fabric.along fabric.is c.traces.flights c.traces.harmless n at a packet takes)
  carrying_keeps own u c event = tt
