-- Once the plan of a sweep that has every answer is written, pings arrive.
use Rattle.std.proofs.Common.{◌≡◌, ℕ, true, List, [], ◌∷◌, ◌++◌, sym, ap, ◌∙◌, subst}
use Rattle.std.proofs.lemmas.List.Elements.{All-head, All-tail}
use Rattle.std.proofs.lemmas.Option.{same_Some}
use Rattle.std.specs.Prelude.{Some, All, is_some}
use Rattle.fabric_model.specs.Fabric as fabrics
use Rattle.fabric_model.specs.FabricWalks.{IsJoinedTo}
use Rattle.fabric_sim.specs.Simulation.{fabric_of}
use Rattle.fabric_sim.proofs.SeenFabrics.{simulations_are_fabrics}
use Rattle.fact_store.specs.View.{cells_of}
use Rattle.subnet_view.specs.FabricAgreement.{AgreesOn}
use Rattle.subnet_view.specs.EndPort.{IsEndPort}
use Rattle.lid_assign.specs.Lids.{IsNoRoom}
use Rattle.lft_blocks.specs.InForce.{HoldsPlan}
use Rattle.sweep.specs.Sweep.{Sweep, path_to, IsReached}
use Rattle.sm_manager.specs.Writing.{is_written}
use Rattle.manager_laws.specs.Scene.{Scene}
use Rattle.manager_laws.specs.Sweeping.{Sweeping, SweepEvent, Begins, after_sweep_events}
use Rattle.manager_laws.proofs.PlannedPings.{pings_arrive}
use Rattle.manager_laws.specs.Complete.{HasFoundAll, IsWhole}
use Rattle.manager_laws.proofs.Alike.{end_port_along}
use Rattle.manager_laws.proofs.Done.{done_sweeps_are_complete, seat_end}
use Rattle.manager_laws.specs.Managing.{Managing, ManagerEvent, Begin, CanBe, after_manager_event, after_manager_events}
use Rattle.manager_laws.specs.WritingPings.{PingsArriveOnceWritten, PlannedPingsArrive, WritesWholeSweep}
use Rattle.manager_laws.specs.Written.{AllKeep, IsWritingRun, at_end, at_first_steps, at_writing, own_sets, plan_at}
use Rattle.manager_laws.proofs.After.{Writes, event_writes}
use Rattle.manager_laws.proofs.Followed.{SeenBySweeps, on_scene, runs_append, can_append, nothing_seen, event_seen, seen_further}
use Rattle.manager_laws.proofs.Follows.{holds_all}
use Rattle.manager_laws.proofs.Held as held
use Rattle.manager_laws.proofs.OneSweep.{FollowsOne, StaysSo, first_begins, first_of, one_sweep}
use Rattle.manager_laws.proofs.Planned.{holds_plan}

-- anything may become of the scene
abbrev pub anything : Scene → Type 0
anything scene = Unit {0}

pub anything_stays : (events : List ManagerEvent) (w : Managing) → StaysSo anything events w
anything_stays [] w = tt
anything_stays (event ∷ events) w = (tt, anything_stays events (after_manager_event w event))

module _ (w : Managing) (before between after : List ManagerEvent) (planned : WritesWholeSweep w before between after) where
  abbrev run : IsWritingRun w before between after
  run = planned.writes.run

  abbrev sweep : Sweep
  sweep = planned.sweep

  abbrev sweep_is : (at_writing w before between).manager.sweep ≡ Some sweep
  sweep_is = planned.is_last

  -- the sweep that is followed to the writing
  one : FollowsOne anything w.scene w.seat (at_writing w before between)
  one =
      one_sweep w before between after run planned.writes.knew_nothing planned.writes.alone anything tt (anything_stays before w)
      (anything_stays between (after_manager_event (after_manager_events before w) Begin))

  abbrev first : Sweeping
  first = first_of w.scene w.seat one.at one.keeps

  begins : Begins first one.at 1
  begins = first_begins w run.starts one.at one.few one.keeps

  abbrev there : Sweeping
  there = after_sweep_events one.events first

  same_sweep : there.sweep ≡ sweep
  same_sweep = same_Some _ _ (sym one.follows.sweep ∙ sweep_is)

  -- from the writing on -----------------------------------------------------------------------------------------

  abbrev Runs : Managing → Type 0
  Runs x =
      Writes w.scene.fabric w.seat (plan_at (at_writing w before between)) (at_writing w before between).manager.counter
      (held.phases w before between after run sweep sweep_is) x

  after_seen : (events : List ManagerEvent) (x : Managing)
      → AllKeep (plan_at (at_writing w before between)) (own_sets w (at_writing w before between)) events x → Runs x → All (CanBe w.seat) events
      → SeenBySweeps anything x.scene (after_manager_events events x).scene
  after_seen [] x keep g all = nothing_seen anything x.scene
  after_seen (event ∷ events) x keep g all =
      let s = w.scene.fabric in
      let p = plan_at (at_writing w before between) in
      let c = (at_writing w before between).manager.counter in
      let can = All-head (CanBe w.seat) event events all in
      seen_further anything x.scene (after_manager_event x event).scene _
      (event_seen anything s w.seat p ⊥ c g.all x event g.fair can tt)
      (after_seen events (after_manager_event x event) keep.1
      (event_writes s w.seat p c (held.phases w before between after run sweep sweep_is) (held.good w before between after run sweep sweep_is)
      (held.ground w before between after run) (own_sets w (at_writing w before between))
      (held.owns w before between after run sweep sweep_is) x event keep.0 g can)
      (All-tail (CanBe w.seat) event events all))

  later_seen : SeenBySweeps anything (at_writing w before between).scene (at_end w before between after).scene
  later_seen = after_seen after (at_first_steps w before between) run.keep (held.begins w before between after run sweep sweep_is) run.after_can

  -- all that happened, to the sweep
  abbrev events : List SweepEvent
  events = one.events ++ later_seen.events

  events_are : after_sweep_events events first ≡ on_scene there (at_end w before between after).scene
  events_are = runs_append one.events later_seen.events first ∙ later_seen.is there one.follows.scene

  -- the sweep has found all that is joined to the seat
  found_all : HasFoundAll first (on_scene there (at_end w before between after).scene)
  found_all =
      subst (HasFoundAll first) events_are
      (done_sweeps_are_complete first one.at 1 events begins (can_append one.events later_seen.events one.can_be later_seen.can_be)
      (subst IsWhole (sym (ap (λ (x : Sweeping). x.sweep) events_are ∙ same_sweep)) planned.whole))

  -- so what the manager knows agrees with the fabric as it is at the end
  pub known_agrees : AgreesOn (IsJoinedTo (fabric_of (at_end w before between after).scene.fabric) w.seat)
      (cells_of (at_writing w before between).manager.store)
      (fabric_of (at_end w before between after).scene.fabric)
  known_agrees =
      subst (λ cells. AgreesOn (IsJoinedTo (fabric_of (at_end w before between after).scene.fabric) w.seat) cells
      (fabric_of (at_end w before between after).scene.fabric))
      (sym (holds_all (at_writing w before between) there one.follows)) found_all.at_last

  -- and the sweep came to each end port of it
  pub reached_known : (g p : ℕ) → IsEndPort (cells_of (at_writing w before between).manager.store) g p → IsReached sweep g p
  reached_known g p is =
      let way = found_all.ways g p (subst (λ cells. IsEndPort cells g p) (holds_all (at_writing w before between) there one.follows) is) in
      ap (λ (x : Sweep). is_some (path_to x g p)) (sym same_sweep) ∙ ap is_some way.told

  -- the law -------------------------------------------------------------------------------------------------------

  -- the seat is an end port
  pub seat_is_end : fabrics.IsEndPort (fabric_of (at_end w before between after).scene.fabric) w.seat
  seat_is_end =
      end_port_along w.scene.fabric (at_end w before between after).scene.fabric (held.at_end_along w before between after run sweep sweep_is) w.seat
      (seat_end first one.at 1 begins)

  -- and what is joined to it holds the plan
  pub holds_it : is_written (at_end w before between after).manager ≡ true
      → HoldsPlan (IsJoinedTo (fabric_of (at_end w before between after).scene.fabric) w.seat) (plan_at (at_writing w before between))
      (fabric_of (at_end w before between after).scene.fabric)
  holds_it written =
      let f = (at_end w before between after).scene.fabric in
      let planning = (at_writing w before between).manager.planning in
      holds_plan planning.rule planning.lmc (at_writing w before between).manager.store (held.may w before between after run sweep sweep_is).has_room
      (IsJoinedTo (fabric_of f) w.seat) (fabric_of f) sweep known_agrees (held.is_held w before between after run sweep sweep_is written)
      reached_known

  pub arrives : is_written (at_end w before between after).manager ≡ true
      → PlannedPingsArrive (at_writing w before between) (at_end w before between after).scene.fabric w.seat
  arrives written =
      let f = (at_end w before between after).scene.fabric in
      let facts = (at_writing w before between).manager.store in
      let rule = (at_writing w before between).manager.planning.rule in
      let lmc = (at_writing w before between).manager.planning.lmc in
      let may = held.may w before between after run sweep sweep_is in
      pings_arrive rule lmc facts f w.seat may.has_room (held.at_end_is w before between after run sweep sweep_is) seat_is_end known_agrees
      (holds_it written)

-- what is so in the end of the part that is joined to the seat
pub record IsServed (w : Managing) (before between after : List ManagerEvent) : Type 0 where
  pub is_fabric : fabrics.IsFabric (fabric_of (at_end w before between after).scene.fabric)
  pub origin : fabrics.IsEndPort (fabric_of (at_end w before between after).scene.fabric) w.seat
  pub agrees : AgreesOn (IsJoinedTo (fabric_of (at_end w before between after).scene.fabric) w.seat)
      (cells_of (at_writing w before between).manager.store) (fabric_of (at_end w before between after).scene.fabric)
  pub holds : HoldsPlan (IsJoinedTo (fabric_of (at_end w before between after).scene.fabric) w.seat) (plan_at (at_writing w before between))
      (fabric_of (at_end w before between after).scene.fabric)
  pub has_room : ¬ (IsNoRoom (at_writing w before between).manager.planning.lmc (cells_of (at_writing w before between).manager.store))

pub is_served : (w : Managing) (before between after : List ManagerEvent) → WritesWholeSweep w before between after
    → is_written (at_end w before between after).manager ≡ true → IsServed w before between after
is_served w before between after planned written =
    record {
      is_fabric = simulations_are_fabrics _ (held.at_end_is w before between after planned.writes.run planned.sweep planned.is_last);
      origin = seat_is_end w before between after planned;
      agrees = known_agrees w before between after planned;
      holds = holds_it w before between after planned written;
      has_room = (held.may w before between after planned.writes.run planned.sweep planned.is_last).has_room;
    }

pub pings_arrive_once_written : PingsArriveOnceWritten
pings_arrive_once_written w before between after b = arrives w before between after b.planned b.written
