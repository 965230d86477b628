-- A manager that sweeps a subnet which holds a plan, while no LID changes, comes to this plan.
use Rattle.std.proofs.Common.{◌≡◌, true, List, refl, sym, ap, ◌∙◌, subst}
use Rattle.std.proofs.lemmas.Option.{same_Some}
use Rattle.fabric_model.specs.Fabric as fabrics
use Rattle.fabric_model.specs.Fabric.{Fabric}
use Rattle.fabric_model.specs.FabricWalks.{IsJoinedTo}
use Rattle.fabric_sim.specs.Simulation.{fabric_of}
use Rattle.fact_store.specs.View.{cells_of}
use Rattle.subnet_view.specs.FabricAgreement.{AgreesOn}
use Rattle.lft_blocks.specs.Plan.{plan_of}
use Rattle.lft_blocks.specs.InForce.{HoldsPlan}
use Rattle.lid_assign.specs.Lids.{IsNoRoom}
use Rattle.sm_manager.specs.Writing.{is_written}
use Rattle.manager_laws.specs.Pings.{EachPingArrives}
use Rattle.manager_laws.specs.Sweeping.{Sweeping, Begins, after_sweep_events}
use Rattle.manager_laws.proofs.PlannedPings.{pings_arrive}
use Rattle.manager_laws.specs.Complete.{IsWhole, facts_of}
use Rattle.manager_laws.proofs.Done.{done_sweeps_are_complete, seat_end}
use Rattle.manager_laws.specs.Managing.{Managing, ManagerEvent}
use Rattle.manager_laws.specs.WritingPings.{PlannedPingsArrive}
use Rattle.manager_laws.specs.Written.{at_end, at_writing, plan_at}
use Rattle.manager_laws.proofs.Follows.{holds_all}
use Rattle.fact_store.specs.View.{Facts}
use Rattle.manager_laws.proofs.Arrive.{arrives}
use Rattle.manager_laws.proofs.OneSweep.{FollowsOne, first_begins, first_of, one_sweep}
use Rattle.manager_laws.specs.OnePlan.{ClaimsAreTrue}
use Rattle.manager_laws.specs.Claims.{HasLidsOf}
use Rattle.manager_laws.specs.Takeover.{SweepsAlone, TakeoverChangesNothing, planning_at, plan_by_it}
use Rattle.manager_laws.proofs.takeover.Claimed.{swept_claims_are_true, takeovers_change_nothing}

module _ (w : Managing) (before between after : List ManagerEvent) (s : SweepsAlone w before between after) where
  abbrev f : Fabric
  f = fabric_of w.scene.fabric

  -- the sweep that is followed
  one : FollowsOne (HasLidsOf (fabric_of w.scene.fabric)) w.scene w.seat (at_writing w before between)
  one =
      one_sweep w before between after s.planned.writes.run s.planned.writes.knew_nothing s.planned.writes.alone
      (HasLidsOf (fabric_of w.scene.fabric)) (λ p. refl) s.lids_before s.lids_between

  abbrev first : Sweeping
  first = first_of w.scene w.seat one.at one.keeps

  begins : Begins first one.at 1
  begins = first_begins w s.planned.writes.run.starts one.at one.few one.keeps

  abbrev there : Sweeping
  there = after_sweep_events one.events first

  whole : IsWhole there.sweep
  whole = subst IsWhole (same_Some _ _ (sym s.planned.is_last ∙ one.follows.sweep)) s.planned.whole

  -- what the manager knows is what the sweep was told
  found : cells_of (at_writing w before between).manager.store ≡ cells_of (facts_of there.reports)
  found = holds_all (at_writing w before between) there one.follows

  pub same : (facts : Facts) → ¬ (IsNoRoom (planning_at w before between).lmc (cells_of facts))
      → AgreesOn (IsJoinedTo (fabric_of w.scene.fabric) w.seat) (cells_of facts) (fabric_of w.scene.fabric)
      → HoldsPlan (IsJoinedTo (fabric_of w.scene.fabric) w.seat) (plan_by_it (planning_at w before between) facts) (fabric_of w.scene.fabric)
      → plan_at (at_writing w before between) ≡ plan_by_it (planning_at w before between) facts
  same facts has_room agrees holds =
      let planning = planning_at w before between in
      ap (plan_of planning.rule planning.lmc) found
      ∙ (takeovers_change_nothing planning.rule planning.lmc facts first one.at 1 one.events begins one.can_be has_room agrees holds one.stays whole).1

  -- what it was told agrees with what is joined to its seat, and each claim is true
  pub found_agrees : AgreesOn (IsJoinedTo (fabric_of w.scene.fabric) w.seat) (cells_of (at_writing w before between).manager.store) (fabric_of w.scene.fabric)
  found_agrees =
      subst (λ cells. AgreesOn (IsJoinedTo f w.seat) cells f) (sym found)
      (done_sweeps_are_complete first one.at 1 one.events begins one.can_be whole).at_first

  pub found_claims : ClaimsAreTrue (IsJoinedTo (fabric_of w.scene.fabric) w.seat) (cells_of (at_writing w before between).manager.store)
      (fabric_of w.scene.fabric)
  found_claims =
      subst (λ cells. ClaimsAreTrue (IsJoinedTo f w.seat) cells f) (sym found)
      (swept_claims_are_true first one.at 1 one.events begins one.can_be one.stays whole)

  pub seat_is_end : fabrics.IsEndPort (fabric_of w.scene.fabric) w.seat
  seat_is_end = seat_end first one.at 1 begins

  -- pings arrive once it has written
  pub arrives_once_written : is_written (at_end w before between after).manager ≡ true
      → PlannedPingsArrive (at_writing w before between) (at_end w before between after).scene.fabric w.seat
  arrives_once_written = arrives w before between after s.planned

pub takeover_changes_nothing : TakeoverChangesNothing
takeover_changes_nothing facts w before between after t =
    let planning = planning_at w before between in
    let plan_is = same w before between after t.sweeps facts t.has_room t.agrees t.holds in
    record {
      same_plan = plan_is;
      arrived = pings_arrive planning.rule planning.lmc facts w.scene.fabric w.seat t.has_room t.sweeps.planned.writes.run.starts.quiet.fabric
          (seat_is_end w before between after t.sweeps) t.agrees t.holds;
      arrives = λ written. subst
          (λ p. EachPingArrives planning.rule (cells_of (at_writing w before between).manager.store) p (at_end w before between after).scene.fabric w.seat)
          plan_is
          (arrives_once_written w before between after t.sweeps written);
    }
