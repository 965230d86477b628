-- Whatever happens, a sweep that has every answer has found the part of the fabric that is joined to its seat.
use Rattle.std.proofs.Common.{◌≡◌, ◌≤◌, inl, inr, ℕ, Bool, false, List, [], ◌∷◌, refl, sym, ap, ◌∙◌, subst, arith}
use Rattle.std.proofs.lemmas.Option.{slice_get-map}
use Rattle.std.proofs.lemmas.List.Elements.{All-head, All-tail, recursion_from_All}
use Rattle.std.specs.Prelude.{All, option_map, MatchBool}
use Rattle.std.specs.Option.{option_map_or}
use Rattle.std.specs.List.{AllByRecursion}
use Rattle.smp_bytes.specs.NodeType.{is_switch}
use Rattle.fabric_model.specs.Fabric.{Fabric, IsEndPort, IsNodeAt}
use Rattle.fabric_model.specs.FabricWalks.{IsJoinedTo}
use Rattle.lid_assign.specs.Lids.{IsNoRoom}
use Rattle.lft_blocks.specs.Rule.{RuleValue}
use Rattle.lft_blocks.specs.Plan.{plan_of}
use Rattle.lft_blocks.specs.InForce.{HoldsPlan}
use Rattle.reply_facts.specs.declared.report.Report.{Report}
use Rattle.reply_facts.specs.Report.{sightings_of}
use Rattle.fact_store.specs.View.{cells_of}
use Rattle.node_agents.specs.Agent.{Agent, node_of}
use Rattle.fabric_sim.specs.Simulation.{fabric_of, port_count}
use Rattle.fabric_sim.proofs.SeenFabrics.{simulations_are_fabrics}
use Rattle.fabric_sim.proofs.TripEnds.{agent_by_port}
use Rattle.sweep.specs.Sweep.{Sweep, started}
use Rattle.manager_laws.specs.Pings.{EachPingArrives}
use Rattle.manager_laws.specs.Sweeping.{Sweeping, SweepEvent, Begins, CanBe, after_sweep_events}
use Rattle.manager_laws.specs.Truth.{IsTrueSighting}
use Rattle.manager_laws.proofs.PlannedPings.{pings_arrive}
use Rattle.manager_laws.proofs.Answers.{begun, seat_in_port}
use Rattle.manager_laws.proofs.Swept.{accepted_facts_are_true, Goes, few_ports_there, can_sweep, cabled_there, goes_first, all_go_on}
use Rattle.manager_laws.specs.Complete.{AgreeWith, DoneSweepsAreComplete, HasFoundAll, IsWhole, SweptPingsArrive, facts_of}
use Rattle.manager_laws.proofs.Agreeing.{agrees, ways}
use Rattle.manager_laws.proofs.Alike.{agrees_along, end_port_along}
use Rattle.manager_laws.proofs.Closed.{none_pending}
use Rattle.manager_laws.proofs.Covered.{Covered, IsOrigin}
use Rattle.manager_laws.proofs.Lists.{Has, all_append}
use Rattle.manager_laws.proofs.Sweeps.{told_in, all_covered}

-- all that is told is true
pub true_told : (f : Fabric) (reports : List Report) → All (λ report. All (IsTrueSighting f) (sightings_of report)) reports
    → AllByRecursion (IsTrueSighting f) (told_in reports)
true_told f [] all = tt
true_told f (report ∷ reports) all =
    all_append (IsTrueSighting f) (sightings_of report) (told_in reports)
    (recursion_from_All (IsTrueSighting f) (sightings_of report) (All-head (λ x. All (IsTrueSighting f) (sightings_of x)) report reports all))
    (true_told f reports (All-tail (λ x. All (IsTrueSighting f) (sightings_of x)) report reports all))

-- at the beginning there is one request
covers_first : (f : Fabric) (w : Sweeping) (generation first : ℕ) (keeps : Bool) → Covered f w.seat (started w.seat.port generation first keeps) []
covers_first f w generation first keeps =
    record {
      rising = (omega arith, omega arith);
      rooted = (tt, tt);
      vertices = tt;
      joined = tt;
      start = inl (inl refl, refl);
    }

module _ (w : Sweeping) (generation first : ℕ) (begins : Begins w generation first) where
  -- the seat is an end port
  pub seat_end : IsEndPort (fabric_of w.scene.fabric) w.seat
  seat_end =
      let start = w.scene.fabric in
      let port = seat_in_port begins.quiet.fabric.cables (few_ports_there w generation first begins) start
      (begun w.scene begins.quiet).fabric w.seat begins.seat in
      let some = port.some in
      let most = port.most in
      let (a, at) = agent_by_port start w.seat.node (omega (arith, some, most)) in
      let there : IsNodeAt (fabric_of start) w.seat.node (node_of a) = slice_get-map node_of start.agents w.seat.node ∙ ap (option_map node_of) at in
      let adapter : is_switch a.node.kind ≡ false = (can_sweep w generation first begins).adapter (node_of a) there in
      let count : port_count start w.seat.node ≡ a.node.ports = ap (λ o. option_map_or (λ (x : Agent). x.node.ports) o 0) at in (
        node_of a,
        there,
        subst (λ b. MatchBool b (w.seat.port ≡ 0) ((1 ≤ w.seat.port) × (w.seat.port ≤ a.node.ports))) (sym adapter)
            (some, omega (arith, most, count)),
      )

  module _ (events : List SweepEvent) (all : All CanBe events) where
    ends : Goes begins.quiet.fabric.cables (few_ports_there w generation first begins)
        (can_sweep w generation first begins) (cabled_there w generation first begins) (after_sweep_events events w)
    ends =
        all_go_on begins.quiet.fabric.cables (few_ports_there w generation first begins)
        (can_sweep w generation first begins) (cabled_there w generation first begins) events w (goes_first w generation first begins) all

    -- what a sweep with every answer was told covers all that is joined to its seat
    pub covers_all : IsWhole (after_sweep_events events w).sweep
        → Covered (fabric_of w.scene.fabric) w.seat (after_sweep_events events w).sweep (told_in (after_sweep_events events w).reports)
    covers_all whole =
        let f = fabric_of w.scene.fabric in
        let at_first : Covered f w.seat w.sweep (told_in w.reports) =
        subst (λ (s : Sweep). Covered f w.seat s (told_in w.reports)) (sym begins.sweep)
        (subst (λ reports. Covered f w.seat (started w.seat.port generation first begins.keeps) (told_in reports)) (sym begins.reports)
        (covers_first f w generation first begins.keeps)) in
        let few : w.sweep.silent_managers ≤ w.sweep.unanswered =
        subst (λ (s : Sweep). s.silent_managers ≤ s.unanswered) (sym begins.sweep) (omega arith) in
        (all_covered begins.quiet.fabric.cables (few_ports_there w generation first begins) (can_sweep w generation first begins)
        (cabled_there w generation first begins) events w (goes_first w generation first begins) all
        (few, λ answered near. at_first)).1 whole.answered whole.near

    pub reaches_origin : IsWhole (after_sweep_events events w).sweep
        → Has (IsOrigin (fabric_of w.scene.fabric) w.seat) (after_sweep_events events w).sweep.reached
    reaches_origin whole =
        elim (covers_all whole).start [ inl k ↦ absurd (none_pending (after_sweep_events events w).sweep whole.done _ k.0) | inr k ↦ k ]

    finds_all : IsWhole (after_sweep_events events w).sweep → HasFoundAll w (after_sweep_events events w)
    finds_all whole =
        let start = w.scene.fabric in
        let f = fabric_of start in
        let can = can_sweep w generation first begins in
        let (node, there, number) = seat_end in
        let ended = after_sweep_events events w in
        let covered = covers_all whole in
        let none = none_pending ended.sweep whole.done in
        let is_fabric = simulations_are_fabrics start begins.quiet.fabric in
        let origin = reaches_origin whole in
        let told = true_told f ended.reports (accepted_facts_are_true w generation first events begins all) in
        let found : AgreeWith ended.reports start w.seat =
        agrees can is_fabric node there ended.sweep (told_in ended.reports) covered none origin told in
        record {
          at_first = found;
          at_last = agrees_along start ended.scene.fabric ends.scene.fabric.along w.seat (cells_of (facts_of ended.reports)) found;
          ways = ways can is_fabric node there ended.sweep (told_in ended.reports) covered none origin told;
        }

    pings : (rule : RuleValue) (lmc : ℕ) (whole : IsWhole (after_sweep_events events w).sweep)
        → ¬ (IsNoRoom lmc (cells_of (facts_of (after_sweep_events events w).reports)))
        → HoldsPlan (IsJoinedTo (fabric_of (after_sweep_events events w).scene.fabric) w.seat)
        (plan_of rule lmc (cells_of (facts_of (after_sweep_events events w).reports)))
        (fabric_of (after_sweep_events events w).scene.fabric)
        → EachPingArrives rule (cells_of (facts_of (after_sweep_events events w).reports))
        (plan_of rule lmc (cells_of (facts_of (after_sweep_events events w).reports)))
        (after_sweep_events events w).scene.fabric w.seat
    pings rule lmc whole room holds =
        let ended = after_sweep_events events w in
        pings_arrive rule lmc (facts_of ended.reports) ended.scene.fabric w.seat room ends.scene.fabric.is
        (end_port_along w.scene.fabric ended.scene.fabric ends.scene.fabric.along w.seat seat_end) (finds_all whole).at_last holds

pub done_sweeps_are_complete : DoneSweepsAreComplete
done_sweeps_are_complete w generation first events begins all whole = finds_all w generation first begins events all whole

pub swept_pings_arrive : SweptPingsArrive
swept_pings_arrive rule lmc w generation first events begins all whole room holds = pings w generation first begins events all rule lmc whole room holds
