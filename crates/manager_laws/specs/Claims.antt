-- What a sweep learns about LIDs while no LID changes: the LIDs that ports have, and so the plan that is held.
use Rattle.std.specs.Prelude.{◌≡◌, ℕ, List, All}
use Rattle.fabric_model.specs.declared.cable.NodePort.{NodePort}
use Rattle.fabric_model.specs.Fabric as fabric
use Rattle.fabric_model.specs.Fabric.{Fabric}
use Rattle.fabric_model.specs.FabricWalks.{IsJoinedTo}
use Rattle.fact_join.specs.declared.cell.Cell.{Cell}
use Rattle.fact_join.specs.declared.cell.Cell.TheVariants.{Known, Disputed}
use Rattle.reply_facts.specs.declared.key.Key.{Key}
use Rattle.reply_facts.specs.declared.key.Key.TheVariants.{Claim}
use Rattle.reply_facts.specs.declared.value.Value.{Value}
use Rattle.reply_facts.specs.declared.value.Value.TheVariants.{Lid}
use Rattle.reply_facts.specs.Report.{sightings_of}
use Rattle.fact_store.specs.View.{Facts, cells_of}
use Rattle.fabric_sim.specs.Simulation.{fabric_of}
use Rattle.subnet_view.specs.FabricAgreement.{AgreesOn}
use Rattle.lid_assign.specs.Lids.{IsNoRoom}
use Rattle.lft_blocks.specs.Rule.{RuleValue}
use Rattle.lft_blocks.specs.Plan.{plan_of}
use Rattle.lft_blocks.specs.InForce.{HoldsPlan}
use Rattle.manager_laws.specs.Scene.{Scene}
use Rattle.manager_laws.specs.Sweeping.{AlwaysSo, Sweeping, SweepEvent, CanBe, Begins, after_sweep_events}
use Rattle.manager_laws.specs.Truth.{HasNode}
use Rattle.manager_laws.specs.Complete.{IsWhole, facts_of}
use Rattle.manager_laws.specs.OnePlan.{ClaimsAreTrue}

-- each port of the scene has the LID that the port has in the fabric `f`
abbrev pub HasLidsOf : Fabric → Scene → Type 0
HasLidsOf f s = (p : NodePort) → (fabric_of s.fabric).base_lid p ≡ f.base_lid p

-- after each event of a run, each port has the LID that it has in the fabric `f`
abbrev pub LidsStay : Fabric → List SweepEvent → Sweeping → Type 0
LidsStay f events w = AlwaysSo (HasLidsOf f) events w

-- the value is the LID that the port has in the fabric, if the key is about the LID that a port claims
abbrev pub IsTrueClaimOf : Fabric → Key → Value → Type 0
IsTrueClaimOf f (Claim guid port) (Lid lid) =
    (id : ℕ) × (node : fabric.Node) × HasNode f guid id node × (f.base_lid (record { node = id; port = port }) ≡ lid)
IsTrueClaimOf f _ _ = Unit {0}

-- the sighting claims no LID for a port, or it claims the LID that the port has in the fabric; a disputed sighting
-- claims none
abbrev pub IsTrueClaim : Fabric → Key × Cell Value → Type 0
IsTrueClaim f (key, Known generation value) = IsTrueClaimOf f key value
IsTrueClaim f (key, Disputed generation) = Unit {0}

-- while no LID changes, each LID that an accepted report claims for a port is the LID that the port has, whatever else
-- happens
abbrev pub AcceptedClaimsAreTrue : Type 0
AcceptedClaimsAreTrue =
    (w : Sweeping) (generation first : ℕ) (events : List SweepEvent) → Begins w generation first → All CanBe events
    → LidsStay (fabric_of w.scene.fabric) events w
    → All (λ report. All (IsTrueClaim (fabric_of w.scene.fabric)) (sightings_of report))
    (after_sweep_events events w).reports

-- a sweep that has every answer while no LID changes finds, for each end port that is joined to the sweep's seat, the
-- LID that the end port has
abbrev pub SweptClaimsAreTrue : Type 0
SweptClaimsAreTrue =
    (w : Sweeping) (generation first : ℕ) (events : List SweepEvent) → Begins w generation first → All CanBe events
    → LidsStay (fabric_of w.scene.fabric) events w → IsWhole (after_sweep_events events w).sweep
    → ClaimsAreTrue (IsJoinedTo (fabric_of w.scene.fabric) w.seat)
    (cells_of (facts_of (after_sweep_events events w).reports)) (fabric_of w.scene.fabric)

-- suppose `held` has room and describes exactly the part that is joined to a sweep's seat, and the part holds the
-- plan of `held`. If no LID changes during the sweep, and the sweep has every answer, the facts of the sweep have
-- room and the plan of `held`, by the same rule and LMC. So a takeover writes the same LIDs, and each block as it is
abbrev pub TakeoversChangeNothing : Type 0
TakeoversChangeNothing =
    (rule : RuleValue) (lmc : ℕ) (held : Facts) (w : Sweeping) (generation first : ℕ) (events : List SweepEvent)
    → Begins w generation first → All CanBe events
    → let f = fabric_of w.scene.fabric in
    let found = cells_of (facts_of (after_sweep_events events w).reports) in
    ¬ (IsNoRoom lmc (cells_of held)) → AgreesOn (IsJoinedTo f w.seat) (cells_of held) f
    → HoldsPlan (IsJoinedTo f w.seat) (plan_of rule lmc (cells_of held)) f
    → LidsStay f events w → IsWhole (after_sweep_events events w).sweep
    → ¬ (IsNoRoom lmc found) × (plan_of rule lmc found ≡ plan_of rule lmc (cells_of held))
