-- Several masters at once on a subnet that has the LIDs of a plan: what they write, and that the plan stays in force
-- once it is held.
use Rattle.std.specs.Prelude.{◌≡◌, ℕ, true, false, List, [], ◌∷◌, ◌++◌, None, Some}
use Rattle.fabric_model.specs.declared.cable.NodePort.{NodePort}
use Rattle.fabric_model.specs.Fabric as fabric
use Rattle.fabric_model.specs.Fabric.{Fabric, range_at}
use Rattle.fabric_model.specs.FabricWalks.{IsJoinedTo}
use Rattle.fact_store.specs.View.{Facts, cells_of}
use Rattle.fabric_sim.specs.Simulation.{fabric_of}
use Rattle.subnet_view.specs.declared.end_port.EndPort.{EndPort}
use Rattle.subnet_view.specs.EndPort.{IsEndPort}
use Rattle.subnet_view.specs.FabricAgreement.{Part, IsEndPortIn, TellsEndPort, AgreesOn}
use Rattle.lid_assign.specs.Lids.{IsNoRoom, range_of}
use Rattle.lft_blocks.specs.Plan.{PlanValue}
use Rattle.lft_blocks.specs.InForce.{HoldsPlan}
use Rattle.lft_blocks.specs.Planning.{Planning}
use Rattle.sm_manager.specs.Manager.{new_manager}
use Rattle.sm_manager.specs.PlanFaults.{writing_fault}
use Rattle.manager_laws.specs.Managing as one
use Rattle.sm_manager.specs.Writing.{is_written}
use Rattle.manager_laws.specs.Written.{BeginsNoWriting, plan_at}
use Rattle.manager_laws.specs.OnePlan.{ClaimsAreTrue}
use Rattle.manager_laws.specs.Claims.{HasLidsOf}
use Rattle.manager_laws.specs.Takeover.{IsInUse, plan_by_it}
use Rattle.manager_laws.specs.Masters.{Seated, Masters, MastersEvent, AllAlong, Around, At, IsAt, seen_by, after_masters_event, after_masters_events}
use Rattle.manager_laws.specs.Masters.{SetsInfoOnly, WritesWhole, IsWholeSweep, AllCanBe, StartTogether}
use Rattle.sm_state.specs.declared.conduct.Conduct.{Conduct}
use Rattle.sm_state.specs.declared.conduct.Conduct.TheVariants.{Plain}

-- on a subnet that holds LIDs ----------------------------------------------------------------------

-- each end port of `part` has the LID and the LMC that the plan gives it
abbrev pub HoldsLids : Part → PlanValue → Fabric → Type 0
HoldsLids part plan f = (port : NodePort) (node : fabric.Node) → IsEndPortIn part f port node
    → range_of plan.given (record { node = node.guid; port = port.port }) ≡ Some (range_at f port)

-- managers start together, and all plan by `planning`. The facts have room, and describe exactly the part that is
-- joined to each manager's seat. The end ports there have the LIDs and the LMC of the plan of these facts
pub record ShareLids (facts : Facts) (planning : Planning) (t : Masters) : Type 0 where
  pub starts : StartTogether t
  pub has_room : ¬ (IsNoRoom planning.lmc (cells_of facts))
  pub plans : (which : ℕ) (m : Seated) → IsAt t which m → m.manager.planning ≡ planning
  pub agrees : (which : ℕ) (m : Seated) → IsAt t which m
      → AgreesOn (IsJoinedTo (fabric_of t.scene.fabric) m.seat) (cells_of facts) (fabric_of t.scene.fabric)
  pub lids : (which : ℕ) (m : Seated) → IsAt t which m
      → HoldsLids (IsJoinedTo (fabric_of t.scene.fabric) m.seat) (plan_by_it planning facts) (fabric_of t.scene.fabric)

-- managers start together after a cut, and all plan by `planning`. The facts `facts` have room, describe exactly what
-- is joined to each seat, and claim the LIDs that the ports there have. The facts `earlier` have room, and have each
-- end port there; each of these end ports has the LID and the LMC that the plan of `earlier` gives it. The facts
-- `earlier` may have other end ports, which are gone
pub record ShareRest (earlier facts : Facts) (planning : Planning) (t : Masters) : Type 0 where
  pub starts : StartTogether t
  pub had_room : ¬ (IsNoRoom planning.lmc (cells_of earlier))
  pub has_room : ¬ (IsNoRoom planning.lmc (cells_of facts))
  pub plans : (which : ℕ) (m : Seated) → IsAt t which m → m.manager.planning ≡ planning
  pub agrees : (which : ℕ) (m : Seated) → IsAt t which m
      → AgreesOn (IsJoinedTo (fabric_of t.scene.fabric) m.seat) (cells_of facts) (fabric_of t.scene.fabric)
  pub claims : (which : ℕ) (m : Seated) → IsAt t which m
      → ClaimsAreTrue (IsJoinedTo (fabric_of t.scene.fabric) m.seat) (cells_of facts) (fabric_of t.scene.fabric)
  pub tells : (which : ℕ) (m : Seated) → IsAt t which m → (port : NodePort) (node : fabric.Node)
      → IsEndPortIn (IsJoinedTo (fabric_of t.scene.fabric) m.seat) (fabric_of t.scene.fabric) port node
      → TellsEndPort (cells_of earlier) node port.port
  pub lids : (which : ℕ) (m : Seated) → IsAt t which m
      → HoldsLids (IsJoinedTo (fabric_of t.scene.fabric) m.seat) (plan_by_it planning earlier) (fabric_of t.scene.fabric)

-- after a cut, managers that share the rest share the LIDs of the plan of what is left
abbrev pub RestSharesLids : Type 0
RestSharesLids =
    (earlier facts : Facts) (planning : Planning) (t : Masters) → ShareRest earlier facts planning t
    → ShareLids facts planning t

-- an event around the managers sets only SMInfo; an event at a manager begins a writing only if all that the manager
-- knows is from one sweep with every answer
abbrev pub SweepsWhole : Masters → MastersEvent → Type 0
SweepsWhole t (Around event) = SetsInfoOnly event
SweepsWhole t (At which event) = (m : Seated) → IsAt t which m → WritesWhole m event

-- in these events, other senders set only SMInfo, and each manager begins a writing only if all that it knows is from
-- one sweep with every answer
abbrev pub AllSweepWhole : List MastersEvent → Masters → Type 0
AllSweepWhole = AllAlong SweepsWhole

-- if managers share LIDs, other senders set only SMInfo, and each manager writes only what it learned from one sweep
-- with every answer, no port gets another LID
abbrev pub MastersKeepLids : Type 0
MastersKeepLids =
    (facts : Facts) (planning : Planning) (t : Masters) (events : List MastersEvent) → ShareLids facts planning t
    → AllCanBe events t → AllSweepWhole events t
    → HasLidsOf (fabric_of t.scene.fabric) (after_masters_events events t).scene

-- suppose managers share the LIDs of the plan of `facts`, other senders set only SMInfo, and each manager writes only
-- what it learned from one sweep with every answer. Then a manager that knows one sweep, with every answer, has this
-- plan
abbrev pub MastersWriteTheSame : Type 0
MastersWriteTheSame =
    (facts : Facts) (planning : Planning) (t : Masters) (events : List MastersEvent) → ShareLids facts planning t
    → AllCanBe events t → AllSweepWhole events t
    → (which : ℕ) (m : Seated) → IsAt (after_masters_events events t) which m → m.knows_one_sweep ≡ true
    → IsWholeSweep m.manager.sweep
    → plan_at (seen_by (after_masters_events events t).scene m) ≡ plan_by_it planning facts

-- on a subnet that holds a plan -------------------------------------------------------------------

-- the part that is joined to each seat holds the plan of `facts` by `planning`
abbrev pub AllHold : Facts → Planning → Masters → Type 0
AllHold facts planning t = (which : ℕ) (m : Seated) → IsAt t which m
    → HoldsPlan (IsJoinedTo (fabric_of t.scene.fabric) m.seat) (plan_by_it planning facts) (fabric_of t.scene.fabric)

-- the part that is joined to each seat holds the plan of `facts` by `planning`, and each ping there arrives
abbrev pub AllInUse : Facts → Planning → Masters → Type 0
AllInUse facts planning t =
    (which : ℕ) (m : Seated) → IsAt t which m
    → IsInUse planning.rule facts (plan_by_it planning facts) t.scene.fabric m.seat

-- the plan of `facts` is in use at each seat, before and after each of the events
abbrev pub InUseAlong : Facts → Planning → List MastersEvent → Masters → Type 0
InUseAlong facts planning [] t = AllInUse facts planning t
InUseAlong facts planning (event ∷ events) t =
    AllInUse facts planning t × InUseAlong facts planning events (after_masters_event t event)

-- the event begins no writing of the manager at index `which`
abbrev pub WritesNothing : ℕ → Masters → MastersEvent → Type 0
WritesNothing which t (Around event) = Unit {0}
WritesNothing which t (At other event) =
    which ≡ other → (m : Seated) → IsAt t which m → BeginsNoWriting (seen_by t.scene m) event

-- none of the events begins a writing of the manager at index `which`
abbrev pub WriteNothing : ℕ → List MastersEvent → Masters → Type 0
WriteNothing which = AllAlong (WritesNothing which)

-- the manager at index `which` begins a writing after the events `before`, and no other one in the events `after`. In
-- the end its plan counts as written
pub record HasWritten (t : Masters) (before after : List MastersEvent) (which : ℕ) : Type 0 where
  pub writer : Seated
  pub there : IsAt (after_masters_events before t) which writer
  pub begins : writing_fault writer.manager ≡ None
  pub no_other : WriteNothing which after (after_masters_events (before ++ At which one.Write ∷ []) t)
  pub later : Seated
  pub there_later : IsAt (after_masters_events (before ++ At which one.Write ∷ after) t) which later
  pub written : is_written later.manager ≡ true

-- suppose managers share the LIDs of the plan of `facts`, other senders set only SMInfo, and each manager writes only
-- what it learned from one sweep with every answer. Then once one manager has written (`HasWritten`), the part that
-- is joined to each seat holds this plan
abbrev pub WrittenByOneIsHeld : Type 0
WrittenByOneIsHeld =
    (facts : Facts) (planning : Planning) (t : Masters) (before after : List MastersEvent) (which : ℕ)
    → ShareLids facts planning t
    → AllCanBe (before ++ At which one.Write ∷ after) t → AllSweepWhole (before ++ At which one.Write ∷ after) t
    → HasWritten t before after which
    → AllHold facts planning (after_masters_events (before ++ At which one.Write ∷ after) t)

-- suppose managers share the LIDs of the plan of `facts`, other senders set only SMInfo, and each manager writes only
-- what it learned from one sweep with every answer. Then once the part that is joined to each seat holds this plan,
-- the plan stays in use there
abbrev pub MastersChangeNothing : Type 0
MastersChangeNothing =
    (facts : Facts) (planning : Planning) (t : Masters) (before after : List MastersEvent) → ShareLids facts planning t
    → AllCanBe (before ++ after) t → AllSweepWhole (before ++ after) t
    → AllHold facts planning (after_masters_events before t)
    → InUseAlong facts planning after (after_masters_events before t)

-- two new managers that write one subnet at once ---------------------------------------------------

-- a new manager at its seat, with the lowest priority, which has done nothing yet
abbrev pub new_at : Conduct → NodePort → ℕ → Planning → Seated
new_at conduct seat port_guid planning =
    record {
      seat = seat;
      manager = new_manager port_guid seat.port 0 conduct planning;
      out = [];
      has_swept = false;
      knows_one_sweep = false;
    }

-- an example: two new managers of a conduct that write the same subnet at the same time, and what happens to them
pub record MastersWriteAtOnce (conduct : Conduct) : Type 0 where
  pub masters : Masters
  pub held : Facts
  pub planning : Planning
  pub share : ShareLids held planning masters
  pub hold : AllHold held planning masters
  pub seat : NodePort
  pub guid : ℕ
  pub other_seat : NodePort
  pub other_guid : ℕ
  pub are_new : masters.managers ≡ new_at conduct seat guid planning ∷ new_at conduct other_seat other_guid planning ∷ []
  -- the events until the managers are called to write, and those after that
  pub sweeping : List MastersEvent
  pub writing : List MastersEvent
  pub can_be : AllCanBe (sweeping ++ At 0 one.Write ∷ At 1 one.Write ∷ writing) masters
  pub whole : AllSweepWhole (sweeping ++ At 0 one.Write ∷ At 1 one.Write ∷ writing) masters
  -- neither writing is refused, and both plans are written in the end
  pub first : HasWritten masters sweeping (At 1 one.Write ∷ writing) 0
  pub second : HasWritten masters (sweeping ++ At 0 one.Write ∷ []) writing 1

-- under each conduct, there are two new managers that write the same subnet at the same time
abbrev pub SomeMastersWriteAtOnce : Type 0
SomeMastersWriteAtOnce = (conduct : Conduct) → MastersWriteAtOnce conduct

-- two new managers after a cut ---------------------------------------------------------------------

-- an example: what is left of a subnet after a cut, and two new managers there. The earlier facts have an end port that
-- is gone
pub record SomeMastersShareRest : Type 0 where
  pub masters : Masters
  pub earlier : Facts
  pub facts : Facts
  pub planning : Planning
  pub rest : ShareRest earlier facts planning masters
  pub seat : NodePort
  pub guid : ℕ
  pub other_seat : NodePort
  pub other_guid : ℕ
  pub are_new : masters.managers ≡ new_at Plain seat guid planning ∷ new_at Plain other_seat other_guid planning ∷ []
  pub gone : EndPort
  pub was_there : IsEndPort (cells_of earlier) gone.node gone.port
  pub is_gone : ¬ (IsEndPort (cells_of facts) gone.node gone.port)
