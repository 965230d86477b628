-- New managers on the fabrics of the examples: how they start and begin a sweep, and what one writes whose sweep was found to have every answer.
use Rattle.std.proofs.Common.{◌≡◌, ℕ, ◌+◌, ◌-◌, ◌^◌, ◌<◌, true, List, [], refl, sym, ap, ◌∙◌, subst}
use Rattle.std.specs.Prelude.{Some, None, is_none, is_some, max, if◌then◌else◌, ◌==◌}
use Rattle.fact_store.specs.View.{cells_of, no_facts}
use Rattle.fact_store.proofs.Entries.{cells_of_view, entries-view}
use Rattle.reply_facts.specs.Report.{Sightings}
use Rattle.subnet_view.specs.Reading.{Cells}
use Rattle.lft_blocks.specs.Plan.{PlanValue, plan_of}
use Rattle.lft_blocks.specs.Planning.{Planning}
use Rattle.plan_steps.specs.Phase.{Phase}
use Rattle.fabric_sim.specs.Simulation.{Simulation, IsSimulation, fabric_of, is_seat_at}
use Rattle.sweep.specs.Sweep.{started}
use Rattle.sm_state.specs.Conduct.{is_live}
use Rattle.sm_state.specs.Standing.{active_once_more}
use Rattle.sm_state.specs.declared.conduct.Conduct.{Conduct}
use Rattle.sm_manager.specs.Manager.{Manager, after_begin_sweep, begin_fault, new_manager, with_sweep}
use Rattle.sm_manager.specs.PlanFaults.{writing_fault}
use Rattle.sm_manager.specs.Writing.{after_write_steps, begun_with, phases_by}
use Rattle.sm_manager.specs.declared.fault.ManagerFault.TheVariants.{GenerationsSpent}
use Rattle.manager_laws.specs.Complete.{IsWhole}
use Rattle.manager_laws.specs.Managing.{Begin, Managing, ManagerEvent, Starts, Write, after_manager_event}
use Rattle.manager_laws.specs.Sets.{IsOwnSet}
use Rattle.manager_laws.specs.Truth.{AreGuidsDistinct}
use Rattle.manager_laws.specs.Written.{AllKeep, own_sets, plan_at}
use Rattle.manager_laws.proofs.Computed.{fault_with, joined_told, merged_with, one_view, phases_with, same_phases, sweep_in, sweep_there}
use Rattle.manager_laws.proofs.ExampleFabric.{port}
use Rattle.manager_laws.proofs.Generations.{nothing_newest}
use Rattle.manager_laws.proofs.Rests.{new_managers_rest}

-- how they start --------------------------------------------------------------------------------------------------

module _ (guid : ℕ) (conduct : Conduct) (planning : Planning) where
  abbrev pub fresh : Manager
  fresh = new_manager guid 1 0 conduct planning

  -- as it is when its sweep of a generation has begun
  abbrev pub sweeper : ℕ → Manager
  sweeper generation =
      with_sweep (record (new_manager guid 1 0 conduct planning) {
        standing = active_once_more (new_manager guid 1 0 conduct planning).standing;
        seen = [];
      }) (started 1 generation 1 (is_live conduct))

  pub may_begin : begin_fault (new_manager guid 1 0 conduct planning) ≡ None
  may_begin = ap (λ n. if n == 2 ^ 32 - 1 then Some GenerationsSpent else None) nothing_newest

  module _ (s : Simulation) (node : ℕ) where
    -- at port 1 of a node
    abbrev pub new_at : Managing
    new_at = record { scene = record { fabric = s; handed = [] }; seat = port node 1; manager = new_manager guid 1 0 conduct planning; out = [] }

    pub new_starts : IsSimulation s → s.flights ≡ [] → AreGuidsDistinct (fabric_of s) → is_seat_at s (port node 1) ≡ true → planning.lmc < 8
        → Starts new_at
    new_starts is quiet distinct seat lmc =
        record {
          quiet = record { fabric = is; flights = quiet; handed = refl };
          distinct = distinct;
          seat = seat;
          port = refl;
          lmc = lmc;
          at_rest = new_managers_rest guid 1 0 conduct planning;
          out = refl;
        }

    pub begun : after_manager_event new_at Begin
        ≡ record new_at { manager = sweeper 1 }
    begun =
        ap (λ o. record new_at {
          manager = if is_none o then after_begin_sweep (new_manager guid 1 0 conduct planning) else new_manager guid 1 0 conduct planning;
        }) may_begin
        ∙ ap (λ n. record new_at { manager = sweeper (max (n + 1) 1) }) nothing_newest

-- what they write -------------------------------------------------------------------------------------------------

-- what is known by these replies
abbrev pub cells_by : List Sightings → Cells
cells_by replies = cells_of_view (joined_told [] replies)

-- what a manager would write by its sweep, if it knew this
abbrev pub phases_then : Planning → List Sightings → Manager → List Phase
phases_then planning replies m = phases_with planning m (Some (sweep_in m.sweep)) (cells_by replies)

-- what is computed of a manager whose sweep has every answer, and that was told nothing else
pub record HasSwept (planning : Planning) (replies : List Sightings) (m : Manager) : Type 0 where
  pub whole : IsWhole (sweep_in m.sweep)
  pub swept : is_some m.sweep ≡ true
  pub planning_is : m.planning ≡ planning
  pub store_is : m.store ≡ merged_with no_facts replies
  pub no_fault : fault_with planning m (Some (sweep_in m.sweep)) (cells_by replies) ≡ None

module _ (planning : Planning) (replies : List Sightings) (m : Manager) (h : HasSwept planning replies m) where
  pub sweep_is : m.sweep ≡ Some (sweep_in m.sweep)
  sweep_is = sweep_there m.sweep h.swept

  pub known : cells_of m.store ≡ cells_by replies
  known = ap cells_of (h.store_is ∙ one_view [] replies) ∙ entries-view (joined_told [] replies)

  pub may_write : writing_fault m ≡ None
  may_write = (λ i. fault_with (h.planning_is i) m (sweep_is i) (known i)) ∙ h.no_fault

  pub phases_so : phases_by m m.sweep ≡ phases_then planning replies m
  phases_so = same_phases m m.sweep ∙ (λ i. phases_with (h.planning_is i) m (sweep_is i) (known i))

  -- what is so of the plan and the phases by these replies is so of its own
  pub by_known : (P : PlanValue → List Phase → Type 0)
      → P (plan_of planning.rule planning.lmc (cells_by replies)) (phases_then planning replies m)
      → P (plan_of m.planning.rule m.planning.lmc (cells_of m.store)) (phases_by m m.sweep)
  by_known P so =
      subst (P (plan_of m.planning.rule m.planning.lmc (cells_of m.store))) (sym phases_so)
      (subst (λ plan. P plan (phases_then planning replies m))
      (sym (λ i. plan_of (h.planning_is i).rule (h.planning_is i).lmc (known i))) so)

module _ (planning : Planning) (replies : List Sightings) (w : Managing) (h : HasSwept planning replies w.manager) where
  abbrev began : List Phase → Managing
  began phases = record w { manager = begun_with w.manager phases }

  writes_its : after_manager_event w Write ≡ record w { manager = begun_with w.manager (phases_by w.manager w.manager.sweep) }
  writes_its =
      ap (λ fault. record w { manager = if is_none fault then after_write_steps w.manager else w.manager }) (may_write planning replies w.manager h)

  -- its writing begins by these phases
  pub writes : after_manager_event w Write ≡ record w { manager = begun_with w.manager (phases_then planning replies w.manager) }
  writes = writes_its ∙ ap began (phases_so planning replies w.manager h)

  pub keeps : (start : Managing) (events : List ManagerEvent)
      → AllKeep (plan_of planning.rule planning.lmc (cells_by replies))
      (IsOwnSet (fabric_of start.scene.fabric) start.seat (phases_then planning replies w.manager)) events
      (record w { manager = begun_with w.manager (phases_then planning replies w.manager) })
      → AllKeep (plan_at w) (own_sets start w) events (after_manager_event w Write)
  keeps start events keep =
      subst (AllKeep (plan_at w) (own_sets start w) events) (sym writes_its)
      (by_known planning replies w.manager h
      (λ plan phases. AllKeep plan (IsOwnSet (fabric_of start.scene.fabric) start.seat phases) events (began phases)) keep)
