-- A manager that decides by itself, once it has written its plan.
use Rattle.std.proofs.Common.{◌≡◌, ◌∙◌, ◌++◌, true, List, Some, sym, ap, subst}
use Rattle.std.proofs.lemmas.List.Elements.{All-from_recursion}
use Rattle.std.specs.List.{AllByRecursion}
use Rattle.fact_store.specs.View.{cells_of}
use Rattle.lft_blocks.specs.Plan.{PlanValue, plan_of}
use Rattle.sweep.specs.Sweep.{Sweep}
use Rattle.sm_manager.specs.Manager.{Manager, emptied}
use Rattle.sm_manager.specs.Writing.{after_write_steps, is_written, phases_by}
use Rattle.acting_manager.specs.Acting.{Acting}
use Rattle.fabric_sim.specs.Simulation.{fabric_of}
use Rattle.manager_laws.specs.Complete.{IsWhole}
use Rattle.manager_laws.specs.Managing.{CanBe, Managing, ManagerEvent, after_manager_events}
use Rattle.manager_laws.specs.Pings.{EachPingArrives}
use Rattle.manager_laws.specs.Sets.{IsOwnSet, OwnSets}
use Rattle.manager_laws.specs.Scene.{Scene}
use Rattle.manager_laws.specs.WritingPings.{BringsUp, WritesItsSweep}
use Rattle.manager_laws.specs.Written.{AllKeep, at_end, at_first_steps, at_writing, own_sets, plan_at}
use Rattle.manager_laws.proofs.Arrive.{IsServed, is_served, pings_arrive_once_written}
use Rattle.manager_laws.proofs.Rests.{new_managers_sweep_first}
use Rattle.manager_laws.proofs.RunParts.{events_behind, keep_behind}
use Rattle.program_laws.specs.Deciding.{CanDecide, Deciding, DecidingEvent, StandsFor, after_deciding_events}
use Rattle.program_laws.specs.AnsweredPings.{WritesManaged}
use Rattle.program_laws.specs.ManagedPings.{ManagedPingsArrive, managed_at_end, managed_at_writing}
use Rattle.program_laws.specs.ManagedWritings.{WritesOneSweep, managing_of}
use Rattle.program_laws.proofs.managed.Staged.{seat_stays, seats_stay}
use Rattle.program_laws.proofs.managed.Moves.{both}
use Rattle.program_laws.proofs.managed.OneSweeps.{begun_so, writes_what_one_sweep_saw}
use Rattle.program_laws.proofs.managed.Keeping.{Kept, quiet_keep, run_kept}

module _ (d : Deciding) (before : List DecidingEvent) (begins : DecidingEvent) (after : List DecidingEvent)
    (b : WritesManaged d before begins after) where
  abbrev pub w : Managing
  w = managing_of d

  abbrev pub now : Deciding
  now = managed_at_writing d before begins

  pub x : WritesOneSweep w now
  x = writes_what_one_sweep_saw d before begins b.new b.before_can b.begins_can b.writes

  -- the manager as the writing begins, and as it has begun
  abbrev pub m : Manager
  m = (at_writing w x.before x.between).manager

  abbrev begun : Managing
  begun = after_manager_events x.later (at_first_steps w x.before x.between)

  pub given : now.acting.manager ≡ emptied (after_write_steps m)
  given = x.given ∙ ap emptied (begun_so m x.writing_begins)

  -- what it writes is the plan that it still has
  abbrev plan_by : Manager → PlanValue
  plan_by y = plan_of y.planning.rule y.planning.lmc (cells_of y.store)

  plan_same : plan_at (managing_of now) ≡ plan_at (at_writing w x.before x.between)
  plan_same = ap plan_by given

  own_same : own_sets w (managing_of now) ≡ own_sets w (at_writing w x.before x.between)
  own_same = ap (λ (y : Manager). IsOwnSet (fabric_of w.scene.fabric) w.seat (phases_by y y.sweep)) given

  stays : now.seat ≡ d.seat
  stays = seat_stays begins (after_deciding_events before d) ∙ seats_stay before d

  pub rest : Kept (plan_at (managing_of now)) (own_sets w (managing_of now)) begun (managed_at_end d before begins after)
  rest = run_kept (plan_at (managing_of now)) (own_sets w (managing_of now)) begun now after x.stands
      (subst (λ seat. AllByRecursion (CanDecide seat) after) (sym stays) b.after_can) b.keep

  -- all events from the writing on
  abbrev pub third : List ManagerEvent
  third = x.later ++ rest.leads.events

  at_end_so : at_end w x.before x.between third ≡ after_manager_events rest.leads.events begun
  at_end_so = events_behind x.later rest.leads.events (at_first_steps w x.before x.between)

  pub ends : StandsFor (at_end w x.before x.between third) (managed_at_end d before begins after)
  ends = subst (λ (y : Managing). StandsFor y (managed_at_end d before begins after)) (sym at_end_so) rest.leads.stands

  keeps : AllKeep (plan_at (at_writing w x.before x.between)) (own_sets w (at_writing w x.before x.between)) third
      (at_first_steps w x.before x.between)
  keeps =
      subst (λ (plan : PlanValue). AllKeep plan (own_sets w (at_writing w x.before x.between)) third (at_first_steps w x.before x.between)) plan_same
      (subst (λ (own : OwnSets). AllKeep (plan_at (managing_of now)) own third (at_first_steps w x.before x.between)) own_same
      (keep_behind (plan_at (managing_of now)) (own_sets w (managing_of now)) x.later rest.leads.events (at_first_steps w x.before x.between)
      (quiet_keep (plan_at (managing_of now)) (own_sets w (managing_of now)) x.later (at_first_steps w x.before x.between) x.quiet) rest.keep))

  begun_seat : begun.seat ≡ w.seat
  begun_seat = x.stands.seat ∙ stays

  third_can : AllByRecursion (CanBe w.seat) third
  third_can =
      both (CanBe w.seat) x.later rest.leads.events x.later_can
      (subst (λ seat. AllByRecursion (CanBe seat) rest.leads.events) begun_seat rest.leads.can_be)

  pub its_sweep : WritesItsSweep w x.before x.between third
  its_sweep =
      record {
        run = record {
          starts = b.starts;
          before_can = All-from_recursion (CanBe w.seat) x.before x.before_can;
          between_can = All-from_recursion (CanBe w.seat) x.between x.between_can;
          after_can = All-from_recursion (CanBe w.seat) third third_can;
          sweeps_first = new_managers_sweep_first b.new.port_guid b.new.port b.new.priority b.new.conduct b.new.planning w x.before
              (ap (λ (a : Acting). a.manager) b.new.acting);
          sweep_begins = x.sweep_begins;
          writing_begins = x.writing_begins;
          keep = keeps;
        };
        knew_nothing = x.knew_nothing;
        alone = x.alone;
      }

  -- once the plan of a whole sweep is written, pings arrive
  module _ (sweep : Sweep) (is_last : now.acting.manager.sweep ≡ Some sweep) (has_all : IsWhole sweep)
      (written : is_written (managed_at_end d before begins after).acting.manager ≡ true) where
    brings_up : BringsUp w x.before x.between third
    brings_up =
        record {
          planned = record {
            writes = its_sweep;
            sweep = sweep;
            is_last = sym (ap (λ (y : Manager). y.sweep) given) ∙ is_last;
            whole = has_all;
          };
          written = ap is_written ends.manager ∙ written;
        }

    -- the part that is joined to the seat holds the plan
    pub its_part : IsServed w x.before x.between third
    its_part = is_served w x.before x.between third brings_up.planned brings_up.written

    pub written_pings : EachPingArrives now.acting.manager.planning.rule (cells_of now.acting.manager.store) (plan_by now.acting.manager)
        (managed_at_end d before begins after).scene.fabric d.seat
    written_pings =
        subst (λ (scene : Scene). EachPingArrives now.acting.manager.planning.rule (cells_of now.acting.manager.store) (plan_by now.acting.manager)
        scene.fabric d.seat) ends.scene
        (subst (λ (y : Manager). EachPingArrives y.planning.rule (cells_of y.store) (plan_by y) (at_end w x.before x.between third).scene.fabric d.seat)
        (sym given) (pings_arrive_once_written w x.before x.between third brings_up))

pub managed_pings_arrive : ManagedPingsArrive
managed_pings_arrive d before begins after b =
    written_pings d before begins after (record {
      new = b.new;
      starts = b.starts;
      before_can = b.before_can;
      begins_can = b.begins_can;
      after_can = b.after_can;
      writes = b.writes;
      keep = b.keep;
    }) b.sweep b.is_last b.whole b.written
