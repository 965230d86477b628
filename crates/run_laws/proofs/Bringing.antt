-- A run with one manager that sweeps and then writes is one that brings its subnet up.
use Rattle.std.proofs.Common.{◌≡◌, ℕ, cond, List, [], ◌∷◌, refl, sym, ap, ◌∙◌, subst}
use Rattle.std.proofs.lemmas.List.Elements.{All-nil}
use Rattle.std.specs.Prelude.{◌-◌, ◌^◌, ◌==◌, if◌then◌else◌, All, Option, Some, None, is_none, slice_get}
use Rattle.topo_file.specs.declared.node.Node.{Node}
use Rattle.schedule_file.specs.Resolve.{SeatCommand}
use Rattle.schedule_file.specs.declared.command.Ask.TheVariants as ask
use Rattle.schedule_file.specs.declared.command.Command.TheVariants as command
use Rattle.fabric_sim.specs.Simulation.{fabric_of}
use Rattle.fact_store.specs.View.{cells_of}
use Rattle.lft_blocks.specs.Plan.{PlanValue, plan_of}
use Rattle.sm_manager.specs.Manager.{Manager, begin_fault, new_manager, after_begin_sweep}
use Rattle.sm_manager.specs.PlanFaults.{writing_fault}
use Rattle.sm_manager.specs.Writing.{is_written, phases_by, after_write_steps}
use Rattle.sm_manager.specs.declared.fault.ManagerFault.{ManagerFault}
use Rattle.sm_manager.specs.declared.fault.ManagerFault.TheVariants.{GenerationsSpent}
use Rattle.manager_laws.specs.Managing.{Begin, CanBe, Managing, Write, after_manager_event, after_manager_events}
use Rattle.manager_laws.specs.WritingPings.{BringsUp}
use Rattle.manager_laws.specs.Sets.{IsOwnSet, OwnSets}
use Rattle.manager_laws.specs.Written.{AllKeep, plan_at}
use Rattle.manager_laws.proofs.Generations.{nothing_found, nothing_newest}
use Rattle.manager_laws.proofs.Rests.{new_managers_rest}
use Rattle.schedule_run.specs.Commands.{after_ask_line, after_command, after_commands}
use Rattle.schedule_run.specs.World.{DeciderValue, SeatedValue, WorldValue, after_manager_call, after_send}
use Rattle.run_laws.specs.OneManager.{BringsUpAlone, IsOnly, KeepsLines, RunsOfOneAreReached, at_end, at_first_steps, at_writing}
use Rattle.run_laws.specs.Reached.{EachPingSaysReached}
use Rattle.run_laws.proofs.Lived.{Lives, as_world, commands_live, goes_on, managing_of, seated_as, sends_live}
use Rattle.run_laws.proofs.Printed.{written_plans_are_reached}
use Rattle.run_laws.proofs.WrittenLines.{written_lines_tell}

abbrev world_with : WorldValue → List SeatedValue → List DeciderValue → WorldValue
world_with w managers deciders = record w { managers = managers; deciders = deciders }

-- the one manager of a world
manager_is : (name : List ℕ) (time : ℕ) (m : Managing) (w : WorldValue) (s : SeatedValue) (manager : Manager) → as_world name time m ≡ w → IsOnly w s manager
    → m.manager ≡ manager
manager_is name time m w s manager same only =
    let both : seated_as name m ∷ [] ≡ record s { manager = manager } ∷ [] = ap (λ (x : WorldValue). x.managers) same ∙ only in
    let one : seated_as name m ≡ record s { manager = manager } = cc in
    ap (λ (x : SeatedValue). x.manager) one

module _ (nodes : List Node) (name : List ℕ) (time : ℕ) (m : Managing) where
  -- the line `sweep`
  sweep_line : begin_fault m.manager ≡ None
      → (after_command nodes (as_world name time m) (command.Ask 0 ask.Sweep)).now ≡ (after_send (as_world name time (after_manager_event m Begin)) 0).now
  unfolding after_ask_line
  sweep_line none =
      ap (λ (o : Option ManagerFault). (after_manager_call (λ now. after_send now 0) (as_world name time m) 0 (seated_as name m) o
      (after_begin_sweep m.manager)).now) none
      ∙ ap (λ (o : Option ManagerFault). (after_send (as_world name time (managing_of m.scene m.seat (cond (is_none o)
      (after_begin_sweep m.manager) m.manager) m.out)) 0).now) (sym none)

  -- the line `write`
  write_line : writing_fault m.manager ≡ None
      → (after_command nodes (as_world name time m) (command.Ask 0 ask.Write)).now ≡ (after_send (as_world name time (after_manager_event m Write)) 0).now
  unfolding after_ask_line
  write_line none =
      ap (λ (o : Option ManagerFault). (after_manager_call (λ now. after_send now 0) (as_world name time m) 0 (seated_as name m) o
      (after_write_steps m.manager)).now) none
      ∙ ap (λ (o : Option ManagerFault). (after_send (as_world name time (managing_of m.scene m.seat (cond (is_none o)
      (after_write_steps m.manager) m.manager) m.out)) 0).now) (sym none)

module _ (nodes : List Node) (w : WorldValue) (s : SeatedValue) (between after : List SeatCommand) (b : BringsUpAlone nodes w s between after) where
  abbrev plan : PlanValue
  plan = plan_of b.swept.planning.rule b.swept.planning.lmc (cells_of b.swept.store)

  abbrev own : OwnSets
  own = IsOwnSet (fabric_of w.fabric) s.at (phases_by b.swept b.swept.sweep)

  abbrev start : Managing
  start = managing_of (record { fabric = w.fabric; handed = [] }) s.at (new_manager b.port_guid s.at.port b.priority b.conduct b.planning) []

  starts_so : as_world s.name w.time start ≡ w
  starts_so = λ i. world_with w (sym b.only i) (sym b.none_decides i)

  begun : begin_fault start.manager ≡ None
  begun = ap (λ n. if n == 2 ^ 32 - 1 then Some GenerationsSpent else None) nothing_newest

  -- the sweep, and the lines behind it -----------------------------------------------------------------------

  abbrev m1 : Managing
  m1 = after_manager_event start Begin

  abbrev sent1 : Lives plan own s.name w.time m1 (Unit {0}) (after_send (as_world s.name w.time m1) 0).now
  sent1 = sends_live plan own s.name w.time m1 (Unit {0})

  abbrev then1 : Managing
  then1 = after_manager_events sent1.events m1

  abbrev swept : Lives plan own s.name w.time m1 (KeepsLines plan own nodes (as_world s.name w.time then1) between) (after_commands nodes (as_world s.name w.time then1) between).now
  swept =
      goes_on plan own s.name w.time m1 (Unit {0}) (KeepsLines plan own nodes (as_world s.name w.time then1) between) (KeepsLines plan own nodes
      (as_world s.name w.time then1) between)
      (after_send (as_world s.name w.time m1) 0).now (after_commands nodes (as_world s.name w.time then1) between).now sent1
      (commands_live plan own s.name w.time nodes then1 between b.between_lines) (λ h. tt) (λ h. h)

  abbrev m2 : Managing
  m2 = after_manager_events swept.events m1

  sweep_so : as_world s.name w.time then1 ≡ (after_command nodes w (command.Ask 0 ask.Sweep)).now
  sweep_so = sent1.ends ∙ sym (sweep_line nodes s.name w.time start begun) ∙ ap (λ x. (after_command nodes x (command.Ask 0 ask.Sweep)).now) starts_so

  writing_so : as_world s.name w.time m2 ≡ at_writing nodes w between
  writing_so = swept.ends ∙ ap (λ x. (after_commands nodes x between).now) sweep_so

  swept_is : m2.manager ≡ b.swept
  swept_is = manager_is s.name w.time m2 (at_writing nodes w between) s b.swept writing_so b.only_then

  begins : writing_fault m2.manager ≡ None
  begins = ap writing_fault swept_is ∙ b.begins

  -- the writing, and the lines behind it -----------------------------------------------------------------------

  abbrev m3 : Managing
  m3 = after_manager_event m2 Write

  abbrev sent3 : Lives plan own s.name w.time m3 (Unit {0}) (after_send (as_world s.name w.time m3) 0).now
  sent3 = sends_live plan own s.name w.time m3 (Unit {0})

  abbrev then3 : Managing
  then3 = after_manager_events sent3.events m3

  abbrev wrote : Lives plan own s.name w.time m3 (KeepsLines plan own nodes (as_world s.name w.time then3) after) (after_commands nodes (as_world s.name w.time then3) after).now
  wrote =
      goes_on plan own s.name w.time m3 (Unit {0}) (KeepsLines plan own nodes (as_world s.name w.time then3) after) (KeepsLines plan own nodes (as_world s.name w.time then3) after)
      (after_send (as_world s.name w.time m3) 0).now (after_commands nodes (as_world s.name w.time then3) after).now sent3
      (commands_live plan own s.name w.time nodes then3 after b.after_lines) (λ h. tt) (λ h. h)

  abbrev m4 : Managing
  m4 = after_manager_events wrote.events m3

  steps_so : as_world s.name w.time then3 ≡ at_first_steps nodes w between
  steps_so = sent3.ends ∙ sym (write_line nodes s.name w.time m2 begins) ∙ ap (λ x. (after_command nodes x (command.Ask 0 ask.Write)).now) writing_so

  end_so : as_world s.name w.time m4 ≡ at_end nodes w between after
  end_so = wrote.ends ∙ ap (λ x. (after_commands nodes x after).now) steps_so

  seated_then : slice_get (at_end nodes w between after).managers 0 ≡ Some (record s { manager = b.writer })
  seated_then = ap (λ (ms : List SeatedValue). slice_get ms 0) b.only_at_end

  writer_is : m4.manager ≡ b.writer
  writer_is = manager_is s.name w.time m4 (at_end nodes w between after) s b.writer end_so b.only_at_end

  keeps : AllKeep (plan_at m2) (IsOwnSet (fabric_of w.fabric) s.at (phases_by m2.manager m2.manager.sweep)) wrote.events m3
  keeps =
      subst (λ (x : Manager). AllKeep (plan_of x.planning.rule x.planning.lmc (cells_of x.store)) (IsOwnSet (fabric_of w.fabric) s.at (phases_by x x.sweep))
      wrote.events m3) (sym swept_is)
      (wrote.keep (subst (λ x. KeepsLines plan own nodes x after) (sym steps_so) b.keeps))

  brings : BringsUp start [] swept.events wrote.events
  brings =
      record {
        planned = record {
          writes = record {
            run = record {
              starts = record {
                quiet = record { fabric = b.fabric; flights = b.no_packets; handed = refl };
                distinct = b.distinct;
                seat = b.seat;
                port = refl;
                lmc = b.few;
                at_rest = new_managers_rest b.port_guid s.at.port b.priority b.conduct b.planning;
                out = refl;
              };
              before_can = All-nil (CanBe s.at);
              between_can = swept.can;
              after_can = subst (λ seat. All (CanBe seat) wrote.events) swept.seat wrote.can;
              sweeps_first = tt;
              sweep_begins = begun;
              writing_begins = begins;
              keep = keeps;
            };
            knew_nothing = nothing_found;
            alone = swept.no_sweeps;
          };
          sweep = b.sweep;
          is_last = ap (λ (x : Manager). x.sweep) swept_is ∙ b.is_last;
          whole = b.whole;
        };
        written = ap is_written writer_is ∙ (written_lines_tell (at_end nodes w between after) 0 (record s { manager = b.writer }) seated_then).0 b.written;
      }

  reached : EachPingSaysReached plan (at_end nodes w between after) s.at
  reached =
      subst (λ (x : Manager). EachPingSaysReached (plan_of x.planning.rule x.planning.lmc (cells_of x.store)) (at_end nodes w between after) s.at) swept_is
      (written_plans_are_reached start [] swept.events wrote.events brings (at_end nodes w between after) (ap (λ (x : WorldValue). x.fabric) (sym end_so)))

pub runs_of_one_are_reached : RunsOfOneAreReached
runs_of_one_are_reached = reached
