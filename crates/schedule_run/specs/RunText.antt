-- What the run of a schedule prints.
use Rattle.std.specs.Prelude.{ℕ, List, [], Result, Ok, Err}
use Rattle.topo_file.specs.Reading.{topology_of}
use Rattle.topo_file.specs.Topology.{Layout}
use Rattle.topo_file.specs.declared.topo_fault.TopoFault.{TopoFault}
use Rattle.schedule_file.specs.Schedule.{Script, schedule_of}
use Rattle.schedule_file.specs.declared.schedule_fault.ScheduleFault.{ScheduleFault}
use Rattle.lft_blocks.specs.Planning.{Planning}
use Rattle.schedule_run.specs.Commands.{after_commands, world_of}

-- what the run of a schedule prints, with managers that plan as `planning` says
unfoldable pub script_text : Planning → Layout → Script → List ℕ
script_text planning topology script =
    (after_commands topology.nodes (world_of planning topology script.seats script.deciders) script.commands).text

-- what the run of a schedule prints in the fabric of `topology`; nothing if the schedule is refused
abbrev pub schedule_text : Planning → Layout → Result Script ScheduleFault → List ℕ
schedule_text planning topology (Ok script) = script_text planning topology script
schedule_text planning topology (Err fault) = []

-- what the run of a schedule's text prints in the fabric of a topology; nothing if the topology or the schedule is
-- refused
abbrev pub topology_text : Planning → Result Layout TopoFault → List ℕ → List ℕ
topology_text planning (Ok topology) schedule = schedule_text planning topology (schedule_of topology.nodes schedule)
topology_text planning (Err fault) schedule = []

-- what a run of the texts of a topology and of a schedule prints, with managers that plan as `planning` says; nothing
-- if one of the texts is refused
abbrev pub run_text : Planning → List ℕ → List ℕ → List ℕ
run_text planning topology schedule = topology_text planning (topology_of topology) schedule
