-- Lines as calls of a manager.
use Rattle.std.specs.Prelude.{ℕ, List, [], ◌∷◌, ◌++◌, map, Some}
use Rattle.schedule_file.specs.declared.command.Ask.{Ask as Asking}
use Rattle.schedule_file.specs.declared.command.Ask.TheVariants.{Sweep, Write, Handover, Yield, Rediscover, Poll}
use Rattle.reply_facts.specs.Report.{Sightings}
use Rattle.sm_manager.specs.CallLists as calls
use Rattle.sm_manager.specs.CallLists.{Call, greatest_floor, taken_in}
use Rattle.sm_manager.specs.Manager.{Manager, new_manager, outstanding}
use Rattle.sm_manager.specs.declared.outgoing.Outgoing.{Outgoing}
use Rattle.serve_lines.specs.declared.serve_line.ServeLine.{ServeLine}
use Rattle.serve_lines.specs.declared.serve_line.ServeLine.TheVariants.{Ask, Floor, Packet, Timeout, GiveUp}
use Rattle.lft_blocks.specs.Planning.{Planning}
use Rattle.sm_state.specs.declared.conduct.Conduct.{Conduct}
use Rattle.serve_run.specs.Served.{after_line, served}

-- the call of a manager for a request
abbrev pub call_asked : Asking → Call
call_asked Sweep = calls.BeginSweep
call_asked Write = calls.WriteSteps
call_asked Handover = calls.Handover
call_asked Yield = calls.Yield
call_asked Rediscover = calls.Rediscover
call_asked (Poll lid) = calls.Poll lid

-- the calls of the manager `m` for what a line asks; none for lines that only show something
abbrev pub calls_told : Manager → ServeLine → List Call
calls_told m (Ask what) = call_asked what ∷ []
calls_told m (Floor floor) = calls.Raise floor ∷ []
calls_told m (Packet bytes from) = calls.Packet bytes (Some from) ∷ []
calls_told m (Timeout transaction) = calls.Timeout transaction ∷ []
calls_told m GiveUp = map calls.Timeout (outstanding m)
calls_told m _ = []

-- the calls that take the packets that are sent, one call for each packet
abbrev pub takes_for : List Outgoing → List Call
takes_for [] = []
takes_for (out ∷ later) = calls.Take ∷ takes_for later

-- the packets that the manager `m` sends when it answers a line
abbrev pub given_by : Manager → ServeLine → List Outgoing
given_by m line = (after_line m line).now.outgoing

-- all calls of a line: those for what it asks, and then those that take the packets that are sent
abbrev pub calls_of_line : Manager → ServeLine → List Call
calls_of_line m line = calls_told m line ++ takes_for (given_by m line)

-- the calls of lines, in turn
abbrev pub calls_of : List ServeLine → Manager → List Call
calls_of [] m = []
calls_of (line ∷ later) m = calls_of_line m line ++ calls_of later (served m line).now

-- the port of a manager, its priority, how it deals with others, and how it plans
pub record Who : Type 0 where
  pub port_guid : ℕ
  pub port : ℕ
  pub priority : ℕ
  pub conduct : Conduct
  pub planning : Planning

-- a new manager as `who` says
abbrev pub new_by : Who → Manager
new_by who = new_manager who.port_guid who.port who.priority who.conduct who.planning

-- the sightings that a new process took in by these lines: those of the reports that it accepted
abbrev pub told_by : Who → List ServeLine → Sightings
told_by who lines = taken_in (calls_of lines (new_by who)) (new_by who)

-- the greatest floor that a new process was given by these lines, or 1
abbrev pub floor_by : Who → List ServeLine → ℕ
floor_by who lines = greatest_floor (calls_of lines (new_by who))
