-- Once a process prints that its plan is written, pings arrive.
use Rattle.std.specs.Prelude.{◌≡◌, true, List, [], ◌∷◌, All, Some, None}
use Rattle.fact_store.specs.View.{cells_of}
use Rattle.sweep.specs.Sweep.{Sweep}
use Rattle.lft_blocks.specs.Plan.{PlanValue}
use Rattle.schedule_file.specs.declared.command.Ask.TheVariants as ask
use Rattle.sm_manager.specs.Manager.{begin_fault}
use Rattle.sm_manager.specs.PlanFaults.{writing_fault}
use Rattle.sm_manager.specs.Writing.{is_written}
use Rattle.manager_laws.specs.Complete.{IsWhole}
use Rattle.manager_laws.specs.Managing.{Managing, Starts, after_manager_events}
use Rattle.manager_laws.specs.Pings.{EachPingArrives}
use Rattle.manager_laws.specs.Sets.{KeepsPlan, OwnSets}
use Rattle.manager_laws.specs.Written.{own_sets, plan_at}
use Rattle.serve_lines.specs.declared.serve_line.ServeLine.{ServeLine}
use Rattle.serve_lines.specs.declared.serve_line.ServeLine.TheVariants.{Ask, Floor}
use Rattle.program_laws.specs.Told.{Who, new_by}
use Rattle.program_laws.specs.Live.{CanLive, LiveEvent, Around, Tell, after_live, events_of}

-- the event that gives the line `sweep`
abbrev pub sweep_line : LiveEvent
sweep_line = Tell (Ask ask.Sweep)

-- the event that gives the line `write`
abbrev pub write_line : LiveEvent
write_line = Tell (Ask ask.Write)

-- the line is neither `sweep` nor `floor`
abbrev pub IsNoSweepLine : ServeLine → Type 0
IsNoSweepLine (Ask ask.Sweep) = ⊥
IsNoSweepLine (Floor floor) = ⊥
IsNoSweepLine line = Unit {0}

-- the event gives neither `sweep` nor `floor`
abbrev pub TellsNoSweep : LiveEvent → Type 0
TellsNoSweep (Tell line) = IsNoSweepLine line
TellsNoSweep event = Unit {0}

-- the line is not `write`
abbrev pub IsNoWriteLine : ServeLine → Type 0
IsNoWriteLine (Ask ask.Write) = ⊥
IsNoWriteLine line = Unit {0}

-- the event keeps the plan: it does not give `write`, and each Set that an agent takes is one of the writing's own or
-- carries the plan's values
abbrev pub KeepsLive : PlanValue → OwnSets → Managing → LiveEvent → Type 0
KeepsLive plan own w (Around event) = KeepsPlan plan own w.scene.fabric event
KeepsLive plan own w (Tell line) = IsNoWriteLine line
KeepsLive plan own w event = Unit {0}

-- none of the events gives `write`, and each Set that an agent takes by them is one of the writing's own or carries the
-- plan's values
abbrev pub AllKeepLive : PlanValue → OwnSets → List LiveEvent → Managing → Type 0
AllKeepLive plan own [] w = Unit {0}
AllKeepLive plan own (event ∷ events) w =
    KeepsLive plan own w event × AllKeepLive plan own events (after_live w event)

-- the `Managing` after live events
abbrev pub all_live : List LiveEvent → Managing → Managing
all_live events w = after_manager_events (events_of events w) w

-- the `Managing` when `write` is given: after the events `before`, `sweep`, and the events `between`
abbrev pub live_at_writing : Managing → List LiveEvent → List LiveEvent → Managing
live_at_writing w before between = all_live between (after_live (all_live before w) sweep_line)

-- the `Managing` after `write` was given: after the events `before`, `sweep`, the events `between`, and `write`
abbrev pub live_after_write : Managing → List LiveEvent → List LiveEvent → Managing
live_after_write w before between = after_live (live_at_writing w before between) write_line

-- the `Managing` at the end of the run: after the events `before`, `sweep`, `between`, `write`, and `after`
abbrev pub live_at_end : Managing → List LiveEvent → List LiveEvent → List LiveEvent → Managing
live_at_end w before between after = all_live after (live_after_write w before between)

-- a new process that holds no facts is given `sweep` and later, when the sweep has every answer, `write`. In the end
-- its plan counts as written. By `served_is_managing` the managers here are those of the process
pub record BringsUpLive (who : Who) (w : Managing) (before between after : List LiveEvent) : Type 0 where
  pub new : w.manager ≡ new_by who
  pub starts : Starts w
  pub before_can : All (CanLive w.seat) before
  pub between_can : All (CanLive w.seat) between
  pub after_can : All (CanLive w.seat) after
  -- the process holds no facts when `sweep` is given, and `sweep` is not refused
  pub knew_nothing : cells_of (all_live before w).manager.store ≡ []
  pub sweep_begins : begin_fault (all_live before w).manager ≡ None
  -- neither `sweep` nor `floor` is given between `sweep` and `write`
  pub alone : All TellsNoSweep between
  -- the sweep has every answer at `write`, and nothing was out of its reach
  pub sweep : Sweep
  pub is_last : (live_at_writing w before between).manager.sweep ≡ Some sweep
  pub whole : IsWhole sweep
  -- `write` is not refused
  pub writing_begins : writing_fault (live_at_writing w before between).manager ≡ None
  -- from then on no other `write` is given, and each Set that an agent takes is one of the writing's own or carries the
  -- plan's values
  pub keep : AllKeepLive (plan_at (live_at_writing w before between)) (own_sets w (live_at_writing w before between)) after
      (live_after_write w before between)
  -- the plan is written in the end
  pub written : is_written (live_at_end w before between after).manager ≡ true

-- if a process brings the subnet up, each ping from an end port that the seat is joined to, for each LID of the plan,
-- reaches the LID's owner
abbrev pub LivePingsArrive : Type 0
LivePingsArrive =
    (who : Who) (w : Managing) (before between after : List LiveEvent) → BringsUpLive who w before between after
    → EachPingArrives (live_at_writing w before between).manager.planning.rule
    (cells_of (live_at_writing w before between).manager.store) (plan_at (live_at_writing w before between))
    (live_at_end w before between after).scene.fabric w.seat

-- an example: a process that brings a subnet up, with what happens at its seat
pub record SomeProcessServes : Type 0 where
  pub who : Who
  pub managing : Managing
  pub before : List LiveEvent
  pub between : List LiveEvent
  pub after : List LiveEvent
  pub brings_up : BringsUpLive who managing before between after
