-- What a step from held tables towards a plan does: it reads its inputs, one after the other, and writes the tables
-- to write next, or returns a fault.
use Rattle.std.specs.Prelude.{◌≡◌, ◌⊎◌, ◌↔◌, ◌+◌, ◌++◌, ℕ, Bool, true, false, List, [], Option, None, Some, IsTrue}
use Rattle.std.specs.Prelude.{Vec, if◌then◌else◌}
use Rattle.std.specs.declared.alloc.Global.{Global}
use Rattle.std.specs.Io.KnownBytes.{Appends}
use Rattle.byte_io.specs.Source.{SourceState}
use Rattle.fact_store.specs.View.{Facts, cells_of}
use Rattle.subnet_view.specs.Reading.{Cells}
use Rattle.lid_assign.specs.LidFault.{no_room}
use Rattle.lft_blocks.specs.Plan.{plan_of}
use Rattle.lft_blocks.specs.Rule.{RuleValue}
use Rattle.held_tables.specs.Held.{HeldPlan}
use Rattle.plan_tables.specs.PlanTables.{planned}
use Rattle.tables_file.specs.PrintedTables.{next_text}
use Rattle.next_tables.specs.SwitchPositions.{position_at}
use Rattle.held_order.specs.Between.{Goal, IsGoal}
use Rattle.next_tables.specs.NextTables.{StepRuleValue, by_order, first_moved, next_tables, settled_first, value_of}
use Rattle.held_order.specs.Rightness.{are_right}
use Rattle.plan_order.specs.PlanOrder.{positions_by}
use Rattle.next_tables.specs.declared.step_fault.StepFault.{StepFault}
use Rattle.next_tables.specs.declared.step_fault.StepFault.TheVariants as steps
use Rattle.next_run.specs.LoopText.{loop_text}
use Rattle.next_run.specs.StepLoops.{IsLoopInStep}
use Rattle.sm_cli.specs.Asked.{texts_for, texts_if}
use Rattle.sm_cli.specs.InputReaders.{step_reader}
use Rattle.sm_cli.specs.Inputs.{IsInputFault, Reader, WithInputs}
use Rattle.sm_cli.specs.declared.input_tables.TextAndTables.{TextAndTables}
use Rattle.sm_cli.specs.declared.fault.Fault.{Fault}
use Rattle.sm_cli.specs.declared.fault.Fault.TheVariants.{NoRoom, Text, Write, Memory}
use Rattle.sm_cli.specs.declared.text_fault.TextFault.TheVariants.{Moves}
use Rattle.sm_cli.specs.declared.step_asked.StepAsked.{StepAsked}
use Rattle.next_run.specs.LastOrder.{near_positions}
use Rattle.next_run.specs.StepOrderText.{items_of, order_of_step, step_order_text, switches_by}
use Rattle.next_run.specs.declared.step_choice.StepChoice.{StepChoice}

-- steps -----------------------------------------------------------------------------------------

-- the rule by which a step towards a plan chooses entries: the order that `positions` give if the held tables are right
-- by it, otherwise settled entries
abbrev pub chosen_by : Cells → List ℕ → HeldPlan → StepRuleValue
chosen_by cells positions held = if are_right cells (position_at positions) held then by_order positions else settled_first

-- the rule by which a step towards the plan of `facts` by `rule` chooses entries: the order of the plan if the held
-- tables are right by it, otherwise settled entries
abbrev pub step_rule : RuleValue → Facts → HeldPlan → StepRuleValue
step_rule rule facts held = chosen_by (cells_of facts) (positions_by rule (cells_of facts)) held

-- the tables to write next towards the plan of `facts`, if the step does not go by an order that the held tables imply
abbrev pub stepped : ℕ → RuleValue → Facts → HeldPlan → HeldPlan
stepped lmc rule facts held = next_tables (cells_of facts) (step_rule rule facts held) held (planned lmc rule facts)

-- the text of a step: the LIDs of the plan of `facts`, and then the tables `next` to write next
abbrev pub text_of_step : ℕ → RuleValue → Facts → HeldPlan → List ℕ
text_of_step lmc rule facts next = next_text (plan_of rule lmc (cells_of facts)).given next

-- the text of a step towards the plan of `facts`, if the step does not go by an order that the held tables imply
abbrev pub step_text : ℕ → RuleValue → Facts → HeldPlan → List ℕ
step_text lmc rule facts held = text_of_step lmc rule facts (stepped lmc rule facts held)

-- the choice of a step: how the step chooses entries; the tables that the step goes towards, if these are not the
-- plan's; and the order that the step goes by, if the held tables imply this order
pub record Choice : Type 0 where
  pub by : StepRuleValue
  pub goal : Option HeldPlan
  pub order : Option (List ℕ)

-- the choice that a `StepChoice` of the code stands for
abbrev pub choice_of : StepChoice → Choice
choice_of choice = record { by = value_of choice.by; goal = choice.goal; order = items_of choice.order }

-- the tables of the goal, if there is one, or else `plan`
abbrev pub goal_or : HeldPlan → Option HeldPlan → HeldPlan
goal_or plan None = plan
goal_or plan (Some goal) = goal

-- the tables to write next, by the rule of steps of `choice`, towards the goal of `choice`, or towards `plan` if
-- `choice` has no goal
abbrev pub next_by_choice : Cells → Choice → HeldPlan → HeldPlan → HeldPlan
next_by_choice cells choice held plan = next_tables cells choice.by held (goal_or plan choice.goal)

-- the goal of a step by an order that the held tables imply: of several such orders, by the one nearest to the
-- positions `near`. None if the held tables are right by the plan's order (the first argument is true), or imply no
-- order
abbrev pub IsGoalFrom : Bool → Cells → HeldPlan → HeldPlan → List ℕ → List ℕ → Option Goal → Type 0
IsGoalFrom true cells held plan positions near goal = goal ≡ None
IsGoalFrom false cells held plan positions near goal = IsGoal cells held plan positions near goal

-- the goal of a step towards the plan of `facts` by `rule`, if of several orders that the held tables imply the one
-- nearest to the order `last` is taken, which lists switches; for None, the one nearest to the plan's order
abbrev pub IsGoalNear : RuleValue → Option (List ℕ) → Facts → HeldPlan → HeldPlan → Option Goal → Type 0
IsGoalNear rule last facts held plan goal =
    IsGoalFrom (are_right (cells_of facts) (position_at (positions_by rule (cells_of facts))) held) (cells_of facts)
    held plan (positions_by rule (cells_of facts)) (near_positions (positions_by rule (cells_of facts)) (cells_of facts) last) goal

-- the choice of a step: with a goal, it goes by the goal's order towards the goal's tables; without one, towards the
-- plan
abbrev pub choice_by : RuleValue → Facts → HeldPlan → Option Goal → Choice
choice_by rule facts held None = record { by = step_rule rule facts held; goal = None; order = None }
choice_by rule facts held (Some goal) = record {
  by = by_order goal.positions;
  goal = Some goal.tables;
  order = Some (switches_by (cells_of facts) goal.positions);
}

-- `choice` says how a step chooses entries, which tables the step goes towards, and which order it goes by, if the held
-- tables imply that order: of several, the one nearest to `last` (`IsGoalNear`)
pub record IsChoice (rule : RuleValue) (last : Option (List ℕ)) (facts : Facts) (held plan : HeldPlan) (choice : Choice)
    : Type 0 where
  pub goal : Option Goal
  pub goal_is : IsGoalNear rule last facts held plan goal
  pub is : choice ≡ choice_by rule facts held goal

-- the tables to write next, towards the goal's tables if there is a goal, otherwise towards `plan`
abbrev pub next_towards : RuleValue → Facts → HeldPlan → HeldPlan → Option Goal → HeldPlan
next_towards rule facts held plan None = next_tables (cells_of facts) (step_rule rule facts held) held plan
next_towards rule facts held plan (Some goal) = next_tables (cells_of facts) (by_order goal.positions) held goal.tables

-- `goal` is taken if the goal nearest to the order of the last step is `first`: it is `first`, unless a step towards
-- `first` changes nothing. Then `goal` is the one nearest to the plan's order
abbrev pub IsTaken : RuleValue → Facts → HeldPlan → HeldPlan → Option Goal → Option Goal → Type 0
IsTaken rule facts held plan None goal = goal ≡ None
IsTaken rule facts held plan (Some first) goal =
    ((next_towards rule facts held plan (Some first) ≡ held → ⊥) × (goal ≡ Some first))
    ⊎ ((next_towards rule facts held plan (Some first) ≡ held) × IsGoalNear rule None facts held plan goal)

-- the goal of a step by an order that the held tables imply: if `last` is the order of the last step, as a list of
-- switches, the goal nearest to it, as long as a step towards that goal changes something; otherwise the goal nearest
-- to the plan's order. None if the held tables are right by the plan's order, or imply no order
abbrev pub IsGoalOf : RuleValue → Option (List ℕ) → Facts → HeldPlan → HeldPlan → Option Goal → Type 0
IsGoalOf rule None facts held plan goal = IsGoalNear rule None facts held plan goal
IsGoalOf rule (Some last) facts held plan goal =
    (first : Option Goal) × IsGoalNear rule (Some last) facts held plan first × IsTaken rule facts held plan first goal

-- `next` are the tables to write next, and `goal` is the goal of a step by an order that the held tables imply. `last`
-- is the order of the last step
pub record IsNextStep (rule : RuleValue) (last : Option (List ℕ)) (facts : Facts) (held plan : HeldPlan)
    (goal : Option Goal) (next : HeldPlan) : Type 0 where
  pub goal_is : IsGoalOf rule last facts held plan goal
  pub is : next ≡ next_towards rule facts held plan goal

-- a step was made towards the goal nearest to the order `last`, or to the plan's for None: `next` are the tables to
-- write next, and `order` has the switches in the order that the step goes by, if the held tables imply it
pub record IsMadeNear (rule : RuleValue) (last : Option (List ℕ)) (facts : Facts) (held plan next : HeldPlan)
    (order : Option (List ℕ)) : Type 0 where
  pub goal : Option Goal
  pub goal_is : IsGoalNear rule last facts held plan goal
  pub is : next ≡ next_towards rule facts held plan goal
  pub order_is : order ≡ order_of_step (cells_of facts) goal

-- a step was made: `next` are the tables to write next, and `order` has the switches in the order that the step goes
-- by, if the held tables imply it
pub record IsMade (rule : RuleValue) (last : Option (List ℕ)) (facts : Facts) (held plan next : HeldPlan)
    (order : Option (List ℕ)) : Type 0 where
  pub goal : Option Goal
  pub is_next : IsNextStep rule last facts held plan goal next
  pub order_is : order ≡ order_of_step (cells_of facts) goal

-- `text` was written, or the sink has failed
abbrev pub IsSaid : {W : Type 0} → (W → Option (List ℕ)) → (W → Bool) → W → W → List ℕ → Type 0
IsSaid written has_failed old new text = IsTrue (has_failed new) ⊎ Appends (written old) (written new) text

-- the plan has room, and no LID moves. The step's text is printed, as `prints` says. A shortest credit loop that the
-- step can make and its LIDs are printed, as `says` says, and so is the order that the step goes by, if the held tables
-- imply this order. `passed` says whether there is no such loop. `last` is the order of the last step
pub record IsStep (lmc : ℕ) (rule : RuleValue) (last : Option (List ℕ)) (facts : Facts) (held : HeldPlan)
    (prints says : List ℕ → Type 0) (passed : Bool) : Type 0 where
  pub has_room : no_room lmc (cells_of facts) ≡ None
  pub no_move : first_moved held (planned lmc rule facts) ≡ None
  pub goal : Option Goal
  pub next : HeldPlan
  pub is_next : IsNextStep rule last facts held (planned lmc rule facts) goal next
  pub written : prints (text_of_step lmc rule facts next)
  pub cycle : List ℕ
  pub lids : List ℕ
  pub found : IsLoopInStep (cells_of facts) held next cycle lids
  pub said : says (loop_text (cells_of facts) cycle lids ++ step_order_text (order_of_step (cells_of facts) goal))
  pub judged : IsTrue passed ↔ (cycle ≡ [])

-- the fault of a step as a fault of the run; `at` is the input of the held tables
abbrev pub fault_of_step : ℕ → StepFault → Fault
fault_of_step at (steps.Moves lid) = Text at (Moves lid)
fault_of_step at steps.Memory = Memory

-- making the next tables may end with a fault: it says that the LID in `moved` moves, or it is lack of memory
abbrev pub StopsBy : Option ℕ → StepFault → Type 0
StopsBy moved (steps.Moves lid) = moved ≡ Some lid
StopsBy moved steps.Memory = Unit {0}

-- a step ends with a fault: the plan has no room; the plan gives a LID to an end port, and the held tables, the input
-- `at`, give it to another one; the output has failed; or the plan has room and memory ran out
abbrev pub StopsStep : ℕ → ℕ → RuleValue → Facts → HeldPlan → Bool → Fault → Type 0
StopsStep at lmc rule facts held sink_failed (NoRoom why) = no_room lmc (cells_of facts) ≡ Some why
StopsStep at lmc rule facts held sink_failed (Text input (Moves lid)) =
    (input ≡ at) × (first_moved held (planned lmc rule facts) ≡ Some lid)
StopsStep at lmc rule facts held sink_failed Write = IsTrue sink_failed
StopsStep at lmc rule facts held sink_failed Memory = no_room lmc (cells_of facts) ≡ None
StopsStep at lmc rule facts held sink_failed fault = ⊥

-- runs ------------------------------------------------------------------------------------------

-- the reader of the inputs after the text that the rule takes: the text of an order, if it is asked for, the tables and
-- the files
abbrev pub reader_of : {S : Type 0} → (S → SourceState) → StepAsked → Reader S (TextAndTables (Vec ℕ Global))
reader_of state asked = step_reader state asked.has_last

-- the number of texts that a step reads before the tables
abbrev pub texts_before : StepAsked → ℕ
texts_before asked = texts_for asked.rule + texts_if asked.has_last

-- the step that is asked for, made from what the inputs say, is printed as `prints` and `says` say (`IsStep`).
-- `passed` says whether the step can make no credit loop
abbrev pub IsStepOf : StepAsked → RuleValue → TextAndTables (Vec ℕ Global) → (List ℕ → Type 0) → (List ℕ → Type 0) → Bool → Type 0
IsStepOf asked rule told prints says passed =
    IsStep asked.lmc rule (items_of told.text) told.read.store told.read.held prints says passed

-- the inputs were read, and the step that is asked for was made and written. The inputs are the text that the rule
-- takes, the text of an order, if it is asked for, the tables and the files
abbrev pub HasStepped : {S : Type 0} → (S → SourceState) → StepAsked → List S → List S
    → (List ℕ → Type 0) → (List ℕ → Type 0) → Bool → Type 0
HasStepped state asked olds news prints says passed =
    WithInputs state (reader_of state asked) asked.rule olds news
    (λ rule told. IsStepOf asked rule told prints says passed)

-- a step on open inputs ends with `fault`: the inputs are not read, or the step is not made or written
abbrev pub IsStepFault : {S : Type 0} → (S → SourceState) → StepAsked → List S → List S
    → Bool → Fault → Type 0
IsStepFault state asked olds news sink_failed fault =
    IsInputFault state (reader_of state asked) asked.rule olds news fault
    ⊎ WithInputs state (reader_of state asked) asked.rule olds news
    (λ rule told. StopsStep (texts_before asked) asked.lmc rule told.read.store told.read.held sink_failed fault)
