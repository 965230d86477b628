-- A run on files: it reads its inputs, one after the other, and writes what the files say together, or returns a
-- fault.
use Rattle.std.specs.Prelude.{◌≡◌, ◌⊎◌, ⊤, ℕ, Bool, List, Option, None, Some, IsTrue}
use Rattle.byte_io.specs.Source.{SourceState}
use Rattle.fact_store.specs.View.{Facts, cells_of, AreInRange}
use Rattle.record_file.specs.FactsText.{facts_text}
use Rattle.record_file.specs.StoreFile.{store_bytes}
use Rattle.lid_assign.specs.LidFault.{no_room}
use Rattle.lid_assign.specs.declared.lid_fault.NoRoom.{NoRoom as LacksRoom}
use Rattle.lft_blocks.specs.Plan.{plan_of}
use Rattle.lft_blocks.specs.PlanText.{plan_text}
use Rattle.lft_blocks.specs.Rule.{RuleValue}
use Rattle.plan_order.specs.PlanOrder.{switches_by}
use Rattle.sm_cli.specs.declared.asked.Output.{Output}
use Rattle.sm_cli.specs.declared.asked.Output.TheVariants as output
use Rattle.sm_cli.specs.declared.asked.Invocation.{Invocation}
use Rattle.sm_cli.specs.declared.fault.Fault.{Fault}
use Rattle.sm_cli.specs.declared.fault.Fault.TheVariants.{NoRoom, Write, Memory}
use Rattle.sm_cli.specs.Asked.{rule_for}
use Rattle.sm_cli.specs.InputReaders.{files_reader}
use Rattle.sm_cli.specs.Inputs.{IsInputFault, WithInputs}
use Rattle.sm_cli.specs.OrderText.{order_text}

-- answers ---------------------------------------------------------------------------------------

-- the bytes that a run writes from `facts`: their text, a store file, or the plan or the order by `rule`
abbrev pub answer_to : Output → RuleValue → Facts → List ℕ
answer_to output.Facts rule facts = facts_text facts
answer_to output.Join rule facts = store_bytes facts.floor (cells_of facts)
answer_to (output.Plan lmc asked) rule facts = plan_text (plan_of rule lmc (cells_of facts))
answer_to (output.Order asked) rule facts = order_text (switches_by rule (cells_of facts))

-- the output can be made: for facts or a join, the facts are in range; for a plan, there is room for the LIDs; an order
-- needs neither
abbrev pub IsAnswered : Output → Facts → Type 0
IsAnswered output.Facts facts = AreInRange facts
IsAnswered output.Join facts = AreInRange facts
IsAnswered (output.Plan lmc asked) facts = no_room lmc (cells_of facts) ≡ None
IsAnswered (output.Order asked) facts = ⊤

-- `output` is a plan, and `why` is the lack of room, or None if the plan has room; or `output` is an order, and `why`
-- is None
abbrev pub IsPlanned : Output → Facts → Option LacksRoom → Type 0
IsPlanned output.Facts facts why = ⊥
IsPlanned output.Join facts why = ⊥
IsPlanned (output.Plan lmc asked) facts why = no_room lmc (cells_of facts) ≡ why
IsPlanned (output.Order asked) facts why = why ≡ None

-- writing the plan of `facts` ends with a fault: the plan has no room, a write failed, or the plan has room and memory
-- ran out
abbrev pub IsWritingFault : ℕ → Facts → Bool → Fault → Type 0
IsWritingFault lmc facts sink_failed (NoRoom why) = no_room lmc (cells_of facts) ≡ Some why
IsWritingFault lmc facts sink_failed Write = IsTrue sink_failed
IsWritingFault lmc facts sink_failed Memory = no_room lmc (cells_of facts) ≡ None
IsWritingFault lmc facts sink_failed fault = ⊥

-- making an output from `facts` ends with a fault: a plan has no room, a write failed, or memory ran out. Memory runs
-- out only for an order or for a plan with room
abbrev pub IsAnswerFault : Output → Facts → Bool → Fault → Type 0
IsAnswerFault what facts sink_failed (NoRoom why) = IsPlanned what facts (Some why)
IsAnswerFault what facts sink_failed Write = IsTrue sink_failed
IsAnswerFault what facts sink_failed Memory = IsPlanned what facts None
IsAnswerFault what facts sink_failed fault = ⊥

-- the output can be made from `facts`, and is printed, as `prints` says; a plan or an order is made by `rule`
pub record IsAnswer (output : Output) (rule : RuleValue) (facts : Facts) (prints : List ℕ → Type 0) : Type 0 where
  pub can_be : IsAnswered output facts
  pub answered : prints (answer_to output rule facts)

-- runs ------------------------------------------------------------------------------------------

-- the inputs were read, and the output that is asked for can be made from what the files say, and is printed, as
-- `prints` says
abbrev pub HasAnswered : {S : Type 0} → (S → SourceState) → Invocation → List S → List S → (List ℕ → Type 0) → Type 0
HasAnswered state request olds news prints =
    WithInputs state (files_reader state request.floor) (rule_for request.output) olds news
    (λ rule facts. IsAnswer request.output rule facts prints)

-- a run on open inputs ends with `fault`: the inputs are not read, or the output is not made
abbrev pub IsFaultOf : {S : Type 0} → (S → SourceState) → Invocation → List S → List S → Bool
    → Fault → Type 0
IsFaultOf state request olds news sink_failed fault =
    IsInputFault state (files_reader state request.floor) (rule_for request.output) olds news fault
    ⊎ WithInputs state (files_reader state request.floor) (rule_for request.output) olds news
    (λ rule facts. IsAnswerFault request.output facts sink_failed fault)
