-- What texts of lanes, of tables and of switches say, and why they are refused.
use Rattle.std.specs.Prelude.{◌≡◌, ℕ, List, None, Some, Ok, Err, Vec}
use Rattle.std.specs.declared.alloc.Global.{Global}
use Rattle.lanes_file.specs.Lanes.{LanesSaid}
use Rattle.lanes_file.specs.Reading as lanes
use Rattle.roots_file.specs.Reading.{roots_of}
use Rattle.tables_file.specs.Held.{HeldPlan}
use Rattle.tables_file.specs.Reading as tables
use Rattle.text_words.specs.declared.lines_fault.LinesFault.TheVariants as wrong
use Rattle.sm_cli.specs.declared.text_fault.TextFault.{TextFault}
use Rattle.sm_cli.specs.declared.text_fault.TextFault.TheVariants as texts

-- the text of lanes has no fault and says `said`
pub record SaysLanes (text : List ℕ) (said : LanesSaid) : Type 0 where
  pub sound : lanes.first_fault text ≡ None
  pub told : said ≡ lanes.lanes_said text

-- the fault is the first one of the text of lanes, or the text has none and memory ran out
abbrev pub IsLanesFault : List ℕ → TextFault → Type 0
IsLanesFault text (texts.Lanes (wrong.Line fault)) = lanes.first_fault text ≡ Some fault
IsLanesFault text (texts.Lanes wrong.Memory) = lanes.first_fault text ≡ None
IsLanesFault text fault = ⊥

-- the text of tables has no fault and says `held`
pub record SaysTables (text : List ℕ) (held : HeldPlan) : Type 0 where
  pub sound : tables.first_fault text ≡ None
  pub told : held ≡ tables.held_of text

-- the fault is the first one of the text of tables, or the text has none and memory ran out
abbrev pub IsTablesFault : List ℕ → TextFault → Type 0
IsTablesFault text (texts.Tables (wrong.Line fault)) = tables.first_fault text ≡ Some fault
IsTablesFault text (texts.Tables wrong.Memory) = tables.first_fault text ≡ None
IsTablesFault text fault = ⊥

-- the text of roots or of an order has no fault and names the switches
abbrev pub NamesSwitches : List ℕ → Vec ℕ Global → Type 0
NamesSwitches text switches = roots_of text ≡ Ok switches.items

-- the fault is the first one of the text of roots or of an order, or the text has none and memory ran out
abbrev pub IsSwitchesFault : List ℕ → TextFault → Type 0
IsSwitchesFault text (texts.Roots (wrong.Line fault)) = roots_of text ≡ Err fault
IsSwitchesFault text (texts.Roots wrong.Memory) = (guids : List ℕ) × (roots_of text ≡ Ok guids)
IsSwitchesFault text fault = ⊥
