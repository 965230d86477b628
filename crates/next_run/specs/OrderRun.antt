-- A run that writes the order that tables imply. It reads all files and writes the order, or returns the fault of a
-- file.
use Rattle.std.specs.Prelude.{◌≡◌, ◌⊎◌, ℕ, Bool, List, [], Option, None, Some, is_some, length, map, reverse}
use Rattle.std.specs.List.{range_with_len}
use Rattle.byte_io.specs.Source.{SourceState}
use Rattle.fact_store.specs.View.{Facts, cells_of}
use Rattle.subnet_view.specs.Reading.{Cells, switches}
use Rattle.held_tables.specs.Held.{HeldPlan}
use Rattle.next_tables.specs.SwitchPositions.{switch_at}
use Rattle.held_order.specs.ToldOrder.{IsImpliedOrder}
use Rattle.sm_cli.specs.OrderText.{order_text}
use Rattle.sm_cli.specs.InputTables.{AreNoTablesAndFiles, AreTablesAndFiles}
use Rattle.sm_cli.specs.declared.fault.Fault.{Fault}
use Rattle.sm_cli.specs.declared.input_tables.TablesAndFacts.{TablesAndFacts}
use Rattle.sm_cli.specs.Fault.{IsOutputFault}

-- the GUIDs of the switches of an order, the first switch first; `taken` has the indices of the switches, the last
-- switch first. Empty for None, which means that there is no order
abbrev pub told_switches : Cells → Option (List ℕ) → List ℕ
told_switches cells None = []
told_switches cells (Some taken) = map (switch_at cells) (reverse taken)

-- the order that the tables imply, or nothing if they imply none, is printed, as `prints` says. `has_order` says
-- whether the tables imply an order. Switches are taken one by one, the last of the order first; if several may be
-- taken next, the one with the greatest GUID is taken
pub record IsOrderAnswer (facts : Facts) (held : HeldPlan) (prints : List ℕ → Type 0) (has_order : Bool) : Type 0 where
  pub order : Option (List ℕ)
  pub told : IsImpliedOrder (cells_of facts) held (range_with_len 0 (length (switches (cells_of facts)))) order
  pub written : prints (order_text (told_switches (cells_of facts) order))
  pub judged : has_order ≡ is_some order

-- the tables and then the files were read. The order that the tables imply, or nothing if they imply none, is
-- printed, as `prints` says. `has_order` says whether the tables imply an order
pub record HasPrintedOrder {S : Type 0} (state : S → SourceState) (olds news : List S)
    (prints : List ℕ → Type 0) (has_order : Bool) : Type 0 where
  pub read_are : TablesAndFacts
  pub read : AreTablesAndFiles state olds news read_are
  pub telling : IsOrderAnswer read_are.store read_are.held prints has_order

-- the tables and the files were read, and writing the order of the tables ended with `fault`
pub record FailsToTell {S : Type 0} (state : S → SourceState) (olds news : List S)
    (sink_failed : Bool) (fault : Fault) : Type 0 where
  pub read_are : TablesAndFacts
  pub read : AreTablesAndFiles state olds news read_are
  pub why : IsOutputFault sink_failed fault

-- a run on open inputs ends with `fault`: the inputs are not read, or the order is not written
abbrev pub IsOrderFault : {S : Type 0} → (S → SourceState) → List S → List S → Bool → Fault → Type 0
IsOrderFault state olds news sink_failed fault =
    AreNoTablesAndFiles state 0 olds news fault ⊎ FailsToTell state olds news sink_failed fault
