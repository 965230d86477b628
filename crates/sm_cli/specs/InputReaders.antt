-- Readers of the inputs of a run: of files, or of a step.
use Rattle.std.specs.Prelude.{ℕ, Bool, Vec}
use Rattle.std.specs.declared.alloc.Global.{Global}
use Rattle.byte_io.specs.Source.{SourceState}
use Rattle.fact_store.specs.View.{Facts, cells_of}
use Rattle.subnet_view.specs.Reading.{is_usable}
use Rattle.sm_cli.specs.InputFiles.{HasRead, IsRefusedFile}
use Rattle.sm_cli.specs.FromText.{IsSwitchesFault, NamesSwitches}
use Rattle.sm_cli.specs.InputTables.{AreNoTextAndTables, AreTextAndTables}
use Rattle.sm_cli.specs.Inputs.{Reader}
use Rattle.sm_cli.specs.declared.input_tables.TextAndTables.{TextAndTables}

-- the reader of files, which are read at the greatest of `floor` and the files' floors
abbrev pub files_reader : {S : Type 0} → (S → SourceState) → ℕ → Reader S Facts
files_reader state floor = record {
  reads = HasRead state floor;
  refuses = IsRefusedFile state;
  has_switch = λ facts. is_usable (cells_of facts);
}

-- the reader of the inputs of a step: a text of an order, if asked for, then tables and files
abbrev pub step_reader : {S : Type 0} → (S → SourceState) → Bool → Reader S (TextAndTables (Vec ℕ Global))
step_reader state has_order = record {
  reads = AreTextAndTables state NamesSwitches has_order;
  refuses = AreNoTextAndTables state NamesSwitches IsSwitchesFault has_order;
  has_switch = λ told. is_usable (cells_of told.read.store);
}
