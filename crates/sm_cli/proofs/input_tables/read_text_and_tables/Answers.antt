-- The inputs are two parts of their list, the text and the others.
use Rattle.std.proofs.Common.{◌+◌, ℕ, inl, inr, refl, subst}
use Rattle.sm_cli.specs.InputTables.{AreNoTablesAndFiles}
use Rattle.sm_cli.proofs.HandedOn.{handed_on}
use Rattle.sm_cli.proofs.InParts.{in_parts}
use Rattle.sm_cli.proofs.input_tables.read_text_and_tables.Goals as goal

pub returns-in_err-text-clause-refused : goal.returns-in_err-text-clause-refused
returns-in_err-text-clause-refused g c =
    handed_on c.from_residual.result c.in_err-text.field-0.0 _ c.from_residual.ensures.1
    (inl (in_parts c.args.inputs.now c.split_at_mut-texts.result.0.now c.split_at_mut-texts.result.1.now c.read_text_if.new.texts
    c.split_at_mut-texts.result.1.now c.split_at_mut-texts.ensures.value c.in_err-text.ensures.refused refl))

pub returns-clause-read : goal.returns-clause-read
returns-clause-read g c =
    in_parts c.args.inputs.now c.split_at_mut-texts.result.0.now c.split_at_mut-texts.result.1.now c.read_text_if.new.texts
    c.read_tables_and_files.new.inputs c.split_at_mut-texts.ensures.value c.in_ok-text.ensures.read c.in_ok-read.ensures.read

pub returns-in_err-read-clause-refused : goal.returns-in_err-read-clause-refused
returns-in_err-read-clause-refused g c =
    let fault = c.in_err-read.field-0.0 in
    let Refused : ℕ → Type 0 = λ texts. AreNoTablesAndFiles g.S.Source.state (c.args.before + texts) c.split_at_mut-texts.result.1.now
    c.read_tables_and_files.new.inputs fault in
    handed_on c.from_residual-in_err-read.result fault _ c.from_residual-in_err-read.ensures.1
    (inr (
      c.in_ok-text.text,
      in_parts c.args.inputs.now c.split_at_mut-texts.result.0.now c.split_at_mut-texts.result.1.now c.read_text_if.new.texts
          c.read_tables_and_files.new.inputs c.split_at_mut-texts.ensures.value c.in_ok-text.ensures.read
          (subst Refused c.texts_if-count.ensures c.in_err-read.ensures.refused),
    ))
