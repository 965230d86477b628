-- The inputs are two parts of their list, the tables and the files.
use Rattle.std.proofs.Common.{◌≡◌, ℕ, inl, inr, refl, subst}
use Rattle.std.specs.Prelude.{IfSome, Option}
use Rattle.sm_cli.specs.InputFiles.{HasRead}
use Rattle.sm_cli.proofs.HandedOn.{handed_on}
use Rattle.sm_cli.proofs.InParts.{in_parts}
use Rattle.sm_cli.proofs.input_tables.read_tables_and_files.Goals as goal

pub returns-in_err-held-clause-refused : goal.returns-in_err-held-clause-refused
returns-in_err-held-clause-refused g c =
    handed_on c.from_residual.result c.in_err-held.field-0.0 _ c.from_residual.ensures.1
    (inl (in_parts c.args.inputs.now c.split_at_mut-tables.result.0.now c.split_at_mut-tables.result.1.now c.read_text.new.texts
    c.split_at_mut-tables.result.1.now c.split_at_mut-tables.ensures.value c.in_err-held.ensures.refused refl))

pub returns-clause-read : goal.returns-clause-read
returns-clause-read g c =
    let floor : c.unwrap-floor.result ≡ 1 = subst (λ (o : Option ℕ). IfSome o (λ generation. generation ≡ 1)) c.unwrap-floor.ensures c.new.ensures.some in
    in_parts c.args.inputs.now c.split_at_mut-tables.result.0.now c.split_at_mut-tables.result.1.now c.read_text.new.texts
    c.read_files.new.files c.split_at_mut-tables.ensures.value c.in_ok-held.ensures.read
    (subst (λ (f : ℕ). HasRead g.S.Source.state f c.split_at_mut-tables.result.1.now c.read_files.new.files c.in_ok-store.store) floor
    c.in_ok-store.ensures.read)

pub returns-in_err-store-clause-refused : goal.returns-in_err-store-clause-refused
returns-in_err-store-clause-refused g c =
    handed_on c.from_residual-in_err-store.result c.in_err-store.field-0.0 _ c.from_residual-in_err-store.ensures.1
    (inr (
      c.in_ok-held.held,
      in_parts c.args.inputs.now c.split_at_mut-tables.result.0.now c.split_at_mut-tables.result.1.now c.read_text.new.texts
          c.read_files.new.files c.split_at_mut-tables.ensures.value c.in_ok-held.ensures.read c.in_err-store.ensures.refused,
    ))
