-- The inputs are two parts of their list, the text that the rule takes and the others.
use Rattle.std.proofs.Common.{◌∙◌, ℕ, inl, inr, refl, subst, sym}
use Rattle.lft_blocks.specs.Rule.{value_of}
use Rattle.sm_cli.proofs.HandedOn.{handed_on}
use Rattle.sm_cli.proofs.InParts.{in_parts}
use Rattle.sm_cli.proofs.inputs.read_inputs.Goals as goal

pub returns-in_err-rule-clause-refused : goal.returns-in_err-rule-clause-refused
returns-in_err-rule-clause-refused g c =
    handed_on c.from_residual.result c.in_err-rule.field-0.0 _ c.from_residual.ensures.1
    (inl (in_parts c.args.inputs.now c.split_at_mut-texts.result.0.now c.split_at_mut-texts.result.1.now c.read_rule.new.texts
    c.split_at_mut-texts.result.1.now c.split_at_mut-texts.ensures.value c.in_err-rule.ensures.refused refl))

pub returns-in_err-told-clause-refused : goal.returns-in_err-told-clause-refused
returns-in_err-told-clause-refused g c =
    let Refused : ℕ → Type 0 = λ before. (g.R.InputReader.reader c.args.reader.now).refuses before c.split_at_mut-texts.result.1.now
    c.read.new.inputs c.in_err-told.field-0.0 in
    handed_on c.from_residual-in_err-told.result c.in_err-told.field-0.0 _ c.from_residual-in_err-told.ensures.1
    (inr (inl (
      value_of c.in_ok-rule.rule,
      in_parts c.args.inputs.now c.split_at_mut-texts.result.0.now c.split_at_mut-texts.result.1.now c.read_rule.new.texts
          c.read.new.inputs c.split_at_mut-texts.ensures.value c.in_ok-rule.ensures.read (subst Refused c.texts-2.ensures c.in_err-told.ensures.refused),
    )))

pub returns-in-Some-clause-refused : goal.returns-in-Some-clause-refused
returns-in-Some-clause-refused g c = inr (inr (record {
  rule = value_of c.in_ok-rule.rule;
  told = c.in_ok-told.told;
  read = in_parts c.args.inputs.now c.split_at_mut-texts.result.0.now c.split_at_mut-texts.result.1.now c.read_rule.new.texts
      c.read.new.inputs c.split_at_mut-texts.ensures.value c.in_ok-rule.ensures.read c.in_ok-told.ensures.read;
  why = c.in-Some.fault;
  is = refl;
  refused = sym c.rule_fault.ensures ∙ c.in-Some.is;
}))

pub returns-in-None-clause-read : goal.returns-in-None-clause-read
returns-in-None-clause-read g c = record {
  read = in_parts c.args.inputs.now c.split_at_mut-texts.result.0.now c.split_at_mut-texts.result.1.now c.read_rule.new.texts
      c.read.new.inputs c.split_at_mut-texts.ensures.value c.in_ok-rule.ensures.read c.in_ok-told.ensures.read;
  sound = sym c.rule_fault.ensures ∙ c.in-None.is;
}
