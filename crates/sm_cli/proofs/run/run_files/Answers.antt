-- The inputs were read, by the rule that is asked for.
use Rattle.std.proofs.Common.{inl, inr, subst}
use Rattle.std.proofs.lemmas.Result.{IfErr-weaker, on_ok_weaker}
use Rattle.lft_blocks.specs.Rule.{value_of}
use Rattle.sm_cli.specs.InputReaders.{files_reader}
use Rattle.sm_cli.specs.Inputs.{AreInputs, IsInputFault}
use Rattle.sm_cli.specs.declared.asked.RuleAsked.{RuleAsked}
use Rattle.sm_cli.proofs.HandedOn.{handed_on}
use Rattle.sm_cli.proofs.run.run_files.Goals as goal

pub returns-clause-done : goal.returns-clause-done
returns-clause-done g c =
    let Read : RuleAsked → Type 0 = λ asked. AreInputs g.S.Source.state (files_reader g.S.Source.state c.args.request.floor) asked c.args.inputs.now
    c.read_inputs.new.inputs (value_of c.in_ok-rule.rule) c.in_ok-rule.store in
    on_ok_weaker c.write_answer.result (λ answer. record {
      rule = value_of c.in_ok-rule.rule;
      told = c.in_ok-rule.store;
      inputs = subst Read c.rule.ensures c.in_ok-rule.ensures.read;
      so = answer;
    }) c.write_answer.ensures.done

pub returns-clause-refused : goal.returns-clause-refused
returns-clause-refused g c =
    let Read : RuleAsked → Type 0 = λ asked. AreInputs g.S.Source.state (files_reader g.S.Source.state c.args.request.floor) asked c.args.inputs.now
    c.read_inputs.new.inputs (value_of c.in_ok-rule.rule) c.in_ok-rule.store in
    IfErr-weaker c.write_answer.result _ _ (λ fault why. inr (record {
      rule = value_of c.in_ok-rule.rule;
      told = c.in_ok-rule.store;
      inputs = subst Read c.rule.ensures c.in_ok-rule.ensures.read;
      so = why;
    })) c.write_answer.ensures.refused

pub returns-in_err-rule-clause-refused : goal.returns-in_err-rule-clause-refused
returns-in_err-rule-clause-refused g c =
    let state = g.S.Source.state in
    let fault = c.in_err-rule.field-0.0 in
    let Refused : RuleAsked → Type 0 = λ asked. IsInputFault state (files_reader state c.args.request.floor) asked c.args.inputs.now
    c.read_inputs.new.inputs fault in
    handed_on c.from_residual.result fault _ c.from_residual.ensures.1
    (inl (subst Refused c.rule.ensures c.in_err-rule.ensures.refused))
