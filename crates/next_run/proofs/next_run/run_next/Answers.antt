-- The inputs were read, and the step goes on.
use Rattle.std.proofs.Common.{inl, inr}
use Rattle.std.proofs.lemmas.Result.{IfErr-weaker, IfOk-weaker}
use Rattle.lft_blocks.specs.Rule.{value_of}
use Rattle.sm_cli.proofs.HandedOn.{handed_on}
use Rattle.next_run.proofs.next_run.run_next.Goals as goal

pub returns-clause-done : goal.returns-clause-done
returns-clause-done g c =
    IfOk-weaker c.step.result _ _ (λ passed step. record {
      rule = value_of c.in_ok-rule.rule;
      told = c.in_ok-rule.found;
      inputs = c.in_ok-rule.ensures.read;
      so = step;
    }) c.step.ensures.done

pub returns-clause-refused : goal.returns-clause-refused
returns-clause-refused g c =
    IfErr-weaker c.step.result _ _ (λ fault why. inr (record {
      rule = value_of c.in_ok-rule.rule;
      told = c.in_ok-rule.found;
      inputs = c.in_ok-rule.ensures.read;
      so = why;
    })) c.step.ensures.refused

pub returns-in_err-rule-clause-refused : goal.returns-in_err-rule-clause-refused
returns-in_err-rule-clause-refused g c =
    handed_on c.from_residual.result c.in_err-rule.field-0.0 _ c.from_residual.ensures.1 (inl c.in_err-rule.ensures.refused)
