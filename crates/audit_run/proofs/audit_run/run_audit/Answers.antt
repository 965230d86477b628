-- The inputs were read, and what they say was audited.
use Rattle.std.proofs.Common.{inl, inr}
use Rattle.std.proofs.lemmas.Result.{IfErr-weaker, IfOk-weaker}
use Rattle.sm_cli.proofs.HandedOn.{handed_on}
use Rattle.audit_run.proofs.audit_run.run_audit.Goals as goal

pub returns-clause-done : goal.returns-clause-done
returns-clause-done g c =
    IfOk-weaker c.answer.result _ _ (λ passed audited. record { told = c.in_ok-told.told; read = c.in_ok-told.ensures.read; audited = audited })
    c.answer.ensures.audited

pub returns-clause-refused : goal.returns-clause-refused
returns-clause-refused g c =
    IfErr-weaker c.answer.result _ _ (λ fault why. inr (record { told = c.in_ok-told.told; read = c.in_ok-told.ensures.read; why = why }))
    c.answer.ensures.refused

pub returns-in_err-told-clause-refused : goal.returns-in_err-told-clause-refused
returns-in_err-told-clause-refused g c =
    handed_on c.from_residual.result c.in_err-told.field-0.0 _ c.from_residual.ensures.1 (inl c.in_err-told.ensures.refused)
