-- By what the audit says, and the lanes.
use Rattle.audit_run.proofs.audit_run.has_nothing_to_find.Goals as goal

pub returns-then-can_rise : goal.returns-then-can_rise
returns-then-can_rise c = λ carries. (c.can_rise.ensures.0 c.if-can_rise.true, c.carries_all.ensures.carried carries)
