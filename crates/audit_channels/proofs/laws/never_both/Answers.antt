use Rattle.audit_channels.specs.Waiting.{WaitsFor}
use Rattle.audit_channels.proofs.Orders.{no_cycle}
use Rattle.audit_channels.proofs.laws.never_both.Goals as goal

pub returns : goal.returns
returns c = record { law = λ cells held cycle rise. no_cycle (WaitsFor cells held) rise cycle }
