use Rattle.plan_steps.proofs.WiredPorts.{wired_ports_law}
use Rattle.plan_steps.proofs.laws.wired_ports_are_listed_in_order.Goals as goal

pub returns : goal.returns
returns c = wired_ports_law
