-- A way that delivers passes each switch once, and so ends within the bound.
use Rattle.fabric_model.proofs.Forwarded.{packets_end_once}
use Rattle.fabric_model.proofs.laws.packets_end_once.Goals as goal

pub returns : goal.returns
returns c = packets_end_once
