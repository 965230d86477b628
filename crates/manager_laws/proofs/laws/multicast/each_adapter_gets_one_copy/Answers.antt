use Rattle.manager_laws.proofs.MulticastHeld.{each_gets_one_copy}
use Rattle.manager_laws.proofs.laws.multicast.each_adapter_gets_one_copy.Goals as goal

pub returns : goal.returns
returns c = each_gets_one_copy
