use Rattle.manager_laws.proofs.MulticastArrives.{each_gets_one_copy_once_taken}
use Rattle.manager_laws.proofs.laws.multicast.each_adapter_gets_one_copy_once_taken.Goals as goal

pub returns : goal.returns
returns c = each_gets_one_copy_once_taken
