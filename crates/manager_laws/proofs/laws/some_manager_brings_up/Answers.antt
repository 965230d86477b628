use Rattle.manager_laws.proofs.WritingExample.{some_manager_brings_up}
use Rattle.manager_laws.proofs.laws.some_manager_brings_up.Goals as goal

pub returns : goal.returns
returns c = some_manager_brings_up
