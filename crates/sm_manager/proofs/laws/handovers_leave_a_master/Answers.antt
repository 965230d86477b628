use Rattle.sm_manager.proofs.Handovers.{handovers_leave_a_master}
use Rattle.sm_manager.proofs.laws.handovers_leave_a_master.Goals as goal

pub returns : goal.returns
returns c = handovers_leave_a_master
