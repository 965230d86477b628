use Rattle.sm_manager.proofs.Answered as answered
use Rattle.sm_manager.proofs.laws.written_is_each_step_done.Goals as goal

pub returns : goal.returns
returns c = answered.written_is_each_step_done
