use Rattle.sm_manager.specs.PlanFaults.{writing_fault}
use Rattle.sm_manager.specs.Writing.{after_write_steps}
use Rattle.acting_manager.proofs.Called.{called_if}
use Rattle.acting_manager.proofs.asks.write_steps.Goals as goal

pub returns-clause-manager : goal.returns-clause-manager
returns-clause-manager c =
    let m = c.args.manager.now in
    called_if c.write_steps.result (writing_fault m) c.is_done.result c.write_steps.new.self m (after_write_steps m) c.write_steps.ensures.ok c.write_steps.ensures.err
    c.is_done.ensures.ok (c.is_done.ensures.judged (writing_fault m) c.write_steps.ensures.judged)
