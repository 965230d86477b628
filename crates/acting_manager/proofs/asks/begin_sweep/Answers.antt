use Rattle.sm_manager.specs.Manager.{after_begin_sweep, begin_fault}
use Rattle.acting_manager.proofs.Called.{called_if}
use Rattle.acting_manager.proofs.asks.begin_sweep.Goals as goal

pub returns-clause-manager : goal.returns-clause-manager
returns-clause-manager c =
    let m = c.args.manager.now in
    called_if c.begin_sweep.result (begin_fault m) c.is_done.result c.begin_sweep.new.self m (after_begin_sweep m) c.begin_sweep.ensures.ok c.begin_sweep.ensures.err
    c.is_done.ensures.ok (c.is_done.ensures.judged (begin_fault m) c.begin_sweep.ensures.judged)
