use Rattle.sm_manager.specs.Election.{after_yield, yield_fault}
use Rattle.acting_manager.proofs.Called.{called_if}
use Rattle.acting_manager.proofs.asks.yield_up.Goals as goal

pub returns-clause-manager : goal.returns-clause-manager
returns-clause-manager c =
    let m = c.args.manager.now in
    called_if c.yield_up.result (yield_fault m) c.is_done.result c.yield_up.new.self m (after_yield m) c.yield_up.ensures.ok c.yield_up.ensures.err
    c.is_done.ensures.ok (c.is_done.ensures.judged (yield_fault m) c.yield_up.ensures.judged)
