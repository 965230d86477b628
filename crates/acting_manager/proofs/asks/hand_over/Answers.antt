use Rattle.sm_manager.specs.Election.{after_handover, handover_fault}
use Rattle.acting_manager.proofs.Called.{called_if}
use Rattle.acting_manager.proofs.asks.hand_over.Goals as goal

pub returns-clause-manager : goal.returns-clause-manager
returns-clause-manager c =
    let m = c.args.manager.now in
    called_if c.handover.result (handover_fault m) c.is_done.result c.handover.new.self m (after_handover m) c.handover.ensures.ok c.handover.ensures.err
    c.is_done.ensures.ok (c.is_done.ensures.judged (handover_fault m) c.handover.ensures.judged)
