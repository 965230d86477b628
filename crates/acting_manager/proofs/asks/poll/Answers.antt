use Rattle.std.proofs.Common.{None}
use Rattle.sm_manager.specs.Election.{after_poll, poll_fault}
use Rattle.acting_manager.proofs.Called.{called_if}
use Rattle.acting_manager.proofs.asks.poll.Goals as goal

pub returns-clause-manager : goal.returns-clause-manager
returns-clause-manager c =
    let m = c.args.manager.now in
    called_if c.poll.result (poll_fault m None) c.is_done.result c.poll.new.self m (after_poll m None) c.poll.ensures.ok c.poll.ensures.err
    c.is_done.ensures.ok (c.is_done.ensures.judged (poll_fault m None) c.poll.ensures.judged)
