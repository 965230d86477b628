use Rattle.sm_manager.specs.Packets.{after_timeout}
use Rattle.sm_manager.proofs.Refusals.{timeout_leaves}
use Rattle.acting_manager.proofs.Called.{called_with}
use Rattle.acting_manager.proofs.asks.time_out.Goals as goal

pub returns-clause-manager : goal.returns-clause-manager
returns-clause-manager c =
    let m = c.args.manager.now in
    let called = after_timeout m c.args.transaction in
    called_with c.on_timeout.result called c.is_done.result c.on_timeout.new.self m c.on_timeout.ensures.ok c.on_timeout.ensures.err (timeout_leaves m c.args.transaction) c.is_done.ensures.ok
    (c.is_done.ensures.judged called.fault c.on_timeout.ensures.judged)
