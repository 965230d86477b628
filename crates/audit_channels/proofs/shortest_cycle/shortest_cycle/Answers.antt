-- Each channel has been begun with.
use Rattle.std.proofs.Common.{arith}
use Rattle.audit_channels.proofs.Searches.{none_shorter}
use Rattle.audit_channels.proofs.shortest_cycle.shortest_cycle.Goals as goal

pub returns-clause-none_shorter : goal.returns-clause-none_shorter
returns-clause-none_shorter c =
    let count = c.len-first-end.ensures.count in
    none_shorter c.args.waits.now c.args.numbers.now c.loop-first.shortest.items c.requires.given
    (λ channel less none. c.loop-first.invariant.none channel (omega arith) none)
