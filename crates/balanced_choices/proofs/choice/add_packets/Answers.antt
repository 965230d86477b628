use Rattle.std.proofs.Common.{sym, arith}
use Rattle.balanced_choices.specs.EdgesTaken.{way_by}
use Rattle.balanced_choices.proofs.NoPackets.{none_added}
use Rattle.balanced_choices.proofs.choice.add_packets.Goals as goal

pub returns-else-added-gt0 : goal.returns-else-added-gt0
returns-else-added-gt0 c =
    sym (none_added c.args.added c.args.loads.now (way_by c.args.taken.now c.args.position) (omega (arith, c.if-added-gt0.false))
    (λ k. let fits = c.type_inv.loads k in omega (arith, fits)))
