use Rattle.std.proofs.Common.{ap, ◌==◌}
use Rattle.std.proofs.lemmas.Nat.Bits.{shr_and_one}
use Rattle.packet_walks.specs.LidSet.{has}
use Rattle.packet_walks.proofs.lid_set.LidSet.has.Goals as goal

pub returns : goal.returns
unfolding has
returns c = ap (λ n. n == 1) (shr_and_one c.args.self.bits c.args.index)
