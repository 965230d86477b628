use Rattle.std.proofs.Common.{◌<◌, ◌^◌, rules}
use Rattle.smp_bytes.proofs.HexText.{padded_integral-hex}
use Rattle.smp_bytes.proofs.guid.GuidDisplay.fmt.Goals as goal

pub returns-clause-writes : goal.returns-clause-writes
returns-clause-writes g c = let fits : c.args.self.now < 2 ^ 64 = search rules in rw (← padded_integral-hex c.args.self.now fits) (search rules)
