use Rattle.std.proofs.Common.{arith}
use Rattle.smp_bytes.proofs.BitLaws.{replaced_fits}
use Rattle.smp_bytes.proofs.Shifts.{shifted}
use Rattle.smp_bytes.proofs.wire.replaced.Goals as goal

pub overflow_cast-result : goal.overflow_cast-result
overflow_cast-result c =
    omega (
      arith,
      shifted c.args.shift c.args.width c.args.number c.args.byte c.requires.byte c.requires.within c.requires.fits,
      replaced_fits
          (record { at = 0; shift = c.args.shift; width = c.args.width }) c.args.number c.args.byte c.requires.byte c.requires.fits c.requires.within,
    )

pub returns : goal.returns
returns c = shifted c.args.shift c.args.width c.args.number c.args.byte c.requires.byte c.requires.within c.requires.fits
