use Rattle.std.proofs.Common.{◌≡◌, ◌++◌, drop, length}
use Rattle.smp_bytes.specs.Text.{hex_text}
use Rattle.smp_bytes.proofs.guid.Guid.hex_digits.Given as goal

abbrev pub invariant-loop-index : goal.invariant-loop-index
invariant-loop-index l = record {
  whole : hex_text l.index l.rest ++ drop l.index l.digits ≡ hex_text 16 l.fn.self;
  width : length l.digits ≡ 16;
}
