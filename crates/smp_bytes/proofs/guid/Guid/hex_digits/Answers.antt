use Rattle.std.proofs.Common.{◌∙◌, refl, ap, arith, length-set}
use Rattle.std.proofs.lemmas.List.{append-nil}
use Rattle.smp_bytes.specs.Text.{hex_text}
use Rattle.smp_bytes.proofs.HexText.{hex_text-index, hex_text-done}
use Rattle.smp_bytes.proofs.guid.Guid.hex_digits.Goals as goal

pub loop-index-init : goal.loop-index-init
loop-index-init c = record { whole = append-nil _ ∙ ap (hex_text 16) c.self.view_is; width = refl }

pub loop-index-preserved : goal.loop-index-preserved
loop-index-preserved c = record {
  whole = hex_text-index c.loop-index.index c.loop-index.rest c.loop-index.digits c.hex_digit.result c.loop-index-test.true (omega arith) c.hex_digit.ensures
      ∙ c.loop-index.invariant.whole;
  width = rw length-set c.loop-index.invariant.width;
}

pub returns : goal.returns
returns c = hex_text-done c.loop-index.index c.loop-index.rest c.loop-index.digits
    (hex_text 16 c.args.self) c.loop-index-test.false c.loop-index.invariant.whole
