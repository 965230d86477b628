use Rattle.std.proofs.Common.{rules, ◌≡◌, ◌∙◌, ap, length}
use Rattle.smp_bytes.specs.Field.{with_bytes, with_number}
use Rattle.smp_bytes.specs.Packet.{fault_of, method, status_word}
use Rattle.smp_bytes.proofs.RequestLaws.{answer_parses}
use Rattle.smp_bytes.proofs.smp.Smp.answer.Goals as goal

pub invariant_of-result : goal.invariant_of-result
invariant_of-result c =
    let made : c.put_bytes.new.bytes ≡ with_bytes 64 c.args.payload.now
    (with_number status_word c.match-class.status (with_number method 0x81 c.self.inside.bytes)) = search rules in
    let long : length c.self.inside.bytes ≡ 256 = search rules in
    ap fault_of made ∙ answer_parses c.self.inside.bytes c.args.payload.now c.match-class.status long c.told-payload c.self.invariant
