use Rattle.std.proofs.Common.{◌≡◌, ◌∙◌, ap, arith, length, refl, rules}
use Rattle.smp_bytes.specs.Packet.{fault_of, status_word}
use Rattle.smp_bytes.proofs.RequestLaws.{field_parses}
use Rattle.smp_bytes.proofs.smp.Smp.set_status.Goals as goal

pub invariant_of-self : goal.invariant_of-self
invariant_of-self c =
    let long : length c.self.inside.bytes ≡ 256 = search rules in
    ap fault_of c.put_u16.ensures ∙ field_parses status_word c.match-class.word c.self.inside.bytes long
    (omega arith) refl refl refl refl refl refl refl c.self.invariant
