use Rattle.std.proofs.Common.{◌≡◌, ◌∙◌, ap, arith, length, refl, rules}
use Rattle.smp_bytes.specs.Packet.{fault_of, method}
use Rattle.smp_bytes.proofs.RequestLaws.{field_parses}
use Rattle.smp_bytes.proofs.smp.Smp.set_method.Goals as goal

pub invariant_of-self : goal.invariant_of-self
invariant_of-self c =
    let long : length c.self.inside.bytes ≡ 256 = search rules in
    ap fault_of c.put_u8.ensures ∙ field_parses method c.args.to.0 c.self.inside.bytes long (omega arith) refl refl refl refl refl refl refl c.self.invariant
