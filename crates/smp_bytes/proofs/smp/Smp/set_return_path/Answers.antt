use Rattle.std.proofs.Common.{◌≡◌, ◌+◌, ◌∙◌, ap, arith, length, rules}
use Rattle.smp_bytes.specs.Packet.{fault_of}
use Rattle.smp_bytes.proofs.RequestLaws.{path_parses}
use Rattle.smp_bytes.proofs.smp.Smp.set_return_path.Goals as goal

pub invariant_of-self : goal.invariant_of-self
invariant_of-self c =
    let long : length c.self.inside.bytes ≡ 256 = search rules in
    ap fault_of c.put_u8.ensures ∙ path_parses (192 + c.args.i) _ c.self.inside.bytes long (omega arith) (omega (arith, c.requires)) c.self.invariant
