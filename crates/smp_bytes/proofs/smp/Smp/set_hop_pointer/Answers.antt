use Rattle.std.proofs.Common.{◌≡◌, ◌+◌, ◌≤◌, true, ◌∙◌, ap, arith, length, rules}
use Rattle.smp_bytes.specs.Field.{number_in}
use Rattle.smp_bytes.specs.Packet.{fault_of, hop_count, is_directed}
use Rattle.smp_bytes.proofs.RequestLaws.{hop_pointer_parses}
use Rattle.smp_bytes.proofs.smp.Smp.set_hop_pointer.Goals as goal

pub invariant_of-self : goal.invariant_of-self
invariant_of-self c =
    let long : length c.self.inside.bytes ≡ 256 = search rules in
    let within : is_directed c.self.inside.bytes ≡ true → c.args.to ≤ number_in hop_count c.self.inside.bytes + 1 = rw c.self.view_is c.requires in
    ap fault_of c.put_u8.ensures ∙ hop_pointer_parses c.self.inside.bytes c.args.to long (omega (arith, c.ranges.to)) within c.self.invariant
