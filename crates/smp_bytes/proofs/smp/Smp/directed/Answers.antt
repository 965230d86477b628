use Rattle.std.proofs.Common.{rules, ◌≡◌, ◌∙◌, ap, arith}
use Rattle.smp_bytes.specs.Packet.{fault_of}
use Rattle.smp_bytes.specs.Requests.{directed}
use Rattle.smp_bytes.proofs.RequestLaws.{directed_parses}
use Rattle.smp_bytes.proofs.smp.Smp.directed.Goals as goal

pub invariant_of-result : goal.invariant_of-result
invariant_of-result c =
    let made : c.put_bytes-2.new.bytes ≡ directed c.args.method.0 c.args.attribute.0 c.args.modifier c.args.transaction_id c.args.path.now c.args.payload.now =
    search rules in
    ap fault_of made
    ∙ directed_parses c.args.method.0 c.args.attribute.0 c.args.modifier c.args.transaction_id c.args.path.now c.args.payload.now c.told-payload
    (omega (arith, c.len.ensures.within, c.len.ensures.exact))
