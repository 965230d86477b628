use Rattle.std.proofs.Common.{◌≡◌, ◌∙◌, ap}
use Rattle.smp_bytes.specs.Field.{with_bytes}
use Rattle.smp_bytes.specs.Packet.{fault_of}
use Rattle.smp_bytes.specs.Requests.{lid_routed}
use Rattle.smp_bytes.proofs.RequestLaws.{lid_routed_parses}
use Rattle.smp_bytes.proofs.smp.Smp.lid_routed.Goals as goal

pub invariant_of-result : goal.invariant_of-result
invariant_of-result c =
    let made : c.put_bytes.new.bytes ≡ lid_routed c.args.method.0 c.args.attribute.0 c.args.modifier c.args.transaction_id c.args.payload.now =
    c.put_bytes.ensures ∙ ap (with_bytes 64 c.args.payload.now) c.request-bytes.ensures in
    ap fault_of made ∙ lid_routed_parses c.args.method.0 c.args.attribute.0 c.args.modifier c.args.transaction_id c.args.payload.now c.told-payload
