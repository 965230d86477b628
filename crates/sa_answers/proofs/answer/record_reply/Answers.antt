-- The attribute is that of nodes or of ports.
use Rattle.std.proofs.Common.{◌≡◌, ◌∙◌, ap, cond, false, rules, true}
use Rattle.std.specs.Prelude.{◌==◌}
use Rattle.smp_bytes.specs.Field.{bytes_in, number_in}
use Rattle.attr_codec.specs.NodeInfo.{node_info_in}
use Rattle.sa_bytes.specs.SaPacket.{attribute_data, component_mask, lid_data, port_data}
use Rattle.sa_answers.specs.NodeReply.{node_reply}
use Rattle.sa_answers.specs.PortReply.{port_reply}
use Rattle.sa_answers.specs.Reply.{other_reply}
use Rattle.sa_answers.specs.Told.{value_of}
use Rattle.sa_answers.proofs.Choices.{first, second}
use Rattle.sa_answers.proofs.answer.record_reply.Goals as goal

pub returns-then-eq : goal.returns-then-eq
returns-then-eq c =
    let request = c.args.request.now in
    let n = c.args.attribute.0 in
    let told = value_of c.args.told.now in
    let mask = number_in component_mask request in
    let lid = number_in lid_data request in
    let info = node_info_in (bytes_in attribute_data request) in
    let this : (n == 0x11) ≡ true = search rules in
    let asked = c.decode.ensures.value ∙ ap node_info_in c.attribute_data.ensures in
    let made : c.node_reply.result ≡ node_reply told mask lid info =
    c.node_reply.ensures ∙ (λ i. node_reply told (c.component_mask.ensures i) (c.lid.ensures i) (asked i)) in
    made ∙ first (n == 0x11) (node_reply told mask lid info)
    (cond (n == 0x12) (port_reply told mask lid (number_in port_data request)) (other_reply told n request)) this

pub returns-then-eq-2 : goal.returns-then-eq-2
returns-then-eq-2 c =
    let request = c.args.request.now in
    let n = c.args.attribute.0 in
    let told = value_of c.args.told.now in
    let mask = number_in component_mask request in
    let lid = number_in lid_data request in
    let port = number_in port_data request in
    let info = node_info_in (bytes_in attribute_data request) in
    let other : (n == 0x11) ≡ false = search rules in
    let this : (n == 0x12) ≡ true = search rules in
    let made : c.port_reply.result ≡ port_reply told mask lid port =
    c.port_reply.ensures ∙ (λ i. port_reply told (c.component_mask-then-eq-2.ensures i) (c.lid-then-eq-2.ensures i) (c.port.ensures i)) in
    made ∙ second (n == 0x11) (n == 0x12) (node_reply told mask lid info) (port_reply told mask lid port) (other_reply told n request) other this
