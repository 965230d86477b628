-- The attribute is that of paths.
use Rattle.std.proofs.Common.{◌≡◌, ◌∙◌, ap, false, rules, true}
use Rattle.std.specs.Prelude.{◌==◌}
use Rattle.smp_bytes.specs.Field.{bytes_in, number_in}
use Rattle.smp_bytes.specs.Packet.{attribute_id}
use Rattle.sa_bytes.specs.PathRecord.{path_record_in}
use Rattle.sa_bytes.specs.SaPacket.{component_mask, path_data}
use Rattle.sa_answers.specs.PathReply.{path_reply}
use Rattle.sa_answers.specs.Reply.{record_reply}
use Rattle.sa_answers.specs.Told.{value_of}
use Rattle.sa_answers.specs.declared.reply.Reply.TheVariants.{Info}
use Rattle.sa_answers.proofs.Choices.{second}
use Rattle.sa_answers.proofs.answer.reply_to_get.Goals as goal

pub returns-then-eq-2 : goal.returns-then-eq-2
returns-then-eq-2 c =
    let request = c.args.request.now in
    let n = number_in attribute_id request in
    let told = value_of c.args.told.now in
    let reply = path_reply told (number_in component_mask request) (path_record_in (bytes_in path_data request)) in
    let other : (n == 0x1) ≡ false = search rules in
    let this : (n == 0x35) ≡ true = search rules in
    let asked = c.decode.ensures.value ∙ ap path_record_in c.path_data.ensures in
    let made : c.path_reply.result ≡ reply = c.path_reply.ensures ∙ (λ i. path_reply told (c.component_mask.ensures i) (asked i)) in
    made ∙ second (n == 0x1) (n == 0x35) Info reply (record_reply told n request) other this
