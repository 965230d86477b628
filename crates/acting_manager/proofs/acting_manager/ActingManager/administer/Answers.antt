-- It is a request.
use Rattle.std.proofs.Common.{◌∙◌, List, ℕ, None, ap, cond, sym}
use Rattle.std.specs.Prelude.{option_map}
use Rattle.sa_answers.specs.Reply.{answer_to}
use Rattle.sa_bytes.specs.SaPacket.{is_sa_request}
use Rattle.acting_manager.specs.Acting.{value_of}
use Rattle.acting_manager.specs.Administration.{told_of}
use Rattle.acting_manager.proofs.Administering.{parsed}
use Rattle.acting_manager.proofs.acting_manager.ActingManager.administer.Goals as goal

pub returns-in-Some : goal.returns-in-Some
returns-in-Some c =
    let packet = c.args.packet.now in
    let told = told_of (value_of c.args.self.now) in
    let is = parsed (is_sa_request packet) packet c.in-Some.request (sym c.parse.ensures ∙ c.in-Some.is) in
    c.answer_told.ensures
    ∙ ap (λ (request : List ℕ). option_map (λ t. answer_to t request) told) (sym is.1)
    ∙ ap (λ b. cond b (option_map (λ t. answer_to t packet) told) None) (sym is.0)
