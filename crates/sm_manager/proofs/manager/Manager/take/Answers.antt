-- A request for SMInfo is served.
use Rattle.std.proofs.Common.{◌≡◌, ℕ, true, List, sym, ◌∙◌, subst}
use Rattle.std.proofs.lemmas.Bool.{cond-true}
use Rattle.std.specs.Prelude.{Option, None, OnOk}
use Rattle.smp_bytes.specs.Judges.{JudgesButFor}
use Rattle.sm_manager.specs.Fault.{is_memory}
use Rattle.sm_manager.specs.Manager.{Manager}
use Rattle.sm_manager.specs.Packets.{Called, is_info_request, packet_taken, unless_spent}
use Rattle.sm_manager.specs.SmInfoAnswers.{served}
use Rattle.sm_manager.proofs.manager.Manager.take.Goals as goal

comes_to : (m : Manager) (packet : List ℕ) (from : Option ℕ) → is_info_request packet ≡ true
    → unless_spent m (served m packet from) ≡ packet_taken m packet from None
comes_to m packet from holds = sym (cond-true (is_info_request packet) _ _ holds)

pub returns-then-is_info_request-clause-judged : goal.returns-then-is_info_request-clause-judged
returns-then-is_info_request-clause-judged c =
    subst (λ (x : Called). JudgesButFor is_memory c.serve.result x.fault)
    (comes_to c.args.self.now c.args.smp.now c.args.from (sym c.is_info_request.ensures ∙ c.if-is_info_request.true)) c.serve.ensures.judged

pub returns-then-is_info_request-clause-ok : goal.returns-then-is_info_request-clause-ok
returns-then-is_info_request-clause-ok c =
    subst (λ (x : Called). OnOk c.serve.result (c.serve.new.self ≡ x.manager))
    (comes_to c.args.self.now c.args.smp.now c.args.from (sym c.is_info_request.ensures ∙ c.if-is_info_request.true)) c.serve.ensures.ok
