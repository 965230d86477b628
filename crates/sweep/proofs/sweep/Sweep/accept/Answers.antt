-- The request of the index is the one that the packet answers, and the answer to it is that of its report.
use Rattle.std.proofs.Common.{◌≡◌, ℕ, ◌+◌, ◌^◌, ◌≤◌, List, length, ap, refl, sym, subst, ◌∙◌, arith}
use Rattle.std.specs.Prelude.{Some, None, Ok, option_copied, slice_get}
use Rattle.request_table.specs.Numbers.{IsIndexFor}
use Rattle.sweep.specs.declared.answer.Answer.{Answer}
use Rattle.sweep.specs.declared.finding.Finding.{Finding}
use Rattle.sweep.specs.declared.request.Request.{Request}
use Rattle.sweep.specs.Finding.{IsWithinReach, finding}
use Rattle.sweep.specs.Questions.{questions}
use Rattle.sweep.specs.Replies.{answer_by, answer_for, fault_for, report_for, request_of, sightings_by}
use Rattle.sweep.specs.Sweep.{Sweep}
use Rattle.sweep.proofs.Few.{within_reach}
use Rattle.sweep.proofs.Judged.{few_asked, judged_ok}
use Rattle.sweep.proofs.sweep.Sweep.accept.Goals as goal

pub returns-clause-ok : goal.returns-clause-ok
returns-clause-ok c =
    let s : Sweep = c.args.self.now in
    let packet : List ℕ = c.args.smp.now in
    let r : Request = c.unwrap-request.result.now in
    let at : slice_get s.outstanding c.in-Some.index ≡ Some r =
    ap (λ (v : Sweep). slice_get v.outstanding c.in-Some.index) (sym c.self.view_is) ∙ sym c.get.ensures
    ∙ ap (option_copied {T = Request}) c.unwrap-request.ensures in
    let there : IsIndexFor (request_of s packet) s.outstanding (Some c.in-Some.index) =
    subst (λ (v : Sweep). IsIndexFor (request_of v packet) v.outstanding (Some c.in-Some.index)) c.self.view_is c.in-Some.ensures in
    let waits : request_of s packet ≡ Some r = there.2 ∙ sym there.1 ∙ at in
    let same : c.number.result ≡ s.generation = c.number.ensures.value ∙ ap (λ (v : Sweep). v.generation) c.self.view_is in
    let taken : fault_for s r packet ≡ None = c.in-Ok.ensures.judged in
    let found : c.finding-finding.result ≡ finding s r packet = c.finding-finding.ensures in
    let count : c.question_count.result ≡ length (questions r.path (finding s r packet)) =
    c.question_count.ensures.count r.path ∙ ap (λ (f : Finding). length (questions r.path f)) found in
    let next : c.next.result ≡ s.next = c.next.ensures ∙ ap (λ (v : Sweep). v.next) c.self.view_is in
    let fits : s.next + length (questions r.path (finding s r packet)) ≤ 2 ^ 32 = omega (arith, count, next, c.if-next-question_count-gt4294967296.false) in
    let bytes : c.bytes-bytes.result.now ≡ packet = c.bytes-bytes.ensures.bytes in
    let report : report_for s r packet ≡ record { generation = c.number.result; context = r.context; bytes = c.bytes-bytes.result.now } =
    λ i. record { generation = sym same i; context = r.context; bytes = sym bytes i } in
    let answer : answer_for s r packet ≡ c.answer_by.result = ap (answer_by r.question) report ∙ sym c.answer_by.ensures in
    record {
      request = r;
      waits = at;
      belongs = waits;
      question = refl;
      context = refl;
      finding = found;
      reach = subst (IsWithinReach r.path) (sym found) (within_reach s r packet);
      few = subst (λ (f : Finding). length (questions r.path f) ≤ 256) (sym found) (few_asked s packet r waits taken);
      number = subst (λ (f : Finding). s.next + length (questions r.path f) ≤ 2 ^ 32) (sym found) fits;
      answer = judged_ok s packet r waits taken c.bytes-bytes.ensures.parses fits ∙ ap (λ (a : Answer). Ok a) answer;
      sightings = c.in-Ok.ensures.sightings ∙ ap sightings_by answer;
    }
