-- The reply to another request than one for SMInfo is judged by packet and context.
use Rattle.std.proofs.Common.{◌≡◌, ℕ, ◌^◌, ◌<◌, ◌≤◌, List, IfOk, ap, arith, sym, subst, ◌∙◌}
use Rattle.reply_facts.specs.declared.report_fault.ReportFault.{ReportFault}
use Rattle.reply_facts.specs.Report.{Sightings, reply_fault, sightings_by_packet}
use Rattle.smp_bytes.specs.Judges.{Judges}
use Rattle.std.specs.Prelude.{Option, nat_le, nat_lt}
use Rattle.std.proofs.lemmas.Bool.{and_parts, leb-true}
use Rattle.sweep.specs.declared.question.Question.TheVariants as ask
use Rattle.sweep.specs.declared.request.Request.{Request}
use Rattle.sweep.specs.Replies.{answer_for, fault_for, sightings_by}
use Rattle.sweep.specs.Sweep.{Sweep}
use Rattle.sweep.proofs.Judged.{fault_is_reply, sightings_of_reply}
use Rattle.sweep.proofs.sweep.Sweep.sightings_by.Goals as goal

pub returns-in_default : goal.returns-in_default
returns-in_default c =
    let s : Sweep = c.args.self.now in
    let packet : List ℕ = c.args.smp.now in
    let r : Request = c.args.request.now in
    let other : (guid port : ℕ) → r.question ≡ ask.Manager guid port → ⊥ = λ guid port e. c.in_default.not-Manager guid port e in
    let least : 1 ≤ s.generation = leb-true 1 s.generation (and_parts (nat_le 1 s.generation) (nat_lt s.generation (2 ^ 32)) c.requires.generation).0 in
    let positive : 0 < s.generation = omega (arith, least) in
    let judged : fault_for s r packet ≡ reply_fault r.context packet = fault_is_reply s r packet r.question other positive c.requires.packet in
    let sightings : sightings_by_packet c.self.inside.generation r.context packet ≡ sightings_by (answer_for s r packet) =
    ap (λ (v : Sweep). sightings_by_packet v.generation r.context packet) c.self.view_is ∙ sightings_of_reply s r packet r.question other in
    record {
      judged = subst (λ (f : Option ReportFault). Judges c.sightings_in.result f) (sym judged) c.sightings_in.ensures.judged;
      sightings = subst (λ (t : Sightings). IfOk c.sightings_in.result (λ sightings. sightings.items ≡ t)) sightings c.sightings_in.ensures.sightings;
    }
