-- A reply is judged by the sweep, also where there is no room for what it brings up.
use Rattle.std.proofs.Common.{◌≡◌, sym, ap, ◌∙◌, subst}
use Rattle.std.specs.Prelude.{Some, Err}
use Rattle.sweep.specs.Replies.{judged}
use Rattle.smp_bytes.specs.Judges.{JudgesButFor}
use Rattle.sm_manager.specs.declared.fault.ManagerFault.{ManagerFault}
use Rattle.sm_manager.specs.Fault.{is_memory, refusal_of}
use Rattle.sm_manager.specs.Manager.{Manager}
use Rattle.sm_manager.specs.Packets.{Called, sweep_answered}
use Rattle.sm_manager.proofs.Replies.{refused_as, without_room}
use Rattle.sm_manager.proofs.manager.Manager.take_reply.Goals as goal

pub returns-then-is_err-clause-judged : goal.returns-then-is_err-clause-judged
returns-then-is_err-clause-judged c =
    let m = c.args.self.now in
    let bytes = c.args.smp.now in
    let s = c.in-Some.sweep in
    let there : m.sweep ≡ Some s = ap (λ (x : Manager). x.sweep) (sym c.self.view_is) ∙ c.in-Some.is in
    subst (λ (x : Called). JudgesButFor {T = Unit {0}} is_memory (Err c.fault_without_room.result) x.fault) (sym (ap (sweep_answered m bytes) there))
    (without_room m bytes s (judged s bytes) c.fault_without_room.result c.fault_without_room.ensures)

pub returns-in-Err-clause-judged : goal.returns-in-Err-clause-judged
returns-in-Err-clause-judged c =
    let m = c.args.self.now in
    let packet = c.args.smp.now in
    let s = c.in-Some.sweep in
    let there : m.sweep ≡ Some s = ap (λ (x : Manager). x.sweep) (sym c.self.view_is) ∙ c.in-Some.is in
    subst (λ (given : ManagerFault). JudgesButFor {T = Unit {0}} is_memory (Err given) (sweep_answered m packet m.sweep).fault) (sym c.refusal_of.ensures)
    (subst (λ (x : Called). JudgesButFor {T = Unit {0}} is_memory (Err (refusal_of c.in-Err.fault)) x.fault) (sym (ap (sweep_answered m packet) there))
    (refused_as m packet s (judged s packet) c.in-Err.fault c.in-Err.ensures.judged))
