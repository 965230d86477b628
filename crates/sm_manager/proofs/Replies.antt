-- A reply to the sweep, by how the sweep judges it.
use Rattle.std.proofs.Common.{ℕ, List, refl, sym, ap, subst}
use Rattle.std.specs.Prelude.{Some, None, Result, Ok, Err}
use Rattle.std.specs.Result.{result_err}
use Rattle.request_table.proofs.Indices.{some_is}
use Rattle.smp_bytes.specs.Judges.{JudgesButFor}
use Rattle.sweep.specs.declared.answer.Answer.{Answer}
use Rattle.sweep.specs.declared.fault.SweepFault.{SweepFault}
use Rattle.sweep.specs.declared.fault.SweepFault.TheVariants.{NotOutstanding, Bad, SequenceSpent, Memory}
use Rattle.sweep.specs.Fault.{is_memory as sweep_memory}
use Rattle.sweep.specs.Sweep.{Sweep}
use Rattle.sm_manager.specs.declared.fault.ManagerFault.{ManagerFault}
use Rattle.sm_manager.specs.declared.fault.ManagerFault.TheVariants as fault
use Rattle.sm_manager.specs.Fault.{is_memory, refusal_of}
use Rattle.sm_manager.specs.Manager.{Manager}
use Rattle.sm_manager.specs.Packets.{answered_by, IsFaultWithoutRoom}

pub without_room : (m : Manager) (packet : List ℕ) (s : Sweep) (r : Result Answer SweepFault) (given : ManagerFault) → IsFaultWithoutRoom r given
    → JudgesButFor {T = Unit {0}} is_memory (Err given) (answered_by m s packet r).fault
without_room m packet s (Ok answer) given is = subst (λ g. JudgesButFor {T = Unit {0}} is_memory (Err g) None) (sym is) refl
without_room m packet s (Err why) given is = subst (λ g. JudgesButFor {T = Unit {0}} is_memory (Err g) (answered_by m s packet (Err why)).fault) (sym is) refl

-- a reply that the sweep refuses is refused for the same reason
pub refused_as : (m : Manager) (packet : List ℕ) (s : Sweep) (r : Result Answer SweepFault) (given : SweepFault)
    → JudgesButFor {T = Answer} sweep_memory (Err given) (result_err r)
    → JudgesButFor {T = Unit {0}} is_memory (Err (refusal_of given)) (answered_by m s packet r).fault
refused_as m packet s (Ok answer) NotOutstanding h = absurd (cc)
refused_as m packet s (Ok answer) (Bad why) h = absurd (cc)
refused_as m packet s (Ok answer) SequenceSpent h = absurd (cc)
refused_as m packet s (Ok answer) Memory h = refl
refused_as m packet s (Err first) NotOutstanding h = ap (λ (x : SweepFault). Some (fault.Sweep x)) (some_is _ _ h)
refused_as m packet s (Err first) (Bad why) h = ap (λ (x : SweepFault). Some (fault.Sweep x)) (some_is _ _ h)
refused_as m packet s (Err first) SequenceSpent h = ap (λ (x : SweepFault). Some (fault.Sweep x)) (some_is _ _ h)
refused_as m packet s (Err first) Memory h = absurd (cc)
