use Rattle.std.proofs.Common.{Option, refl}
use Rattle.fact_store.specs.View.{cells_of}
use Rattle.sm_manager.specs.declared.fault.ManagerFault.{ManagerFault}
use Rattle.schedule_lines.specs.ManagerAsks.{plan_or_refusal}
use Rattle.schedule_lines.specs.Outcome.{Outcome, shows}
use Rattle.schedule_lines.proofs.Refused.{but_for_memory, refusal_prints, refuses}
use Rattle.schedule_lines.proofs.shown.show_plan.Goals as goal

pub returns-in-Err : goal.returns-in-Err
returns-in-Err g c =
    let m = c.args.manager.now in
    let u : Unit {0} = tt in
    let run : Option ManagerFault → Outcome (Unit {0}) = λ why. shows (plan_or_refusal m.planning (cells_of m.store) why) u in
    let refused = refuses c.in-Err.fault _ u run (λ fault. refl)
    (but_for_memory c.in-Err.fault _ c.in-Err.ensures.judged) in
    record {
      prints = refusal_prints g.W.Sink.written g.W.Sink.has_failed c.in-Err.fault u _ c.refuse_manager.result _ _ refused
          c.refuse_manager.ensures.memory c.refuse_manager.ensures.prints c.refuse_manager.ensures.unprinted;
    }
