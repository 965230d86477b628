use Rattle.audit_report.proofs.Missing.{plan_whole}
use Rattle.table_laws.proofs.audits.PlansArrive.{plans_arrive}
use Rattle.table_laws.proofs.audits.PlansRise.{plans_rise}
use Rattle.table_laws.proofs.laws.audits.plans_pass.Goals as goal

pub returns : goal.returns
returns c = record {
  law = λ rule lmc facts range room clear. record {
    whole = plan_whole rule lmc facts room clear;
    sound = record { arrive = plans_arrive rule lmc facts range room; rise = plans_rise rule lmc facts range room };
  };
}
