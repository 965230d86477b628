use Rattle.table_laws.proofs.audits.Known.{passing_audits_know_all}
use Rattle.table_laws.proofs.laws.audits.passing_audits_know_all.Goals as goal

pub returns : goal.returns
returns c = record { law = passing_audits_know_all }
