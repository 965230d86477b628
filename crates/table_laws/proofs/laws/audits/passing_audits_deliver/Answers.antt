use Rattle.table_laws.proofs.audits.Delivers.{passing_audits_deliver}
use Rattle.table_laws.proofs.laws.audits.passing_audits_deliver.Goals as goal

pub returns : goal.returns
returns c = record { law = passing_audits_deliver }
