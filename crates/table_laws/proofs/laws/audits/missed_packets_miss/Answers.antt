use Rattle.table_laws.proofs.audits.Delivers.{missed_packets_miss}
use Rattle.table_laws.proofs.laws.audits.missed_packets_miss.Goals as goal

pub returns : goal.returns
returns c = record { law = missed_packets_miss }
