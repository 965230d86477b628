use Rattle.law_examples.proofs.Computed.{claims_are_kept}
use Rattle.law_examples.proofs.laws.claims_are_kept.Goals as goal

pub returns : goal.returns
returns c = record { law = claims_are_kept }
