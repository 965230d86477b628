use Rattle.audit_channels.proofs.Fabrics.{channels_rise}
use Rattle.audit_channels.proofs.laws.channels_rise.Goals as goal

pub returns : goal.returns
returns c = record { law = channels_rise }
