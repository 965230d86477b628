use Rattle.lane_channels.proofs.Fabrics.{lane_channels_rise}
use Rattle.lane_channels.proofs.laws.lane_channels_rise.Goals as goal

pub returns : goal.returns
returns c = record { law = lane_channels_rise }
