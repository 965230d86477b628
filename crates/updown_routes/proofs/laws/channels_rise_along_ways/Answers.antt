use Rattle.updown_routes.proofs.RisingChannels.{channel_law}
use Rattle.updown_routes.proofs.laws.channels_rise_along_ways.Goals as goal

pub returns : goal.returns
returns c = channel_law
