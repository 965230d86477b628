-- By what is asked of the switch.
use Rattle.std.proofs.Common.{ap}
use Rattle.held_tables.specs.Switches.{switch_over}
use Rattle.lane_channels.proofs.stop.stop_over.Goals as goal

pub stop_at-requires : goal.stop_at-requires
stop_at-requires c = c.requires c.in-Switch.index (ap switch_over c.in-Switch.is)
