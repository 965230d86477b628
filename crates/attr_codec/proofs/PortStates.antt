-- The number of a port's state fits its field.
use Rattle.std.proofs.Common.{◌<◌, arith}
use Rattle.attr_codec.specs.declared.port_state.PortState.{PortState}
use Rattle.attr_codec.specs.declared.port_state.PortState.TheVariants.{NoChange, Down, Initialize, Armed, Active}
use Rattle.attr_codec.specs.PortInfo.{number_of_state}

pub state_small : (s : PortState) → number_of_state s < 16
state_small NoChange = omega arith
state_small Down = omega arith
state_small Initialize = omega arith
state_small Armed = omega arith
state_small Active = omega arith
