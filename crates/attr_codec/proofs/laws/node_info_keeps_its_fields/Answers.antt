-- The fields stand side by side from the first byte on.
use Rattle.attr_codec.proofs.Respelled.{node_info_keeps}
use Rattle.attr_codec.proofs.laws.node_info_keeps_its_fields.Goals as goal

pub returns : goal.returns
returns c = node_info_keeps
