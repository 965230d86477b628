-- No field reaches behind the 40 bytes.
use Rattle.attr_codec.proofs.Respelled.{node_info_spells}
use Rattle.attr_codec.proofs.laws.node_info_is_spelled_by_its_fields.Goals as goal

pub returns : goal.returns
returns c = node_info_spells
