-- No field reaches behind the 21 bytes.
use Rattle.attr_codec.proofs.Respelled.{sm_info_spells}
use Rattle.attr_codec.proofs.laws.sm_info_is_spelled_by_its_fields.Goals as goal

pub returns : goal.returns
returns c = sm_info_spells
