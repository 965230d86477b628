-- The fields stand side by side from the first byte on.
use Rattle.attr_codec.proofs.Respelled.{sm_info_keeps}
use Rattle.attr_codec.proofs.laws.sm_info_keeps_its_fields.Goals as goal

pub returns : goal.returns
returns c = sm_info_keeps
