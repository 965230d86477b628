use Rattle.plan_steps.proofs.MaskBits.{masks_have_their_ports}
use Rattle.plan_steps.proofs.laws.masks_have_their_ports.Goals as goal

pub returns : goal.returns
returns c = masks_have_their_ports
