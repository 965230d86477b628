use Rattle.subnet_view.proofs.Attachments.{attached_law}
use Rattle.subnet_view.proofs.laws.attachment_is_in_words.Goals as goal

pub returns : goal.returns
returns c = attached_law
