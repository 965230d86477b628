use Rattle.std.proofs.Common.{◌∙◌, sym}
use Rattle.ibsm.proofs.Opened.{pushed}
use Rattle.ibsm.proofs.opener.AnyOpener.open_behind.Goals as goal

pub returns : goal.returns
returns g c = (c.new-2.result, tt, pushed _ _ _ _ c.push.ensures.items (sym c.is_err.ensures.value ∙ c.if-is_err.false))
