use Rattle.request_window.proofs.Lives.{none_is_waited_for_too_long}
use Rattle.request_window.proofs.laws.none_is_waited_for_too_long.Goals as goal

pub returns : goal.returns
returns c = none_is_waited_for_too_long
