use Rattle.sm_cli.proofs.OrderTexts.{printed_orders_stand}
use Rattle.sm_cli.proofs.laws.printed_orders_stand.Goals as goal

pub returns : goal.returns
returns c = printed_orders_stand
