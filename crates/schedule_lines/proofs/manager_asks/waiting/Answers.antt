use Rattle.std.proofs.Common.{◌≡◌, ◌∙◌, ◌≤◌, ◌<◌, length, take, arith}
use Rattle.sm_manager.specs.Manager.{outstanding}
use Rattle.schedule_lines.proofs.Waits.{waits_more}
use Rattle.schedule_lines.proofs.manager_asks.waiting.Goals as goal

-- one more is there
more : (c : goal.In_ok-push) → (c.push.new.self.items ≡ take (length c.push.new.self.items) (outstanding c.args.manager.now))
    × (length c.push.new.self.items ≤ length (outstanding c.args.manager.now))
    × (length c.loop-transaction.waiting.items < length c.push.new.self.items)
more c =
    waits_more (outstanding c.args.manager.now) c.loop-transaction.waiting.items c.push.new.self.items c.len.result c.in-Some.transaction
    c.loop-transaction.invariant.0 (c.len.ensures ∙ c.loop-transaction.waiting.ok.0) c.in-Some.ensures c.in_ok-push.ensures.items

pub loop-transaction-preserved : goal.loop-transaction-preserved
loop-transaction-preserved c = ((more c).0, (more c).1)

pub loop-transaction-smaller : goal.loop-transaction-smaller
loop-transaction-smaller c =
    let most = (more c).1 in
    let longer = (more c).2 in
    omega (arith, most, longer)
