use Rattle.std.proofs.Common.{◌+◌, ◌*◌, rules}
use Rattle.std.proofs.lemmas.List.FromFn.{fill_by_all}
use Rattle.node_agents.specs.Agent.{entry_at}
use Rattle.schedule_lines.proofs.tables.block.Goals as goal

pub returns : goal.returns
returns c =
    let a = c.args in
    fill_by_all (λ i. entry_at a.agent.now (64 * a.b + i)) c.loop-i.block 64 0 c.loop-i.invariant.0 (search rules)
