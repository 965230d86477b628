use Rattle.std.proofs.Common.{◌≡◌, map, take}
use Rattle.std.specs.List.{filter}
use Rattle.node_agents.specs.Agent.{is_switch}
use Rattle.schedule_lines.proofs.tables.switches.Given as goal

-- the nodes so far
abbrev pub invariant-loop-number : goal.invariant-loop-number
invariant-loop-number l = map (λ agent. agent.now) l.switches.items ≡ filter is_switch (take l.number l.fabric.agents)
