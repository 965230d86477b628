use Rattle.std.proofs.Common.{◌≡◌, map, take}
use Rattle.held_tables.specs.Switches.{node_by}
use Rattle.held_tables.proofs.audited_switch.nodes.Given as goal

-- the switches so far
abbrev pub invariant-loop-switch : goal.invariant-loop-switch
invariant-loop-switch l = l.nodes.items ≡ map (node_by l.held) (take l.switch-index l.switches)
