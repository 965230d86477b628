use Rattle.std.proofs.Common.{◌≡◌, ◌++◌, map}
use Rattle.std.specs.List.{filter, range_with_len}
use Rattle.schedule_lines.proofs.Held.{is_held, held_at}
use Rattle.schedule_lines.proofs.tables.hold_lids.Given as goal

-- the ports so far
abbrev pub invariant-loop-port : goal.invariant-loop-port
invariant-loop-port l = l.held.items ≡ l.initial.held.items ++ filter is_held (map (held_at l.agent) (range_with_len 0 l.port))
