-- Where the wires in the ports of a switch lead, up to the last port that has a wire.
use Rattle.std.specs.Prelude.{ℕ, ◌+◌, ◌-◌, List, ◌++◌, length, replicate}
use Rattle.held_tables.specs.declared.far_end.Far.{Far}
use Rattle.held_tables.specs.declared.far_end.Far.TheVariants.{Nothing, Switch, Port}

-- `fars`, extended to `count` ports; the added ports have no wire
abbrev pub padded : ℕ → List Far → List Far
padded count fars = fars ++ replicate (count - length fars) Nothing

-- among ports 0 to `port`, the number of ports up to the last one that has a wire; `count` is this number for the
-- ports before `port`
abbrev pub wired_more : Far → ℕ → ℕ → ℕ
wired_more Nothing port count = count
wired_more (Switch index) port count = port + 1
wired_more (Port e) port count = port + 1
