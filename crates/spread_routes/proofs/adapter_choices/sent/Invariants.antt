use Rattle.std.proofs.Common.{◌≡◌, take}
use Rattle.spread_routes.proofs.adapter_choices.sent.Given as goal

-- what the positions so far send
abbrev pub invariant-loop-count : goal.invariant-loop-count
invariant-loop-count l = l.sent.items ≡ take l.count-index l.adapters
