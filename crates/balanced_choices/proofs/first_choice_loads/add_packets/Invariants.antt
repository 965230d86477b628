use Rattle.std.proofs.Common.{◌≡◌, drop}
use Rattle.balanced_choices.specs.Loads.{loads_with_all}
use Rattle.balanced_choices.proofs.first_choice_loads.add_packets.Given as goal

-- the destinations that are left add the rest
abbrev pub invariant-loop-k : goal.invariant-loop-k
invariant-loop-k l =
    loads_with_all l.graph l.sent l.digits l.loads (drop l.k l.destinations)
    ≡ loads_with_all l.graph l.sent l.digits l.fn.loads l.destinations
