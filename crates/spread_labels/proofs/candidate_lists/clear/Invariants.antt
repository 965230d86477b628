use Rattle.std.proofs.Common.{◌≡◌, ◌<◌, ℕ, [], map, get_or}
use Rattle.spread_labels.proofs.candidate_lists.clear.Given as goal

-- the lists so far are empty
abbrev pub invariant-loop-list : goal.invariant-loop-list
invariant-loop-list l = (k : ℕ) → k < l.list-index → get_or (map (λ list. list.items) l.lists) k [] ≡ []
