-- Lists of the ports of candidates, by target.
use Rattle.std.specs.Prelude.{ℕ, List, [], ◌∷◌, ◌++◌, if◌then◌else◌}
use Rattle.spread_labels.specs.declared.target_set.TargetSet.{TargetSet}
use Rattle.spread_labels.specs.TargetSet.{has}

-- `list` with `port` appended if target `k` is in the set
abbrev pub added : TargetSet → ℕ → ℕ → List ℕ → List ℕ
added targets port k list = if has targets k then list ++ port ∷ [] else list
