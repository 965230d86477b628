-- The greatest of some numbers, and their mean.
use Rattle.std.specs.Prelude.{◌≡◌, ◌+◌, ◌*◌, ◌/◌, ◌==◌, ℕ, List, [], ◌∷◌, Option, None, Some, length, max, sum, if◌then◌else◌}
use Rattle.audit_ways.specs.declared.mean.Figures.{Figures}
use Rattle.audit_ways.specs.declared.mean.Total.{Total}

-- the greatest number, 0 if there is none
abbrev pub greatest : List ℕ → ℕ
greatest [] = 0
greatest (n ∷ ns) = max n (greatest ns)

-- the figures of `count` numbers with the sum `sum` and the greatest number `most`: `most`, and a hundred times the
-- mean, rounded down; None if `count` is 0
abbrev pub figures_by : ℕ → ℕ → ℕ → Option Figures
figures_by count sum most = if count == 0 then None else Some (record { most = most; hundredths = 100 * sum / count })

-- the greatest of `ns`, and a hundred times their mean, rounded down; None if there are none
abbrev pub figures_of : List ℕ → Option Figures
figures_of ns = figures_by (length ns) (sum ns) (greatest ns)

-- `total` has the count, the sum and the greatest of the numbers `ns`
pub record IsTotal (ns : List ℕ) (total : Total) : Type 0 where
  pub count : total.count ≡ length ns
  pub sum : total.sum ≡ sum ns
  pub most : total.most ≡ greatest ns

-- `new` is the total `old` with `number` counted `times` times more
pub record IsTotalWith (old : Total) (number times : ℕ) (new : Total) : Type 0 where
  pub count : new.count ≡ old.count + times
  pub sum : new.sum ≡ old.sum + times * number
  pub most : new.most ≡ max old.most number
