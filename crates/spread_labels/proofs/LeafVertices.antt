-- The vertices that have adapters are vertices.
use Rattle.std.proofs.Common.{◌<◌, ◌≤◌, ◌+◌, ℕ, zero, suc, List, All, arith, get_or, length}
use Rattle.std.proofs.lemmas.List.Elements.{All-cons, All-filter, All-nil}
use Rattle.std.specs.Prelude.{nat_lt}
use Rattle.spread_labels.specs.Leaves.{leaf_vertices}
use Rattle.spread_labels.specs.Orders.{numbers_from}

pub all_below : (n k m : ℕ) → k + m ≤ n → All (λ v. v < n) (numbers_from k m)
all_below n k zero h = All-nil (λ v. v < n)
all_below n k (suc m) h = All-cons (λ v. v < n) k (numbers_from (suc k) m) (omega arith) (all_below n (suc k) m (omega arith))

pub leaves_within : (adapters : List ℕ) → All (λ v. v < length adapters) (leaf_vertices adapters)
leaves_within adapters =
    let n = length adapters in
    All-filter (λ v. nat_lt 0 (get_or adapters v 0)) (λ v. v < n) (numbers_from 0 n) (all_below n 0 n (omega arith))
