-- The entries so far.
use Rattle.std.proofs.Common.{◌≡◌, ◌+◌, ◌*◌, ◌<◌, ℕ, get_or, length, map}
use Rattle.next_tables.specs.Assembly.{entry_in}
use Rattle.next_tables.proofs.assembly.block.Given as goal

abbrev pub invariant-loop-i : goal.invariant-loop-i
invariant-loop-i l =
    (length l.block ≡ 64) × ((k : ℕ) → k < l.i → get_or l.block k 0 ≡ entry_in (map (λ c. c.items) l.columns) l.index (64 * l.number + k))
