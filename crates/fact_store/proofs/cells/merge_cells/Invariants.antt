-- What is done of both, and what is left of each.
use Rattle.std.proofs.Common.{◌≡◌, ◌++◌, ◌+◌, [], length}
use Rattle.std.specs.Prelude.{None}
use Rattle.std.specs.Option.{option_to_list}
use Rattle.page_list.specs.Iter.{rest_of}
use Rattle.fact_store.proofs.Walks.{IsWalked}
use Rattle.fact_store.proofs.cells.merge_cells.Given as goal

abbrev pub invariant-loop-a : goal.invariant-loop-a
invariant-loop-a l =
    IsWalked l.fn.first.items l.fn.second.items l.cells.items (option_to_list l.a ++ rest_of l.left) (option_to_list l.b ++ rest_of l.right) l.steps
    × (l.a ≡ None → rest_of l.left ≡ [])
    × (l.b ≡ None → rest_of l.right ≡ [])

abbrev pub decreases-loop-a : goal.decreases-loop-a
decreases-loop-a l = length (option_to_list l.a ++ rest_of l.left) + length (option_to_list l.b ++ rest_of l.right)
