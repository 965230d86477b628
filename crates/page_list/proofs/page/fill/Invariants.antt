-- All pages so far are empty, and no more than are wanted.
use Rattle.std.proofs.Common.{◌-◌, ◌≤◌, length, max}
use Rattle.std.specs.Prelude.{All}
use Rattle.page_list.specs.Pages.{IsEmptyPage}
use Rattle.page_list.proofs.page.fill.Given as goal

abbrev pub invariant-loop-alloc : goal.invariant-loop-alloc
invariant-loop-alloc g l =
    All IsEmptyPage l.spare.items × (length l.fn.spare.items ≤ length l.spare.items) × (length l.spare.items ≤ max l.n (length l.fn.spare.items))

abbrev pub decreases-loop-alloc : goal.decreases-loop-alloc
decreases-loop-alloc g l = l.n - length l.spare.items
