-- The same items are left; each turn takes a page.
use Rattle.std.proofs.Common.{◌≡◌, length}
use Rattle.page_list.specs.Iter.{rest_of}
use Rattle.page_list.proofs.iter.IterIterator.next.Given as goal

abbrev pub invariant-loop-page : goal.invariant-loop-page
invariant-loop-page g l = rest_of l.self ≡ rest_of l.fn.self

abbrev pub decreases-loop-page : goal.decreases-loop-page
decreases-loop-page g l = length l.self.later.now
