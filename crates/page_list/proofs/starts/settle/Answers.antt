-- Where nothing is added the numbers are what they are with it.
use Rattle.std.proofs.Common.{ℕ, List, get_or, sym, ap, ◌∙◌}
use Rattle.page_list.proofs.Raised.{raised-none}
use Rattle.page_list.proofs.starts.settle.Goals as goal

pub returns-else-has_any-clause-sums : goal.returns-else-has_any-clause-sums
returns-else-has_any-clause-sums c =
    sym (raised-none c.args.added.now.items (λ k. ap (λ (a : List ℕ). get_or a k 0) (sym c.deref.ensures.value)
    ∙ c.has_any.ensures.0 c.if-has_any.false k) 0 c.args.numbers.now.items)
