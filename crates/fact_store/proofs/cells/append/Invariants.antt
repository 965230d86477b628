-- Those put at the end so far, and those that are left.
use Rattle.std.proofs.Common.{◌≡◌, ◌++◌}
use Rattle.std.specs.Option.{option_to_list}
use Rattle.page_list.specs.Iter.{rest_of}
use Rattle.fact_store.proofs.cells.append.Given as goal

abbrev pub invariant-loop-x : goal.invariant-loop-x
invariant-loop-x l = l.cells.items ++ rest_of l.x-iterator ≡ l.fn.cells.items ++ option_to_list l.fn.first ++ rest_of l.fn.others
