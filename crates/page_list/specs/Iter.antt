-- What an iterator over a list in pages has left.
use Rattle.std.specs.Prelude.{List, ◌++◌}
use Rattle.page_list.specs.declared.iter.Iter.{Iter}
use Rattle.page_list.specs.Pages.{items_of}

-- the items that the iterator `it` has not passed, in the order of the list
abbrev pub rest_of : {T : Type 0} → Iter T → List T
rest_of it = it.page.now ++ items_of it.later.now
