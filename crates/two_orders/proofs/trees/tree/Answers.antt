-- By the earliest vertex beside each.
use Rattle.std.proofs.Common.{◌≡◌, ◌∙◌, ℕ, List, subst}
use Rattle.std.specs.Prelude.{IfOk}
use Rattle.two_orders.specs.Trees.{tree, tree_by}
use Rattle.two_orders.proofs.trees.tree.Goals as goal

pub returns : goal.returns
unfolding tree
returns c =
    subst (λ (xs : List ℕ). IfOk c.tree_by.result (λ found. found ≡ tree_by c.args.edges.now xs))
    (c.deref.ensures.value ∙ c.in_ok-earliest.ensures) c.tree_by.ensures
