use Rattle.std.proofs.Common.{◌≡◌, ◌∙◌, List, ap, subst}
use Rattle.std.specs.Prelude.{IfOk}
use Rattle.fact_store.specs.View.{cells_of}
use Rattle.multicast_tree.specs.Tree.{TreePorts, tree_in}
use Rattle.multicast_tree.proofs.tree.plan_tree.Goals as goal

pub returns : goal.returns
returns c =
    let found = c.in_ok-positions.ensures in
    let same = ap (tree_in (cells_of c.args.wired.now.wires.now)) (c.deref.ensures.value ∙ found) in
    subst (λ (t : List TreePorts). IfOk c.tree_in.result (λ tree. tree.items ≡ t)) same c.tree_in.ensures
