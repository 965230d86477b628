-- The wires are those of the store.
use Rattle.std.proofs.Common.{ap, ◌∙◌}
use Rattle.std.proofs.lemmas.Result.{IfOk-weaker}
use Rattle.fact_store.specs.View.{Facts, cells_of}
use Rattle.lft_blocks.specs.Rule.{value_of}
use Rattle.multicast_tree.specs.Tree.{tree_of}
use Rattle.plan_steps.proofs.tree.tree_by.Goals as goal

pub returns : goal.returns
returns c =
    IfOk-weaker c.plan_tree.result _ _ (λ tree h. h ∙ ap (λ (w : Facts). tree_of (value_of c.args.rule.now) (cells_of w)) c.in-Ok.ensures)
    c.plan_tree.ensures
