-- The rule of the tree is the planning's.
use Rattle.std.proofs.Common.{[], cond, sym, ap, ◌∙◌}
use Rattle.std.proofs.lemmas.Result.{IfOk-weaker}
use Rattle.fact_store.specs.View.{cells_of}
use Rattle.lft_blocks.specs.Planning.{Planning}
use Rattle.multicast_tree.specs.Tree.{tree_of}
use Rattle.plan_steps.proofs.tree.planned_tree.Goals as goal

pub returns-then-planning : goal.returns-then-planning
returns-then-planning c =
    let cells = cells_of c.args.store.now in
    let rule = ap (λ (p : Planning). p.rule) c.planning.view_is in
    let written = sym (ap (λ (p : Planning). p.multicast) c.planning.view_is) ∙ c.if-planning.true in
    IfOk-weaker c.tree_by.result _ _ (λ tree h. h ∙ ap (λ r. tree_of r cells) rule ∙ sym (ap (λ b. cond b (tree_of c.args.planning.now.rule cells) []) written))
    c.tree_by.ensures
