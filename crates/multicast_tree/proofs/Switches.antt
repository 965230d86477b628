-- The switches of a tree are the usable ones.
use Rattle.std.proofs.Common.{◌≡◌, ℕ, ap, subst, length}
use Rattle.std.specs.Prelude.{Contains}
use Rattle.std.proofs.lemmas.List.{length-map}
use Rattle.subnet_view.specs.Graph.{graph_of}
use Rattle.subnet_view.specs.Reading.{Cells, switches}
use Rattle.subnet_view.proofs.Apart.{contains-from_map}
use Rattle.lft_blocks.specs.Rule.{RuleValue}
use Rattle.plan_order.specs.PlanOrder.{positions_by}
use Rattle.multicast_tree.specs.Tree.{TreePorts, parent_port, position_in, tree_at, tree_of}

module _ (rule : RuleValue) (cells : Cells) where
  at : ℕ → TreePorts
  at = tree_at cells (parent_port (graph_of cells) (position_in (switches cells) (positions_by rule cells)))

  -- as many as there are
  pub tree_fits : length (tree_of rule cells) ≡ length (switches cells)
  unfolding at
  tree_fits = length-map (switches cells) at

  -- each of them is usable
  pub tree_among : (x : TreePorts) → Contains (tree_of rule cells) x → Contains (switches cells) x.guid
  unfolding at
  tree_among x there =
      let (g, among, e) = contains-from_map at (switches cells) x there in subst (Contains (switches cells)) (ap (λ (t : TreePorts). t.guid) e) among
