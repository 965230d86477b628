-- The tree that is written has no more switches than are usable, and each of them is usable.
use Rattle.std.proofs.Common.{◌≡◌, ◌≤◌, ℕ, Bool, true, false, List, [], cond, length, arith}
use Rattle.std.specs.Prelude.{Contains}
use Rattle.subnet_view.specs.Reading.{Cells, switches}
use Rattle.subnet_view.proofs.Members.{contains_none}
use Rattle.multicast_tree.specs.Tree.{TreePorts, tree_of}
use Rattle.multicast_tree.proofs.Switches.{tree_among, tree_fits}
use Rattle.plan_steps.specs.Planning.{Planning}
use Rattle.plan_steps.specs.PlannedTree.{planned_tree}

either_fits : (b : Bool) (tree : List TreePorts) (n : ℕ) → length tree ≡ n → length (cond b tree []) ≤ n
either_fits true tree n same = omega (arith, same)
either_fits false tree n same = omega arith

module _ (planning : Planning) (cells : Cells) where
  pub planned_tree_fits : length (planned_tree planning cells) ≤ length (switches cells)
  planned_tree_fits = either_fits planning.multicast _ _ (tree_fits planning.rule cells)

  pub planned_among : (x : TreePorts) → Contains (planned_tree planning cells) x → Contains (switches cells) x.guid
  planned_among x there = by_flag planning.multicast there
    where
      by_flag : (b : Bool) → Contains (cond b (tree_of planning.rule cells) []) x → Contains (switches cells) x.guid
      by_flag true h = tree_among planning.rule cells x h
      by_flag false h = absurd (contains_none x h)
