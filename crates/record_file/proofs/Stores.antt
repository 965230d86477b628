-- A store that several lists of sightings were merged into, one after the other.
use Rattle.std.proofs.Common.{◌≡◌, ℕ, max, List, [], ◌++◌, sym, ap, ◌∙◌}
use Rattle.fact_join.specs.declared.cell.Cell.{Cell}
use Rattle.reply_facts.specs.declared.key.Key.{Key}
use Rattle.reply_facts.specs.declared.value.Value.{Value}
use Rattle.fact_store.specs.View.{Facts, no_facts, view, view_at}
use Rattle.fact_store.specs.Merge.{merge}
use Rattle.fact_store.proofs.Merges.{merge_empty, merge_is_associative, merge_is_commutative}
use Rattle.fact_store.proofs.Views.{view_of_both}

pub merge-nothing : (x : Facts) → merge x (view []) ≡ x
merge-nothing x = merge_is_commutative x no_facts ∙ merge_empty x

pub merge-floors : (x : Facts) (f g : ℕ) (s t : List (Key × Cell Value)) → merge (merge x (view_at f s)) (view_at g t) ≡ merge x (view_at (max f g) (s ++ t))
merge-floors x f g s t = merge_is_associative x (view_at f s) (view_at g t) ∙ ap (merge x) (sym (view_of_both f g s t))
