-- Next tables with the same LIDs, tops and entries are the same.
use Rattle.std.proofs.Common.{◌≡◌, ℕ, suc, ◌+◌, ◌*◌, List, [], ◌∷◌, Some, refl}
use Rattle.std.specs.Prelude.{map, slice_get}
use Rattle.std.specs.List.{range_with_len}
use Rattle.subnet_view.specs.Reading.{Cells, switches}
use Rattle.lft_blocks.specs.Entries.{block_count}
use Rattle.lft_blocks.specs.Plan.{SwitchTable}
use Rattle.held_tables.specs.Held.{HeldPlan}
use Rattle.plan_tables.specs.PlanTables.{blocks_of}
use Rattle.next_tables.specs.NextTables.{StepRuleValue, next_at, next_switch, next_table, next_tables, next_top}

pub same_mapped : {X : Type 0} (f h : ℕ → X) (xs : List ℕ) → ((i g : ℕ) → slice_get xs i ≡ Some g → f g ≡ h g) → map f xs ≡ map h xs
same_mapped f h [] same = refl
same_mapped f h (x ∷ xs) same = λ i. same 0 x refl i ∷ same_mapped f h xs (λ k g at. same (suc k) g at) i

-- a switch's table, by its entries and its top
abbrev pub table_by : ℕ → (ℕ → ℕ) → ℕ → SwitchTable
table_by g entries top = record {
  guid = g;
  blocks = map (λ b. map (λ i. entries (64 * b + i)) (range_with_len 0 64)) (range_with_len 0 (block_count (Some top)));
}

module _ (cells : Cells) (by to : StepRuleValue) (one one_goal other other_goal : HeldPlan) where
  -- a switch has one next top and the same next entries by either
  pub record AreAlikeAt (g : ℕ) : Type 0 where
    pub top : next_top one one_goal g ≡ next_top other other_goal g
    pub entries : (lid : ℕ) → next_at cells by one one_goal lid g ≡ next_at cells to other other_goal lid g

  table_same : (g : ℕ) → AreAlikeAt g → next_table cells by one one_goal g ≡ next_table cells to other other_goal g
  table_same g alike = λ i. table_by g (λ lid. alike.entries lid i) (alike.top i)

  switch_same : (g : ℕ) → AreAlikeAt g → next_switch one one_goal g ≡ next_switch other other_goal g
  switch_same g alike = λ i. record { guid = g; top = alike.top i }

  pub next_same : one_goal.lids ≡ other_goal.lids → ((i g : ℕ) → slice_get (switches cells) i ≡ Some g → AreAlikeAt g)
      → next_tables cells by one one_goal ≡ next_tables cells to other other_goal
  unfolding next_tables
  next_same lids alike =
      let switches_same = same_mapped (next_switch one one_goal) (next_switch other other_goal) (switches cells) (λ k g at. switch_same g (alike k g at)) in
      let tables_same = same_mapped (next_table cells by one one_goal) (next_table cells to other other_goal) (switches cells)
      (λ k g at. table_same g (alike k g at)) in
      λ i. record { lids = lids i; switches = switches_same i; blocks = blocks_of 0 (tables_same i) }
