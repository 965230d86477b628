-- The plan of a step has the blocks of the next tables.
use Rattle.std.proofs.Common.{◌≡◌, ℕ, ◌+◌, ◌*◌, ◌<◌, ◌≤◌, true, false, cond, ◌||◌, List, [], ◌∷◌, Some, inl, inr, refl, sym, ap, ◌∙◌, arith}
use Rattle.std.proofs.lemmas.Bool.{eq-eqb, eqb-true, le-ltb, ne_eqb, or_from}
use Rattle.std.proofs.lemmas.Option.{same_Some}
use Rattle.std.specs.Prelude.{Contains, map, nat_lt, option_and_then, slice_get, ◌==◌}
use Rattle.std.specs.List.{find, range_with_len}
use Rattle.subnet_view.specs.Reading.{Cells, switches}
use Rattle.subnet_view.proofs.Apart.{contains_map}
use Rattle.subnet_view.proofs.Members.{contains_cases, contains_none}
use Rattle.lid_assign.specs.Lids.{Given}
use Rattle.plan_tables.specs.Entries.{block_count}
use Rattle.plan_tables.specs.Plan.{SwitchTable, block_at}
use Rattle.plan_tables.proofs.BlockLaws.{made_at, made_from}
use Rattle.held_tables.specs.Held.{HeldPlan}
use Rattle.held_tables.specs.Tables.{counted, entry_of}
use Rattle.plan_tables.proofs.HeldPlans.{of_find}
use Rattle.plan_tables.proofs.HeldTables.{found}
use Rattle.next_tables.specs.NextTables.{StepRuleValue, next_at, next_block, next_table, next_tables, next_top}
use Rattle.next_tables.proofs.Whole.{entry_next, top_next}
use Rattle.program_laws.specs.StepPlan.{StepPlansHaveNextBlocks, step_plan}

-- each table of the list is made from one of the GUIDs
mapped_from : (F : ℕ → SwitchTable) (guids : List ℕ) (x : SwitchTable) → Contains (map F guids) x → (s : ℕ) × (x ≡ F s)
mapped_from F [] x h = absurd (contains_none x h)
mapped_from F (s ∷ guids) x h = elim (contains_cases (F s) x (map F guids) h) [ inl same ↦ (s, sym same) | inr l ↦ mapped_from F guids x l ]

-- the table of a switch is found by the switch's GUID
table_found : (F : ℕ → SwitchTable) → ((s : ℕ) → (F s).guid ≡ s) → (guids : List ℕ) (g : ℕ) → Contains guids g
    → find (λ (t : SwitchTable). t.guid == g) (map F guids) ≡ Some (F g)
table_found F names guids g here =
    let it = found (λ (t : SwitchTable). t.guid == g) (map F guids) (F g) (contains_map F guids g here) (eq-eqb (F g).guid g (names g)) in
    let (s, is) = mapped_from F guids it.x it.there in
    let same : s ≡ g = sym (names s) ∙ ap (λ (t : SwitchTable). t.guid) (sym is) ∙ eqb-true it.x.guid g it.passes in
    it.is ∙ ap (λ t. Some t) (is ∙ ap F same)

module _ (given : Given) (cells : Cells) (rule : StepRuleValue) (held goal : HeldPlan) where
  block_there : (g n : ℕ) → Contains (switches cells) g → n < block_count (Some (next_top held goal g))
      → block_at (step_plan given cells rule held goal) g n ≡ Some (next_block cells rule held goal g n)
  block_there g n here low =
      let at : 0 + n ≡ n = omega arith in
      ap (option_and_then (λ (t : SwitchTable). slice_get t.blocks n)) (table_found (next_table cells rule held goal) (λ s. refl) (switches cells) g here)
      ∙ made_at (next_block cells rule held goal g) 0 (block_count (Some (next_top held goal g))) n low
      ∙ ap (λ j. Some (next_block cells rule held goal g j)) at

  entry_there : (g n i : ℕ) → i < 64 → slice_get (next_block cells rule held goal g n) i ≡ Some (next_at cells rule held goal (64 * n + i) g)
  entry_there g n i less =
      let at : 0 + i ≡ i = omega arith in
      made_at (λ j. next_at cells rule held goal (64 * n + j) g) 0 64 i less
      ∙ ap (λ j. Some (next_at cells rule held goal (64 * n + j) g)) at

  entry_is : (g lid : ℕ) → Contains (switches cells) g → 1 ≤ lid → lid ≤ next_top held goal g
      → next_at cells rule held goal lid g ≡ entry_of (next_tables cells rule held goal) g lid
  entry_is g lid here one low =
      let top = top_next cells rule held goal g here in
      let inside : (lid == 0 || nat_lt (next_top held goal g) lid) ≡ false =
      or_from (lid == 0) (nat_lt (next_top held goal g) lid) (ne_eqb lid 0 (λ e. absurd (omega (arith, e, one)))) (le-ltb (next_top held goal g) lid low) in
      sym (entry_next cells rule held goal g lid here)
      ∙ ap (λ t. counted lid t (entry_of (next_tables cells rule held goal) g lid)) top
      ∙ ap (λ t. cond t 255 (entry_of (next_tables cells rule held goal) g lid)) inside

  whole_by : (g n : ℕ) (block : List ℕ) → block_at (step_plan given cells rule held goal) g n ≡ Some block → (i : ℕ) → i < 64
      → (x : ℕ) × (slice_get block i ≡ Some x)
  whole_by g n block is i less =
      let (t, is_found, there) = of_find n block (find (λ (t : SwitchTable). t.guid == g) (map (next_table cells rule held goal) (switches cells))) is in
      by_table t (some_there t is_found) there
    where
      some_there : (t : SwitchTable) → find (λ (t : SwitchTable). t.guid == g) (map (next_table cells rule held goal) (switches cells)) ≡ Some t
          → (s : ℕ) × (t ≡ next_table cells rule held goal s)
      some_there t e = among (switches cells) e
        where
          among : (guids : List ℕ) → find (λ (t : SwitchTable). t.guid == g) (map (next_table cells rule held goal) guids) ≡ Some t
              → (s : ℕ) × (t ≡ next_table cells rule held goal s)
          among [] e = absurd (cc)
          among (s ∷ guids) e =
              elim (s == g) as (λ b. cond b (Some (next_table cells rule held goal s))
              (find (λ (t : SwitchTable). t.guid == g) (map (next_table cells rule held goal) guids)) ≡ Some t
              → (x : ℕ) × (t ≡ next_table cells rule held goal x)) [
                | true ↦ λ k. (s, sym (same_Some _ _ k))
                | false ↦ λ k. among guids k
              ] e

      by_table : (t : SwitchTable) → (s : ℕ) × (t ≡ next_table cells rule held goal s) → slice_get t.blocks n ≡ Some block
          → (x : ℕ) × (slice_get block i ≡ Some x)
      by_table t (s, is) there =
          let e : slice_get (map (next_block cells rule held goal s) (range_with_len 0 (block_count (Some (next_top held goal s))))) n ≡ Some block =
          ap (λ (y : SwitchTable). slice_get y.blocks n) (sym is) ∙ there in
          let made : block ≡ next_block cells rule held goal s (0 + n) =
          made_from (next_block cells rule held goal s) 0 (block_count (Some (next_top held goal s))) n block e in
          (next_at cells rule held goal (64 * (0 + n) + i) s, ap (λ b. slice_get b i) made ∙ entry_there s (0 + n) i less)

pub step_plans_have_next_blocks : StepPlansHaveNextBlocks
step_plans_have_next_blocks given cells rule held goal =
    record {
      whole = λ g n block is i less. whole_by given cells rule held goal g n block is i less;
      blocks = λ g n here low. (
        next_block cells rule held goal g n,
        block_there given cells rule held goal g n here (omega (arith, low)),
        λ i less one within. entry_there given cells rule held goal g n i less
            ∙ ap (λ x. Some x) (entry_is given cells rule held goal g (64 * n + i) here one within),
      );
    }
