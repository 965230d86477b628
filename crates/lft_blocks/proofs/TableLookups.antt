-- The table of a switch, found by its GUID.
use Rattle.std.proofs.Common.{◌≡◌, ◌<◌, ℕ, List, inl, inr, refl, sym, ap, ◌∙◌, subst, arith, true, ◌==◌, length, get_or}
use Rattle.std.proofs.lemmas.Bool.{cases_order, eqb-true, eq-eqb}
use Rattle.std.proofs.lemmas.List.{get_or-map, get_or_default, length-map}
use Rattle.std.proofs.lemmas.List.Kept.{AllPairs-from_increasing}
use Rattle.std.specs.Prelude.{Contains, None, Some, option_and_then, slice_get, slice_index}
use Rattle.std.specs.List.{find, AllPairs}
use Rattle.subnet_view.proofs.Apart.{find_only, found_there, contains_map}
use Rattle.lft_blocks.specs.Plan.{SwitchTable, PlanValue, AreTables, block_at}

module _ (guids : List ℕ) (tables : List SwitchTable) (are : AreTables guids tables) where
  rises : AllPairs (λ a b. a < b) guids
  rises = AllPairs-from_increasing guids are.rising

  as_many : length guids ≡ length tables
  as_many = ap length are.theirs ∙ length-map tables (λ table. table.guid)

  -- the GUID at an index is that of the table there
  guid_at : (i : ℕ) (t : SwitchTable) → i < length tables → get_or guids i 0 ≡ (get_or tables i t).guid
  guid_at i t h = ap (λ (xs : List ℕ). get_or xs i 0) are.theirs ∙ get_or-map (λ (table : SwitchTable). table.guid) tables i t 0 h

  -- the table at the index of a GUID is found
  table_found : (guid i : ℕ) (t : SwitchTable) → i < length guids → get_or guids i 0 ≡ guid → t ≡ get_or tables i t → find (λ table. table.guid == guid) tables
      ≡ Some t
  table_found guid i t h e there =
      let within : i < length tables = omega (arith, as_many) in
      let its : t.guid ≡ guid = ap (λ (table : SwitchTable). table.guid) there ∙ sym (guid_at i t within) ∙ e in
      find_only (λ table. table.guid == guid) tables t (i, within, sym there) (eq-eqb t.guid guid its) only
    where
      only : (u : SwitchTable) → Contains tables u → (u.guid == guid) ≡ true → u ≡ t
      only u (j, l, at) q =
          let same : get_or guids j 0 ≡ get_or guids i 0 = guid_at j u l ∙ ap (λ (table : SwitchTable). table.guid) at ∙ eqb-true u.guid guid q ∙ sym e in
          elim (cases_order j i) [
            | inl k ↦ sym at ∙ ap (λ n. get_or tables n u) k ∙ get_or_default tables i u t (omega (arith, as_many)) ∙ sym there
            | inr (inl k) ↦ let a = rises j i 0 k h in absurd (omega arith)
            | inr (inr k) ↦ let a = rises i j 0 k (omega (arith, as_many)) in absurd (omega arith)
          ]

  -- and none where no switch has it
  no_table : (guid : ℕ) → (Contains guids guid → ⊥) → find (λ table. table.guid == guid) tables ≡ None
  no_table guid none =
      elim (find (λ table. table.guid == guid) tables) as (λ o. find (λ table. table.guid == guid) tables ≡ o → o ≡ None) [
        | None ↦ λ e. refl
        | Some t ↦ λ e.
            let f = found_there (λ (table : SwitchTable). table.guid == guid) tables t e in
            let there = contains_map (λ (table : SwitchTable). table.guid) tables t f.0 in
            absurd (none (subst (λ (x : List ℕ × ℕ). Contains x.0 x.1) (λ i. (sym are.theirs i, eqb-true t.guid guid f.1 i)) there))
      ] refl

-- a block of the switch at an index
pub block_found : (plan : PlanValue) (guids : List ℕ) (guid b i : ℕ) (t : SwitchTable) → AreTables guids plan.tables → i < length guids → slice_index guids i
    ≡ guid → t ≡ get_or plan.tables i t
    → block_at plan guid b ≡ slice_get t.blocks b
block_found plan guids guid b i t are h e there =
    ap (option_and_then (λ (table : SwitchTable). slice_get table.blocks b)) (table_found guids plan.tables are guid i t h e there)

-- no block of what is no switch
pub no_block : (plan : PlanValue) (guids : List ℕ) (guid b : ℕ) → AreTables guids plan.tables → (Contains guids guid → ⊥) → block_at plan guid b ≡ None
no_block plan guids guid b are none =
    ap (option_and_then (λ (table : SwitchTable). slice_get table.blocks b)) (no_table guids plan.tables are guid none)
