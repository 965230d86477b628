-- The blocks of a plan are those of the usable switches.
use Rattle.std.proofs.Common.{◌≡◌, ◌+◌, ℕ, List, [], ◌∷◌, inl, inr, refl, sym, ap, ◌∙◌, subst, arith, true, false, cond, ◌==◌}
use Rattle.std.proofs.lemmas.Bool.{cases_lt, eqb-true, eq-eqb, true≢false}
use Rattle.std.proofs.lemmas.List.FromFn.{length-map-range_with_len}
use Rattle.std.proofs.lemmas.Option.{slice_get_past}
use Rattle.std.specs.Prelude.{Contains, Option, None, Some, MatchOption, option_and_then, slice_get}
use Rattle.std.specs.List.{find}
use Rattle.fact_store.specs.View.{cells_of}
use Rattle.subnet_view.specs.Reading.{is_usable, switches, IsUsable}
use Rattle.subnet_view.proofs.Members.{contains_later, contains_cases, contains_none, contains_first}
use Rattle.subnet_view.proofs.UsableSwitches.{usable_law, switches_law}
use Rattle.lid_assign.specs.Lids.{lids, top_of}
use Rattle.lft_blocks.specs.Entries.{Next, attachment_of_lid, block, block_count, blocks}
use Rattle.lft_blocks.specs.Plan.{SwitchTable, tables_of, plan_by, block_at}
use Rattle.lft_blocks.specs.PlanLaws.{HasBlock, block_of, BlocksAreOfSwitches}
use Rattle.lft_blocks.proofs.BlockLaws.{made_at}

module _ (attachments : ℕ → Option (ℕ × ℕ)) (next : Next) (count g : ℕ) where
  abbrev its_table : Option SwitchTable
  its_table = Some (record { guid = g; blocks = blocks attachments next count g })

  abbrev found : List ℕ → Option SwitchTable
  found guids = find (λ table. table.guid == g) (tables_of attachments next count guids)

  -- a switch's table is found
  table_of_switch : (guids : List ℕ) → Contains guids g → found guids ≡ its_table
  table_of_switch [] h = absurd (contains_none g h)
  table_of_switch (x ∷ guids) h =
      let table : SwitchTable = record { guid = x; blocks = blocks attachments next count x } in
      elim (x == g) as (λ t. (x == g) ≡ t → cond t (Some table) (found guids) ≡ its_table) [
        | true ↦ λ e. let same = eqb-true x g e in λ i. Some (record { guid = same i; blocks = blocks attachments next count (same i) })
        | false ↦ λ e. (elim (contains_cases x g guids h) [
          | inl same ↦ absurd (true≢false (sym (eq-eqb x g same) ∙ e))
          | inr k ↦ table_of_switch guids k
        ])
      ] refl

  -- and no other
  table_of_none : (guids : List ℕ) → (Contains guids g → ⊥) → found guids ≡ None
  table_of_none [] none = refl
  table_of_none (x ∷ guids) none =
      let table : SwitchTable = record { guid = x; blocks = blocks attachments next count x } in
      elim (x == g) as (λ t. (x == g) ≡ t → cond t (Some table) (found guids) ≡ None) [
        | true ↦ λ e. absurd (none (contains_first guids (eqb-true x g e)))
        | false ↦ λ e. table_of_none guids (λ k. none (contains_later x g guids k))
      ] refl

-- there is a block exactly of a usable switch, up to that of the greatest LID
pub blocks_are_of_switches : BlocksAreOfSwitches
blocks_are_of_switches rule lmc facts g b =
    let cells = cells_of facts in
    let attachments = attachment_of_lid cells (lids lmc cells) in
    let next = rule.next in
    let count = block_count (top_of (lids lmc cells)) in
    let at = option_and_then (λ (table : SwitchTable). slice_get table.blocks b) in
    let P : Option (List ℕ) → Type 0 = λ o. MatchOption o (¬ (HasBlock lmc cells g b)) (λ x. HasBlock lmc cells g b × (x ≡ block_of rule lmc cells g b)) in
    let switch = (switches_law facts).0 g in
    elim (is_usable cells g) as (λ t. is_usable cells g ≡ t → P (block_at (plan_by rule lmc cells) g b)) [
      | true ↦ λ u.
          let usable = (usable_law cells g).0 u in
          let it = ap at (table_of_switch attachments next count g (switches cells) (switch.1 usable)) in
          elim (cases_lt b count) [
            | inl l ↦
                let index : 0 + b ≡ b = omega arith in
                let is = it ∙ made_at (block attachments next g) 0 count b l ∙ ap (λ j. Some (block attachments next g j)) index in
                subst P (sym is) ((usable, l), refl)
            | inr m ↦
                let past = slice_get_past (blocks attachments next count g) b (omega (arith, m, length-map-range_with_len (block attachments next g) 0 count))
                in
                subst P (sym (it ∙ past)) (λ h. absurd (omega (arith, m, h.1)))
          ]
      | false ↦ λ u.
          let unusable = λ (k : IsUsable cells g). true≢false (sym ((usable_law cells g).1 k) ∙ u) in
          let none = table_of_none attachments next count g (switches cells) (λ k. unusable (switch.0 k)) in
          subst P (sym (ap at none)) (λ h. unusable h.0)
    ] refl
