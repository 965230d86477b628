-- The text of a view's plan has the plan's LIDs with their owners, and its entries.
use Rattle.std.proofs.Common.{◌≡◌, ℕ, zero, suc, ◌+◌, ◌*◌, ◌/◌, ◌%◌, ◌≤◌, false, ◌||◌, List, [], ◌∷◌}
use Rattle.std.proofs.Common.{get_or, Option, None, Some, refl, sym, ap, ◌∙◌, arith, cond}
use Rattle.std.specs.Prelude.{slice_get, map, Contains, option_and_then, nat_lt, ◌==◌}
use Rattle.std.specs.Option.{option_map_or}
use Rattle.std.specs.List.{find}
use Rattle.std.proofs.lemmas.Bool.{eq-eqb, le-ltb, ne_eqb, or_from}
use Rattle.std.proofs.lemmas.Option.{same_Some}
use Rattle.fact_store.specs.View.{Facts, cells_of}
use Rattle.subnet_view.specs.Reading.{Cells, switches}
use Rattle.subnet_view.proofs.Apart.{contains_map}
use Rattle.subnet_view.proofs.UsableSwitches.{switches_law}
use Rattle.lft_blocks.specs.Lids.{Given, IsNoRoom, lids, owner_of, top_of as lid_top}
use Rattle.lft_blocks.proofs.LidLaws.{lids_law}
use Rattle.subnet_view.specs.declared.end_port.EndPort.{EndPort}
use Rattle.subnet_view.specs.Routing.{Routing}
use Rattle.lft_blocks.specs.Rule.{RuleValue}
use Rattle.lft_blocks.specs.Entries.{Next, attachment_of_lid, blocks, block_count}
use Rattle.lft_blocks.specs.Plan.{SwitchTable, PlanValue, plan_of, tables_of, lid_routing}
use Rattle.lft_blocks.specs.PlanLaws.{HasBlock, block_of}
use Rattle.lft_blocks.proofs.BlockLaws.{made_at}
use Rattle.lft_blocks.proofs.HeldEntries.{planned_block, owned_to_top, owned_from_one, entry_of as planned_entry}
use Rattle.held_tables.specs.Held.{HeldPlan}
use Rattle.plan_tables.specs.PlanTables.{owned_lids, blocks_of, with_top}
use Rattle.held_tables.specs.Tables.{counted, index_of, entry_in, entry_at, entry_for, entry_of, top_at}
use Rattle.plan_tables.proofs.HeldTables.{found, block_found, placed, slice_mapped}

-- the plan's tables and LIDs as they are held
abbrev pub made : RuleValue → ℕ → Cells → ℕ → HeldPlan
made rule lmc cells top = record {
  lids = owned_lids (lids lmc cells);
  switches = map (with_top top) (plan_of rule lmc cells).tables;
  blocks = blocks_of 0 (plan_of rule lmc cells).tables;
}

-- a switch has its table of the plan
pub table_there : (guids : List ℕ) (attachments : ℕ → Option (ℕ × ℕ)) (next : Next) (count g : ℕ) → Contains guids g
    → (table : SwitchTable) × (find (λ t. t.guid == g) (tables_of attachments next count guids) ≡ Some table)
table_there guids attachments next count g h =
    let F : ℕ → SwitchTable = λ s. record { guid = s; blocks = blocks attachments next count s } in
    let it = found (λ (t : SwitchTable). t.guid == g) (map F guids) (F g) (contains_map F guids g h) (eq-eqb g g refl) in
    (it.x, it.is)

-- a block of the plan stands in a table
pub of_find : (b : ℕ) (block : List ℕ) (o : Option SwitchTable) → option_and_then (λ t. slice_get t.blocks b) o ≡ Some block
    → (t : SwitchTable) × (o ≡ Some t) × (slice_get t.blocks b ≡ Some block)
of_find b block None e = absurd (cc)
of_find b block (Some t) e = (t, refl, e)

at_index : (xs : List ℕ) (i x d : ℕ) → slice_get xs i ≡ Some x → get_or xs i d ≡ x
at_index [] i x d e = cc
at_index (y ∷ xs) zero x d e = same_Some y x e
at_index (y ∷ xs) (suc i) x d e = at_index xs i x d e

module _ (rule : RuleValue) (lmc : ℕ) (facts : Facts) (has_room : ¬ (IsNoRoom lmc (cells_of facts))) where
  abbrev pub given : Given
  given = lids lmc (cells_of facts)

  abbrev routing : Routing
  routing = lid_routing rule lmc (cells_of facts) given

  module _ (top : ℕ) (top_is : lid_top (lids lmc (cells_of facts)) ≡ Some top) where
    abbrev pub cells : Cells
    cells = cells_of facts

    abbrev pub held : HeldPlan
    held = made rule lmc cells top

    abbrev pub plan : PlanValue
    plan = plan_of rule lmc cells

    -- a usable switch has the greatest LID as its top
    pub top_of_switch : (g : ℕ) → Contains (switches cells) g → top_at held (index_of held g) ≡ top
    top_of_switch g there =
        let (table, is) = table_there (switches cells) (attachment_of_lid cells given) routing.next (block_count (lid_top given)) g there in
        let (k, placed_is, table_is) = placed top plan.tables g table is in
        ap (top_at held) placed_is
        ∙ ap (λ o. option_map_or (λ s. s.top) o 0) (slice_mapped (with_top top) plan.tables k table table_is)

    -- a usable switch has the plan's entry at each LID up to the greatest
    pub entry_held : (g lid : ℕ) → Contains (switches cells) g → lid ≤ top → entry_of held g lid ≡ planned_entry routing lmc cells g lid
    entry_held g lid there low =
        let b = lid / 64 in
        let count : block_count (lid_top given) ≡ suc (top / 64) = ap block_count top_is in
        let has : HasBlock lmc cells g b = (((switches_law facts).0 g).0 there, omega (arith, count, low)) in
        let block = block_of routing lmc cells g b in
        let (table, is, its_block) = of_find b block (find (λ t. t.guid == g) plan.tables) (planned_block routing lmc facts g b has) in
        let (k, placed_is, table_is) = placed top plan.tables g table is in
        let (y, found_is, entries_is) = block_found plan.tables k b table block table_is its_block in
        let stands : slice_get block (lid % 64) ≡ Some (planned_entry routing lmc cells g (64 * b + (0 + lid % 64))) =
        made_at (λ i. planned_entry routing lmc cells g (64 * b + i)) 0 64 (lid % 64) (omega arith) in
        let whole : 64 * b + (0 + lid % 64) ≡ lid = omega arith in
        ap (λ o. entry_at held o lid) placed_is
        ∙ ap (λ o. entry_in o (lid % 64)) found_is
        ∙ ap (λ es. get_or es (lid % 64) 255) entries_is
        ∙ at_index block (lid % 64) (planned_entry routing lmc cells g (64 * b + (0 + lid % 64))) 255 stands
        ∙ ap (planned_entry routing lmc cells g) whole

    -- if somebody owns the LID, the effective entry is the plan's
    pub entry_counts : (g lid : ℕ) (e : EndPort) → Contains (switches cells) g → owner_of given lid ≡ Some e
        → entry_for held lid g ≡ planned_entry routing lmc cells g lid
    entry_counts g lid e there owned =
        let (most, most_is, low) = owned_to_top given e lid owned in
        let same : most ≡ top = same_Some most top (sym most_is ∙ top_is) in
        let from_one = owned_from_one lmc cells (lids_law lmc facts has_room) lid e owned in
        let inside : (lid == 0 || nat_lt top lid) ≡ false =
        or_from (lid == 0) (nat_lt top lid) (ne_eqb lid 0 (λ z. omega (arith, z, from_one))) (le-ltb top lid (omega (arith, same, low))) in
        ap (λ t. counted lid t (entry_of held g lid)) (top_of_switch g there)
        ∙ ap (λ t. cond t 255 (entry_of held g lid)) inside
        ∙ entry_held g lid there (omega (arith, same, low))
