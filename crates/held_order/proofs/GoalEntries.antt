-- The entries of tables that are put together from columns, and of columns between two orders.
use Rattle.std.proofs.Common.{◌≡◌, ◌∙◌, ℕ, zero, suc, ◌+◌, ◌*◌, ◌/◌, ◌%◌, ◌<◌, ◌≤◌, ◌⊎◌, List, [], ◌∷◌, ◌++◌, length, get_or, Option, None, Some, refl, sym, ap}
use Rattle.std.proofs.Common.{arith, cond, inl, inr, false, ◌==◌, ◌||◌}
use Rattle.std.specs.Prelude.{map, nat_lt, reverse, slice_get, slice_index_or, unwrap_or}
use Rattle.std.specs.Option.{option_map_or}
use Rattle.std.specs.List.{enumerate_from, find, range_with_len, zip}
use Rattle.std.proofs.lemmas.Bool.{cases_eq, cases_lt, le-ltb, ne_eqb, or_from}
use Rattle.std.proofs.lemmas.List.{get_or-map, length-map}
use Rattle.std.proofs.lemmas.List.FromFn.{get_or-enumerate_from, get_or-map-range_with_len, length-enumerate_from}
use Rattle.std.proofs.lemmas.Option.{same_Some}
use Rattle.std.proofs.lemmas.Slice.Zip.{get_or-zip, length-zip}
use Rattle.fact_store.specs.View.{Facts, cells_of}
use Rattle.port_graph.specs.declared.edge.Edge.{Edge}
use Rattle.subnet_view.specs.declared.end_port.EndPort.{EndPort}
use Rattle.subnet_view.specs.Reading.{Cells, switches}
use Rattle.lft_blocks.specs.Entries.{block_count}
use Rattle.lft_blocks.specs.Plan.{SwitchTable}
use Rattle.lft_blocks.proofs.AttachmentTables.{switches_rise}
use Rattle.lft_blocks.proofs.BlockLaws.{made_at}
use Rattle.held_tables.specs.declared.held.HeldBlock.{HeldBlock}
use Rattle.held_tables.specs.declared.held.HeldSwitch.{HeldSwitch}
use Rattle.held_tables.specs.Held.{HeldPlan}
use Rattle.plan_tables.specs.PlanTables.{blocks_of}
use Rattle.held_tables.specs.Switches.{index_in}
use Rattle.held_tables.specs.Tables.{counted, entry_at, entry_for, entry_of, index_of, is_block_of, top_at, top_of}
use Rattle.held_tables.specs.Tables.{entry_in as entry_in_block}
use Rattle.plan_tables.proofs.HeldTables.{block_found, slice_mapped, within_length}
use Rattle.packet_walks.proofs.FabricParts.{index_there}
use Rattle.packet_walks.proofs.EntrySteps.{contains_at}
use Rattle.packet_walks.proofs.Tops.{entry_above}
use Rattle.packet_walks.specs.declared.next_hop.SwitchStep.{SwitchStep}
use Rattle.packet_walks.specs.HopsByTables.{switch_step}
use Rattle.next_tables.specs.Assembly.{all_blocks, block_in, entry_in, some_blocks, tables_with}
use Rattle.next_tables.specs.SwitchPositions.{switch_at}
use Rattle.next_tables.specs.NextTables.{next_switch, next_top}
use Rattle.next_tables.specs.SettledEntries.{Both}
use Rattle.next_tables.proofs.Entries.{at_mapped}
use Rattle.next_tables.proofs.Ordered.{index_own}
use Rattle.next_tables.proofs.Steps.{at_index}
use Rattle.next_tables.proofs.Whole.{position_mapped}
use Rattle.two_orders.specs.declared.labels.Sides.{Sides}
use Rattle.two_orders.specs.TwoOrders.{TwoOrders}
use Rattle.held_order.specs.TablesBetween.{entries_towards, entry_between, labels_towards}

-- the blocks are those of these tables
abbrev table_of : List (List ℕ) → ℕ → HeldSwitch → SwitchTable
table_of columns k s = record { guid = s.guid; blocks = map (block_in columns k) (range_with_len 0 (block_count (Some s.top))) }

abbrev tables_from : List (List ℕ) → ℕ → List HeldSwitch → List SwitchTable
tables_from columns k [] = []
tables_from columns k (s ∷ ss) = table_of columns k s ∷ tables_from columns (suc k) ss

blocks_are : (columns : List (List ℕ)) (k : ℕ) (ss : List HeldSwitch) → all_blocks columns k ss ≡ blocks_of k (tables_from columns k ss)
blocks_are columns k [] = refl
blocks_are columns k (s ∷ ss) =
    ap (λ (bs : List HeldBlock). some_blocks columns k (block_count (Some s.top)) ++ bs) (blocks_are columns (suc k) ss)

table_at : (columns : List (List ℕ)) (k i : ℕ) (ss : List HeldSwitch) (s : HeldSwitch) → slice_get ss i ≡ Some s
    → slice_get (tables_from columns k ss) i ≡ Some (table_of columns (k + i) s)
table_at columns k i [] s e = absurd (cc)
table_at columns k zero (x ∷ ss) s e =
    let at : k ≡ k + 0 = omega arith in λ j. Some (table_of columns (at j) (same_Some x s e j))
table_at columns k (suc i) (x ∷ ss) s e =
    let at : suc k + i ≡ k + suc i = omega arith in
    table_at columns (suc k) i ss s e ∙ ap (λ n. Some (table_of columns n s)) at

module _ (facts : Facts) (held plan : HeldPlan) (columns : List (List ℕ)) where
  abbrev cells : Cells
  cells = cells_of facts

  abbrev gs : List ℕ
  gs = switches (cells_of facts)

  abbrev made : HeldPlan
  made = tables_with (cells_of facts) held plan columns

  pub index_is : (i g : ℕ) → slice_get gs i ≡ Some g → index_in gs g ≡ Some i
  index_is i g there =
      let own : unwrap_or (index_in gs g) 0 ≡ i =
      ap (λ (x : ℕ). unwrap_or (index_in gs x) 0) (sym (at_index gs i g 0 there))
      ∙ index_own gs i (switches_rise facts gs refl) (within_length gs i g there) in
      elim (index_in gs g) as (λ o. index_in gs g ≡ o → unwrap_or o 0 ≡ i → o ≡ Some i) [
        | None ↦ λ e k. absurd (index_there gs g (contains_at gs i g there) e)
        | Some j ↦ λ e k. ap (λ n. Some n) k
      ] refl own

  held_index : (i g : ℕ) → slice_get gs i ≡ Some g → index_of made g ≡ Some i
  held_index i g there = position_mapped (λ (s : HeldSwitch). s.guid == g) (next_switch held plan) gs ∙ index_is i g there

  pub top_is : (i g : ℕ) → slice_get gs i ≡ Some g → top_of made g ≡ next_top held plan g
  top_is i g there =
      ap (top_at made) (held_index i g there)
      ∙ ap (λ o. option_map_or (λ (s : HeldSwitch). s.top) o 0) (slice_mapped (next_switch held plan) gs i g there)

  entry_held : (i g lid : ℕ) → slice_get gs i ≡ Some g → lid ≤ next_top held plan g → entry_of made g lid ≡ entry_in columns i lid
  entry_held i g lid there low =
      let b = lid / 64 in
      let s = next_switch held plan g in
      let n = block_count (Some (next_top held plan g)) in
      let tops : List HeldSwitch = map (next_switch held plan) gs in
      let tables = tables_from columns 0 tops in
      let here : 0 + i ≡ i = omega arith in
      let its : slice_get tables i ≡ Some (table_of columns i s) =
      table_at columns 0 i tops s (slice_mapped (next_switch held plan) gs i g there) ∙ ap (λ k. Some (table_of columns k s)) here in
      let at : 0 + b ≡ b = omega arith in
      let stands : slice_get (map (block_in columns i) (range_with_len 0 n)) b ≡ Some (block_in columns i b) =
      made_at (block_in columns i) 0 n b (omega arith) ∙ ap (λ j. Some (block_in columns i j)) at in
      let (y, found, entries) = block_found tables i b (table_of columns i s) (block_in columns i b) its stands in
      let whole : 64 * b + lid % 64 ≡ lid = omega arith in
      ap (λ o. entry_at made o lid) (held_index i g there)
      ∙ ap (λ (bs : List HeldBlock). entry_in_block (find (is_block_of i b) (reverse bs)) (lid % 64)) (blocks_are columns 0 tops)
      ∙ ap (λ o. entry_in_block o (lid % 64)) found
      ∙ ap (λ es. get_or es (lid % 64) 255) entries
      ∙ get_or-map-range_with_len (λ k. entry_in columns i (64 * b + k)) 0 64 (lid % 64) (lid % 64) 255 (omega arith) (omega arith)
      ∙ ap (λ j. entry_in columns i j) whole

  of_zero : (tables : HeldPlan) (g : ℕ) → entry_for tables 0 g ≡ 255
  of_zero tables g = refl

  -- an entry up to the greater top is that of its column
  pub entry_within : (i g lid : ℕ) → slice_get gs i ≡ Some g → (lid ≡ 0 → ⊥) → lid ≤ next_top held plan g → entry_for made lid g ≡ entry_in columns i lid
  entry_within i g lid there some within =
      let inside : (lid == 0 || nat_lt (next_top held plan g) lid) ≡ false =
      or_from (lid == 0) (nat_lt (next_top held plan g) lid) (ne_eqb lid 0 some) (le-ltb (next_top held plan g) lid within) in
      ap (λ t. counted lid t (entry_of made g lid)) (top_is i g there)
      ∙ ap (λ t. cond t 255 (entry_of made g lid)) inside
      ∙ entry_held i g lid there within

  -- and each is that, or none
  pub entry_made : (i g lid : ℕ) → slice_get gs i ≡ Some g → (entry_for made lid g ≡ 255) ⊎ (entry_for made lid g ≡ entry_in columns i lid)
  entry_made i g lid there =
      elim (cases_eq lid 0) [
        | inl e ↦ inl (ap (λ n. entry_for made n g) e ∙ of_zero made g)
        | inr some ↦ (elim (cases_lt (next_top held plan g) lid) [
          | inl above ↦ inl (entry_above cells made lid g (omega (arith, above, top_is i g there)))
          | inr within ↦ inr (entry_within i g lid there some within)
        ])
      ]

-- what a switch does by the held tables and by the plan
abbrev pub pair : Cells → HeldPlan → HeldPlan → ℕ → ℕ → Both
pair cells held plan lid k = (switch_step cells held lid (switch_at cells k), switch_step cells plan lid (switch_at cells k))

-- the entry of a switch towards an end port
module _ (cells : Cells) (edges : List (List Edge)) (orders : TwoOrders) (held plan : HeldPlan) (lid : ℕ) (port : EndPort) where
  abbrev n : ℕ
  n = length (switches cells)

  abbrev hs : List SwitchStep
  hs = map (switch_step cells held lid) (switches cells)

  abbrev ps : List SwitchStep
  ps = map (switch_step cells plan lid) (switches cells)

  abbrev labels : List (Option Sides)
  labels = labels_towards port edges orders ps

  hs_long : length hs ≡ n
  hs_long = length-map (switches cells) (switch_step cells held lid)

  ps_long : length ps ≡ n
  ps_long = length-map (switches cells) (switch_step cells plan lid)

  both_long : length (zip hs ps) ≡ n
  both_long = omega (arith, length-zip hs ps, hs_long, ps_long)

  both_at : (k : ℕ) (d : Both) → k < n → get_or (zip hs ps) k d ≡ pair cells held plan lid k
  both_at k d less =
      get_or-zip hs ps k d (omega (arith, hs_long, less)) (omega (arith, ps_long, less))
      ∙ (λ i. (at_mapped (switch_step cells held lid) (switches cells) k d.0 less i, at_mapped (switch_step cells plan lid) (switches cells) k d.1 less i))

  pub towards_at : (k : ℕ) → k < n
      → slice_index_or (entries_towards port edges orders hs ps) k 255 ≡ entry_between port edges orders labels (k, pair cells held plan lid k)
  unfolding entries_towards
  towards_at k less =
      let at : 0 + k ≡ k = omega arith in
      get_or-map (entry_between port edges orders labels) (enumerate_from 0 (zip hs ps)) k (k, pair cells held plan lid k) 255
      (omega (arith, length-enumerate_from 0 (zip hs ps), both_long, less))
      ∙ ap (entry_between port edges orders labels) (get_or-enumerate_from 0 (zip hs ps) k (k, pair cells held plan lid k) (omega (arith, both_long, less)))
      ∙ (λ i. entry_between port edges orders labels (at i, both_at k (pair cells held plan lid k) less i))
