-- The next tables have the next entry of each switch for each LID.
use Rattle.std.proofs.Common.{◌≡◌, ℕ, ◌+◌, ◌*◌, ◌/◌, ◌%◌, ◌<◌, ◌≤◌, Bool, true, false, cond, List, [], ◌∷◌, get_or, refl, sym, ap, ◌∙◌, arith, max, Option, None, Some, inl, inr, ◌||◌}
use Rattle.std.specs.Prelude.{Contains, map, slice_get, nat_lt, ◌==◌}
use Rattle.std.specs.Option.{option_map_or}
use Rattle.std.specs.List.{position, position_or_len, range_with_len}
use Rattle.std.proofs.lemmas.Bool.{cases_eq, cases_lt, le-ltb, ne_eqb, or_from}
use Rattle.std.proofs.lemmas.List.{length-map}
use Rattle.std.proofs.lemmas.List.FromFn.{get_or-map-range_with_len}
use Rattle.subnet_view.specs.declared.end_port.EndPort.{EndPort}
use Rattle.subnet_view.specs.Reading.{Cells, switches}
use Rattle.plan_tables.specs.Entries.{block_count}
use Rattle.plan_tables.specs.Plan.{SwitchTable}
use Rattle.plan_tables.proofs.BlockLaws.{made_at}
use Rattle.held_tables.specs.declared.held.HeldLid.{HeldLid}
use Rattle.held_tables.specs.declared.held.HeldSwitch.{HeldSwitch}
use Rattle.held_tables.specs.Held.{HeldPlan}
use Rattle.plan_tables.specs.PlanTables.{blocks_of}
use Rattle.held_tables.specs.Switches.{index_in}
use Rattle.held_tables.specs.Tables.{counted, entry_at, entry_for, entry_in, entry_of, index_of, owners_of, top_at, top_of}
use Rattle.packet_walks.proofs.FabricParts.{index_there}
use Rattle.plan_tables.proofs.HeldTables.{block_found, slice_mapped}
use Rattle.packet_walks.proofs.Judged.{same_itself}
use Rattle.packet_walks.proofs.EntrySteps.{index_is}
use Rattle.packet_walks.proofs.Tops.{entry_above}
use Rattle.packet_walks.specs.declared.next_hop.NextHop.TheVariants.{To}
use Rattle.next_tables.specs.OrderRule.{may_change, tried}
use Rattle.next_tables.specs.SwitchPositions.{position_at}
use Rattle.next_tables.specs.SettledRule.{IsNext, comes_to, delivers, leads_on, mends, next_entry, step_at}
use Rattle.next_tables.specs.Assembly.{all_blocks}
use Rattle.next_tables.specs.NextTables.{IsKept, StepRuleValue, by_order, column_of, if_owned, index_at, keeper, next_at, next_block, next_for, next_switch, next_table, next_tables, next_top, ordered_for, settled_first}
use Rattle.held_tables.specs.declared.held.HeldBlock.{HeldBlock}
use Rattle.packet_walks.specs.Edges.{greatest_top}
use Rattle.packet_walks.specs.EndsBySwitch.{is_to}
use Rattle.next_tables.proofs.Assembled.{all_are}

-- the index in a list of what is made of another
len_mapped : {X Y : Type 0} (p : Y → Bool) (f : X → Y) (xs : List X) → position_or_len p (map f xs) ≡ position_or_len (λ x. p (f x)) xs
len_mapped p f [] = refl
len_mapped p f (x ∷ xs) = rw (len_mapped p f xs) refl

pub position_mapped : {X Y : Type 0} (p : Y → Bool) (f : X → Y) (xs : List X) → position p (map f xs) ≡ position (λ x. p (f x)) xs
position_mapped p f xs = rw (len_mapped p f xs, length-map xs f) refl

-- if both entries are 255, the next one is
all_none : (a b c d : Bool) (x y : ℕ) → x ≡ 255 → y ≡ 255 → cond a y (cond b x (cond c (cond d x y) 255)) ≡ 255
all_none true b c d x y h k = k
all_none false true c d x y h k = h
all_none false false true true x y h k = h
all_none false false true false x y h k = k
all_none false false false d x y h k = refl

two_none : (a b : Bool) (x y : ℕ) → x ≡ 255 → y ≡ 255 → cond a (cond b y x) 255 ≡ 255
two_none true true x y h k = k
two_none true false x y h k = h
two_none false b x y h k = refl

module _ (cells : Cells) (rule : StepRuleValue) (held plan : HeldPlan) where
  abbrev gs : List ℕ
  gs = switches cells

  abbrev made : HeldPlan
  made = record { lids = plan.lids; switches = map (next_switch held plan) gs; blocks = blocks_of 0 (map (next_table cells rule held plan) gs) }

  made_is : next_tables cells rule held plan ≡ made
  unfolding next_tables
  made_is = refl

  -- what is put together
  pub put_together : (lids : List HeldLid) (switches_ : List HeldSwitch) (blocks : List HeldBlock) (columns : List (List ℕ)) (count : ℕ) → lids ≡ plan.lids
      → switches_ ≡ map (next_switch held plan) gs → columns ≡ map (column_of cells rule held plan) (range_with_len 0 (64 * count))
      → count ≡ block_count (Some (max (greatest_top cells held) (greatest_top cells plan))) → blocks ≡ all_blocks columns 0 switches_
      → ◌≡◌ {A = HeldPlan} (record { lids = lids; switches = switches_; blocks = blocks }) (next_tables cells rule held plan)
  put_together lids switches_ blocks columns count l s are enough b =
      let all : blocks ≡ blocks_of 0 (map (next_table cells rule held plan) gs) =
      b ∙ ap (all_blocks columns 0) s ∙ all_are cells rule held plan columns count are enough in
      (λ i. record { lids = l i; switches = s i; blocks = all i }) ∙ sym made_is

  by_none : (planned : List EndPort) (entry : ℕ) → entry ≡ 255 → if_owned planned entry ≡ 255
  by_none [] entry e = refl
  by_none (x ∷ planned) entry e = e

  for_none : (lid g : ℕ) (planned : List EndPort) (kept : Option EndPort) → entry_for held lid g ≡ 255 → entry_for plan lid g ≡ 255
      → next_for cells held plan lid planned kept g ≡ 255
  for_none lid g planned None h k = by_none planned (entry_for plan lid g) k
  for_none lid g planned (Some port) h k =
      let line : HeldLid = record { lid = lid; port = port } in
      all_none (leads_on cells held plan line g) (delivers cells held line g) (mends cells held plan line g) (is_to (step_at cells held lid g))
      (entry_for held lid g) (entry_for plan lid g) h k

  order_none : (q : ℕ → ℕ) (lid g i : ℕ) (planned : List EndPort) → entry_for held lid g ≡ 255 → entry_for plan lid g ≡ 255
      → ordered_for cells q held plan lid planned i g ≡ 255
  order_none q lid g i [] h k = refl
  order_none q lid g i (port ∷ planned) h k =
      let line : HeldLid = record { lid = lid; port = port } in
      two_none (comes_to port (tried cells q held plan line) (To i)) (may_change cells q held plan line i g) (entry_for held lid g) (entry_for plan lid g) h k

  none_by : (by : StepRuleValue) (lid g : ℕ) → entry_for held lid g ≡ 255 → entry_for plan lid g ≡ 255 → next_at cells by held plan lid g ≡ 255
  unfolding next_at
  none_by settled_first lid g h k = for_none lid g (owners_of plan lid) (keeper (owners_of plan lid) (owners_of held lid)) h k
  none_by (by_order positions) lid g h k = order_none (position_at positions) lid g (index_at cells g) (owners_of plan lid) h k

  none_at : (lid g : ℕ) → entry_for held lid g ≡ 255 → entry_for plan lid g ≡ 255 → next_at cells rule held plan lid g ≡ 255
  none_at lid g h k = none_by rule lid g h k

  record Placed (g : ℕ) : Type 0 where
    index : ℕ
    is : index_of made g ≡ Some index
    there : slice_get gs index ≡ Some g

  placed : (g : ℕ) → Contains gs g → Placed g
  placed g here =
      elim (index_in gs g) as (λ o. index_in gs g ≡ o → Placed g) [
        | None ↦ λ e. absurd (index_there gs g here e)
        | Some i ↦ λ e. record {
          index = i;
          is = position_mapped (λ (s : HeldSwitch). s.guid == g) (next_switch held plan) gs ∙ e;
          there = index_is gs g i e;
        }
      ] refl

  top_is : (g : ℕ) (p : Placed g) → top_of made g ≡ next_top held plan g
  top_is g p =
      ap (top_at made) p.is
      ∙ ap (λ o. option_map_or (λ (s : HeldSwitch). s.top) o 0) (slice_mapped (next_switch held plan) gs p.index g p.there)

  held_is : (g lid : ℕ) (p : Placed g) → lid ≤ next_top held plan g → entry_of made g lid ≡ next_at cells rule held plan lid g
  held_is g lid p low =
      let b = lid / 64 in
      let n = block_count (Some (next_top held plan g)) in
      let tables : List SwitchTable = map (next_table cells rule held plan) gs in
      let its = slice_mapped (next_table cells rule held plan) gs p.index g p.there in
      let at : 0 + b ≡ b = omega arith in
      let stands : slice_get (map (next_block cells rule held plan g) (range_with_len 0 n)) b ≡ Some (next_block cells rule held plan g b) =
      made_at (next_block cells rule held plan g) 0 n b (omega arith) ∙ ap (λ j. Some (next_block cells rule held plan g j)) at in
      let (y, found, entries) = block_found tables p.index b (next_table cells rule held plan g) (next_block cells rule held plan g b) its stands in
      let whole : 64 * b + lid % 64 ≡ lid = omega arith in
      ap (λ o. entry_at made o lid) p.is
      ∙ ap (λ o. entry_in o (lid % 64)) found
      ∙ ap (λ es. get_or es (lid % 64) 255) entries
      ∙ get_or-map-range_with_len (λ i. next_at cells rule held plan (64 * b + i) g) 0 64 (lid % 64) (lid % 64) 255 (omega arith) (omega arith)
      ∙ ap (λ j. next_at cells rule held plan j g) whole

  of_zero : (tables : HeldPlan) (g : ℕ) → entry_for tables 0 g ≡ 255
  of_zero tables g = refl

  entry_made : (g lid : ℕ) → Contains gs g → entry_for made lid g ≡ next_at cells rule held plan lid g
  entry_made g lid here =
      let p = placed g here in
      let top = top_is g p in
      elim (cases_eq lid 0) [
        | inl e ↦
            let at : (tables : HeldPlan) → entry_for tables lid g ≡ 255 = λ tables. ap (λ n. entry_for tables n g) e ∙ of_zero tables g in
            at made ∙ sym (none_at lid g (at held) (at plan))
        | inr some ↦ (elim (cases_lt (next_top held plan g) lid) [
          | inl above ↦
              let one : top_of held g < lid = omega arith in
              let other : top_of plan g < lid = omega arith in
              let own : top_of made g < lid = omega arith in
              entry_above cells made lid g own ∙ sym (none_at lid g (entry_above cells held lid g one) (entry_above cells plan lid g other))
          | inr within ↦
              let inside : (lid == 0 || nat_lt (next_top held plan g) lid) ≡ false =
              or_from (lid == 0) (nat_lt (next_top held plan g) lid) (ne_eqb lid 0 some) (le-ltb (next_top held plan g) lid within) in
              ap (λ t. counted lid t (entry_of made g lid)) top
              ∙ ap (λ t. cond t 255 (entry_of made g lid)) inside
              ∙ held_is g lid p within
        ])
      ]

  -- each switch has the next entry for each LID
  pub entry_next : (g lid : ℕ) → Contains gs g → entry_for (next_tables cells rule held plan) lid g ≡ next_at cells rule held plan lid g
  entry_next g lid here = ap (λ tables. entry_for tables lid g) made_is ∙ entry_made g lid here

  -- and the plan's owners
  pub owners_next : (lid : ℕ) → owners_of (next_tables cells rule held plan) lid ≡ owners_of plan lid
  owners_next lid = ap (λ tables. owners_of tables lid) made_is

  -- and the greater top
  pub top_next : (g : ℕ) → Contains gs g → top_of (next_tables cells rule held plan) g ≡ next_top held plan g
  top_next g here = ap (λ tables. top_of tables g) made_is ∙ top_is g (placed g here)

-- the rule that goes by settled entries holds for a LID that one end port keeps
module _ (cells : Cells) (held plan : HeldPlan) where
  kept_entry : (line : HeldLid) → IsKept held plan line → (g : ℕ) → next_at cells settled_first held plan line.lid g ≡ next_entry cells held plan line g
  unfolding next_at
  kept_entry line kept g =
      let it : keeper (line.port ∷ []) (line.port ∷ []) ≡ Some line.port = ap (λ t. cond t (Some line.port) None) (same_itself line.port) in
      (λ i. next_for cells held plan line.lid (kept.in_plan i) (keeper (kept.in_plan i) (kept.in_held i)) g)
      ∙ ap (λ o. next_for cells held plan line.lid (line.port ∷ []) o g) it

  pub is_next : (line : HeldLid) → IsKept held plan line → IsNext cells held plan line (next_tables cells settled_first held plan)
  is_next line kept = record {
    owners = owners_next cells settled_first held plan line.lid ∙ kept.in_plan ∙ sym kept.in_held;
    entries = λ g here. entry_next cells settled_first held plan g line.lid here ∙ kept_entry line kept g;
  }

  pub kept_owners : (line : HeldLid) → IsKept held plan line → owners_of plan line.lid ≡ owners_of held line.lid
  kept_owners line kept = kept.in_plan ∙ sym kept.in_held
