-- The numbers of the next tables are in their ranges, so the text of these tables is read as what they are.
use Rattle.std.proofs.Common.{◌≡◌, ℕ, zero, suc, ◌+◌, ◌*◌, ◌/◌, ◌%◌, ◌<◌, ◌≤◌, Bool, List, [], ◌∷◌, ◌++◌, length, get_or, Option, None, Some, refl, sym, ap, ◌∙◌, subst, arith, inl, inr, reverse}
use Rattle.std.specs.Prelude.{Contains, map, slice_get, slice_index_or, nat_lt, ◌==◌, ◌||◌}
use Rattle.std.specs.Option.{option_map_or}
use Rattle.std.specs.List.{AllByRecursion, find, range_with_len}
use Rattle.std.specs.List.Sorted.{IsStrictlyIncreasing}
use Rattle.std.proofs.lemmas.Bool.{cases_lt, cond_both}
use Rattle.std.proofs.lemmas.List.{get_or_default, reverse-append}
use Rattle.std.proofs.lemmas.List.FromFn.{length-map-range_with_len, get_or-map-range_with_len}
use Rattle.std.proofs.lemmas.Option.{same_Some}
use Rattle.fact_store.specs.View.{Facts, cells_of, AreInRange}
use Rattle.subnet_view.specs.declared.end_port.EndPort.{EndPort}
use Rattle.subnet_view.specs.Reading.{Cells, switches}
use Rattle.subnet_view.proofs.Members.{contains_here, contains_later}
use Rattle.plan_tables.specs.Entries.{block_count}
use Rattle.plan_tables.specs.Plan.{PlanValue, SwitchTable}
use Rattle.plan_tables.proofs.AttachmentTables.{switches_rise}
use Rattle.held_tables.specs.declared.held.HeldBlock.{HeldBlock}
use Rattle.held_tables.specs.declared.held.HeldLid.{HeldLid}
use Rattle.held_tables.specs.declared.held.HeldSwitch.{HeldSwitch}
use Rattle.held_tables.specs.Held.{HeldPlan}
use Rattle.plan_tables.specs.PlanRanges.{IsBlock, IsPlanInRange, IsTableInRange}
use Rattle.plan_tables.specs.PlanTables.{blocks_from, blocks_of, held_plan, owned_lids, with_top}
use Rattle.tables_file.specs.PrintedTextIsRead.{AreTops, IsHeldInRange, Says, held_under, with_own_top}
use Rattle.tables_file.specs.PrintedTables.{next_text}
use Rattle.plan_tables.proofs.PlanRanges.{plans_in_range, switch_small}
use Rattle.tables_file.proofs.Printed.{tables_are_read}
use Rattle.tables_file.proofs.ReadRanges.{texts_are_in_range}
use Rattle.held_tables.specs.Tables.{block_at, entry_at, entry_for, entry_in, entry_of, index_of, is_block_of, top_at, top_of}
use Rattle.packet_walks.specs.declared.next_hop.NextHop.TheVariants.{To}
use Rattle.next_tables.specs.OrderRule.{may_change, tried}
use Rattle.next_tables.specs.SwitchPositions.{position_at}
use Rattle.next_tables.specs.SettledRule.{comes_to, delivers, leads_on, mends, next_entry, step_at}
use Rattle.next_tables.specs.NextTables.{StepRuleValue, by_order, if_owned, index_at, keeper, next_at, next_block, next_for, next_switch, next_table, next_tables, next_top, ordered_for, settled_first}
use Rattle.next_tables.specs.NextTextIsRead.{NextTextsAreRead, StepTextsAreRead}
use Rattle.held_tables.specs.Tables.{owners_of}
use Rattle.packet_walks.specs.EndsBySwitch.{is_to}

-- what all have, each has
each_of : {X : Type 0} (P : X → Type 0) (xs : List X) (k : ℕ) (x : X) → AllByRecursion P xs → slice_get xs k ≡ Some x → P x
each_of P [] k x all e = absurd (cc)
each_of P (y ∷ xs) zero x all e = subst P (same_Some y x e) all.0
each_of P (y ∷ xs) (suc k) x all e = each_of P xs k x all.1 e

all_append : {X : Type 0} (P : X → Type 0) (xs ys : List X) → AllByRecursion P xs → AllByRecursion P ys → AllByRecursion P (xs ++ ys)
all_append P [] ys h k = k
all_append P (x ∷ xs) ys h k = (h.0, all_append P xs ys h.1 k)

all_reverse : {X : Type 0} (P : X → Type 0) (xs : List X) → AllByRecursion P xs → AllByRecursion P (reverse xs)
all_reverse P [] h = tt
all_reverse P (x ∷ xs) h =
    subst (AllByRecursion P) (sym (reverse-append (x ∷ []) xs)) (all_append P (reverse xs) (x ∷ []) (all_reverse P xs h.1) (h.0, tt))

-- a property of what is found, if anything is
abbrev IfFound : {X : Type 0} (P : X → Type 0) → Option X → Type 0
IfFound P None = Unit {0}
IfFound P (Some x) = P x

found_has : {X : Type 0} (P : X → Type 0) (p : X → Bool) (xs : List X) → AllByRecursion P xs → IfFound P (find p xs)
found_has P p [] h = tt
found_has P p (x ∷ xs) h = cond_both (p x) (Some x) (find p xs) (IfFound P) (λ _. h.0) (λ _. found_has P p xs h.1)

-- an entry of tables in range is a byte
byte_in : (block : Option HeldBlock) (i : ℕ) → i < 64 → IfFound (λ (b : HeldBlock). IsBlock b.entries) block → entry_in block i < 256
byte_in None i less h = omega arith
byte_in (Some block) i less h =
    let long = h.whole in
    let byte = h.bytes i in
    let same : slice_index_or block.entries i 255 ≡ get_or block.entries i 0 = get_or_default block.entries i 255 0 (omega arith) in
    omega arith

module _ (held : HeldPlan) (range : IsHeldInRange held) where
  byte_at : (index : Option ℕ) (lid : ℕ) → entry_at held index lid < 256
  byte_at None lid = omega arith
  byte_at (Some k) lid =
      byte_in (block_at held k (lid / 64)) (lid % 64) (omega arith)
      (found_has (λ (b : HeldBlock). IsBlock b.entries) (is_block_of k (lid / 64)) (reverse held.blocks)
      (all_reverse (λ (b : HeldBlock). IsBlock b.entries) held.blocks range.blocks))

  byte_for : (lid g : ℕ) → entry_for held lid g < 256
  byte_for lid g =
      cond_both (lid == 0 || nat_lt (top_of held g) lid) 255 (entry_of held g lid) (λ n. n < 256) (λ _. omega arith) (λ _. byte_at (index_of held g) lid)

  -- and a top is a LID
  least_top : (switch : Option HeldSwitch) → IfFound (λ (s : HeldSwitch). s.top ≤ 0xBFFF) switch → option_map_or (λ s. s.top) switch 0 ≤ 0xBFFF
  least_top None h = omega arith
  least_top (Some switch) h = h

  got : (k : ℕ) (o : Option HeldSwitch) → slice_get held.switches k ≡ o → IfFound (λ (s : HeldSwitch). s.top ≤ 0xBFFF) o
  got k None e = tt
  got k (Some switch) e = each_of (λ (s : HeldSwitch). s.top ≤ 0xBFFF) held.switches k switch range.tops e

  top_within : (index : Option ℕ) → top_at held index ≤ 0xBFFF
  top_within None = omega arith
  top_within (Some k) = least_top (slice_get held.switches k) (got k (slice_get held.switches k) refl)

-- the tables of a plan in range are in range
tops_of : (top : ℕ) (tables : List SwitchTable) → top ≤ 0xBFFF → AllByRecursion (λ (s : HeldSwitch). s.top ≤ 0xBFFF) (map (with_top top) tables)
tops_of top [] most = tt
tops_of top (table ∷ tables) most = (most, tops_of top tables most)

blocks_are : (index number : ℕ) (blocks : List (List ℕ)) → AllByRecursion IsBlock blocks
    → AllByRecursion (λ (b : HeldBlock). IsBlock b.entries) (blocks_from index number blocks)
blocks_are index number [] h = tt
blocks_are index number (block ∷ blocks) h = (h.0, blocks_are index (number + 1) blocks h.1)

tables_are : (index : ℕ) (tables : List SwitchTable) → AllByRecursion IsTableInRange tables
    → AllByRecursion (λ (b : HeldBlock). IsBlock b.entries) (blocks_of index tables)
tables_are index [] h = tt
tables_are index (table ∷ tables) h =
    all_append (λ (b : HeldBlock). IsBlock b.entries) (blocks_from index 0 table.blocks) (blocks_of (suc index) tables)
    (blocks_are index 0 table.blocks h.0.blocks) (tables_are (suc index) tables h.1)

abbrev with_ports : ℕ → List (EndPort × ℕ) → List SwitchTable → PlanValue
with_ports lmc ports tables = record { given = record { lmc = lmc; ports = ports }; tables = tables }

given_in_range : (lmc : ℕ) (ports : List (EndPort × ℕ)) (tables : List SwitchTable) → IsPlanInRange (with_ports lmc ports tables)
    → IsHeldInRange (held_plan (with_ports lmc ports tables))
given_in_range lmc [] tables range = record { tops = tt; blocks = tt }
given_in_range lmc (x ∷ ports) tables range = record { tops = tops_of _ tables (range.top _ refl); blocks = tables_are 0 tables range.tables }

plan_in_range : (plan : PlanValue) → IsPlanInRange plan → IsHeldInRange (held_plan plan)
plan_in_range plan range = given_in_range plan.given.lmc plan.given.ports plan.tables range

given_lids : (lmc : ℕ) (ports : List (EndPort × ℕ)) (tables : List SwitchTable)
    → (held_plan (with_ports lmc ports tables)).lids ≡ owned_lids (record { lmc = lmc; ports = ports })
given_lids lmc [] tables = refl
given_lids lmc (x ∷ ports) tables = refl

plan_lids : (plan : PlanValue) → (held_plan plan).lids ≡ owned_lids plan.given
plan_lids plan = given_lids plan.given.lmc plan.given.ports plan.tables

-- what is made of what is made of numbers
mapped_twice : {X Y : Type 0} (f : X → Y) (g : ℕ → X) (ns : List ℕ) → map f (map g ns) ≡ map (λ n. f (g n)) ns
mapped_twice f g [] = refl
mapped_twice f g (n ∷ ns) = ap (λ ys. f (g n) ∷ ys) (mapped_twice f g ns)

same_numbers : (ns : List ℕ) → map (λ (n : ℕ). n) ns ≡ ns
same_numbers [] = refl
same_numbers (n ∷ ns) = ap (λ ms. n ∷ ms) (same_numbers ns)

-- what every number of a list has
all_numbers : {X : Type 0} (P : X → Type 0) (f : ℕ → X) (ns : List ℕ) → ((n : ℕ) → Contains ns n → P (f n)) → AllByRecursion P (map f ns)
all_numbers P f [] h = tt
all_numbers P f (n ∷ ns) h = (h n (contains_here n ns), all_numbers P f ns (λ m there. h m (contains_later n m ns there)))

module _ (facts : Facts) (rule : StepRuleValue) (held plan : HeldPlan) (held_range : IsHeldInRange held) (plan_range : IsHeldInRange plan) where
  abbrev cells : Cells
  cells = cells_of facts

  -- the next entries are bytes
  owned_byte : (planned : List EndPort) (entry : ℕ) → entry < 256 → if_owned planned entry < 256
  owned_byte [] entry h = omega arith
  owned_byte (e ∷ planned) entry h = h

  next_byte : (line : HeldLid) (g : ℕ) → next_entry cells held plan line g < 256
  next_byte line g =
      let by_held = byte_for held held_range line.lid g in
      let by_plan = byte_for plan plan_range line.lid g in
      cond_both (leads_on cells held plan line g) _ _ (λ n. n < 256) (λ _. by_plan)
      (λ _. cond_both (delivers cells held line g) _ _ (λ n. n < 256) (λ _. by_held)
      (λ _. cond_both (mends cells held plan line g) _ _ (λ n. n < 256)
      (λ _. cond_both (is_to (step_at cells held line.lid g)) _ _ (λ n. n < 256) (λ _. by_held) (λ _. by_plan)) (λ _. omega arith)))

  for_byte : (lid g : ℕ) (planned : List EndPort) (kept : Option EndPort) → next_for cells held plan lid planned kept g < 256
  for_byte lid g planned None = owned_byte planned (entry_for plan lid g) (byte_for plan plan_range lid g)
  for_byte lid g planned (Some port) = next_byte (record { lid = lid; port = port }) g

  order_byte : (q : ℕ → ℕ) (lid g i : ℕ) (planned : List EndPort) → ordered_for cells q held plan lid planned i g < 256
  order_byte q lid g i [] = omega arith
  order_byte q lid g i (port ∷ planned) =
      let line : HeldLid = record { lid = lid; port = port } in
      let by_held = byte_for held held_range lid g in
      let by_plan = byte_for plan plan_range lid g in
      cond_both (comes_to port (tried cells q held plan line) (To i)) _ _ (λ n. n < 256)
      (λ _. cond_both (may_change cells q held plan line i g) _ _ (λ n. n < 256) (λ _. by_plan) (λ _. by_held)) (λ _. omega arith)

  byte_by : (by : StepRuleValue) (lid g : ℕ) → next_at cells by held plan lid g < 256
  unfolding next_at
  byte_by settled_first lid g = for_byte lid g (owners_of plan lid) (keeper (owners_of plan lid) (owners_of held lid))
  byte_by (by_order positions) lid g = order_byte (position_at positions) lid g (index_at cells g) (owners_of plan lid)

  at_byte : (lid g : ℕ) → next_at cells rule held plan lid g < 256
  at_byte lid g = byte_by rule lid g

  -- so the next blocks are blocks
  block_byte : (g b i : ℕ) → get_or (next_block cells rule held plan g b) i 0 < 256
  block_byte g b i =
      let f : ℕ → ℕ = λ j. next_at cells rule held plan (64 * b + j) g in
      let long = length-map-range_with_len f 0 64 in
      elim (cases_lt i 64) [
        | inl less ↦ let at : get_or (map f (range_with_len 0 64)) i 0 ≡ f i = get_or-map-range_with_len f 0 64 i i 0 less (omega arith) in
            let small = at_byte (64 * b + i) g in omega arith
        | inr more ↦ let at : get_or (map f (range_with_len 0 64)) i 0 ≡ 0 = past (map f (range_with_len 0 64)) i (omega (arith, long)) in omega arith
      ]
    where
      past : (xs : List ℕ) (n : ℕ) → length xs ≤ n → get_or xs n 0 ≡ 0
      past [] n h = refl
      past (x ∷ xs) zero h = absurd (omega arith)
      past (x ∷ xs) (suc n) h = past xs n (omega arith)

  next_is_block : (g b : ℕ) → IsBlock (next_block cells rule held plan g b)
  next_is_block g b = record { whole = length-map-range_with_len (λ j. next_at cells rule held plan (64 * b + j) g) 0 64; bytes = λ i. block_byte g b i }

  -- tops are LIDs
  top_small : (g : ℕ) → next_top held plan g ≤ 0xBFFF
  top_small g =
      let one = top_within held held_range (index_of held g) in
      let other = top_within plan plan_range (index_of plan g) in
      omega arith

  -- and the tables of switches are in range
  table_in_range : AreInRange facts → (g : ℕ) → Contains (switches cells) g → IsTableInRange (next_table cells rule held plan g)
  table_in_range range g there =
      let count = block_count (Some (next_top held plan g)) in
      let small = top_small g in
      record {
        guid = switch_small facts range g there;
        blocks = all_numbers IsBlock (next_block cells rule held plan g) (range_with_len 0 count) (λ b _. next_is_block g b);
        few = omega (arith, length-map-range_with_len (next_block cells rule held plan g) 0 count, small);
      }

  next_guids : map (λ t. t.guid) (map (next_table cells rule held plan) (switches cells)) ≡ switches cells
  next_guids = mapped_twice (λ (t : SwitchTable). t.guid) (next_table cells rule held plan) (switches cells) ∙ same_numbers (switches cells)

  tops_are : AreTops (next_top held plan) (map (next_table cells rule held plan) (switches cells))
  tops_are = all_numbers (λ (t : SwitchTable). next_top held plan t.guid ≤ 0xBFFF) (next_table cells rule held plan) (switches cells) (λ g _. top_small g)

-- the LIDs of a plan, with the next tables
module _ (facts : Facts) (rule : StepRuleValue) (held : HeldPlan) (plan : PlanValue) where
  abbrev next_plan : PlanValue
  next_plan = record { given = plan.given; tables = map (next_table (cells_of facts) rule held (held_plan plan)) (switches (cells_of facts)) }

  step_in_range : AreInRange facts → IsHeldInRange held → IsPlanInRange plan → IsPlanInRange next_plan
  step_in_range range held_range plan_range =
      let target = plan_in_range plan plan_range in
      record {
        lmc = plan_range.lmc;
        lids = plan_range.lids;
        top = plan_range.top;
        rising = subst IsStrictlyIncreasing (sym (next_guids facts rule held (held_plan plan) held_range target))
            (switches_rise facts (switches (cells_of facts)) refl);
        tables = all_numbers IsTableInRange (next_table (cells_of facts) rule held (held_plan plan)) (switches (cells_of facts))
            (λ g there. table_in_range facts rule held (held_plan plan) held_range target range g there);
      }

  next_is : next_tables (cells_of facts) rule held (held_plan plan) ≡ held_under (next_top held (held_plan plan)) next_plan
  unfolding next_tables
  next_is =
      let cells = cells_of facts in
      let lids = plan_lids plan in
      let switches_are : map (next_switch held (held_plan plan)) (switches cells)
      ≡ map (with_own_top (next_top held (held_plan plan))) (map (next_table cells rule held (held_plan plan)) (switches cells)) =
      sym (mapped_twice (with_own_top (next_top held (held_plan plan))) (next_table cells rule held (held_plan plan)) (switches cells)) in
      λ i. record { lids = lids i; switches = switches_are i; blocks = blocks_of 0 next_plan.tables }

pub next_texts_are_read : NextTextsAreRead
next_texts_are_read facts by held plan range held_range plan_range =
    let it : HeldPlan = held_under (next_top held (held_plan plan)) (next_plan facts by held plan) in
    let P : HeldPlan → Type 0 = λ next. Says (next_text plan.given next) next in
    subst P (sym (next_is facts by held plan))
    (tables_are_read (next_top held (held_plan plan)) (next_plan facts by held plan) (step_in_range facts by held plan range held_range plan_range)
    (tops_are facts by held (held_plan plan) held_range (plan_in_range plan plan_range)))

pub step_texts_are_read : StepTextsAreRead
step_texts_are_read rule lmc facts by text small range has_room =
    next_texts_are_read facts by _ _ range (texts_are_in_range text) (plans_in_range rule lmc facts small range has_room)
