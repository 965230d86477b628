-- A printed plan is read as it is: its LIDs, then its switches with their blocks.
use Rattle.std.proofs.Common.{◌≡◌, ℕ, zero, suc, ◌+◌, ◌-◌, ◌<◌, ◌≤◌, List, [], ◌∷◌, ◌++◌, length, Option, None, Some, refl, sym, ap, ◌∙◌, arith, append_assoc, append-nil, length-append, get_or, add-one}
use Rattle.std.specs.Prelude.{map, option_map}
use Rattle.std.specs.Option.{option_map_or}
use Rattle.std.specs.List.{AllByRecursion, AllPairs, enumerate_from, filter_map, cons_option, flat_map}
use Rattle.std.specs.List.Sorted.{IsStrictlyIncreasing}
use Rattle.text_words.specs.Text.{lines}
use Rattle.subnet_view.specs.declared.end_port.EndPort.{EndPort}
use Rattle.std.proofs.lemmas.Bool.{cond_both}
use Rattle.std.specs.Prelude.{◌==◌}
use Rattle.plan_tables.specs.Lids.{Given, owner_of, lmc_of, top_of, rising_lids}
use Rattle.plan_tables.proofs.RisingLids.{rising_lids_law}
use Rattle.plan_tables.specs.Plan.{SwitchTable, PlanValue}
use Rattle.plan_tables.specs.PlanText.{lid_line, owner_line, lids_text, switch_line, block_line, blocks_text, table_text, plan_text}
use Rattle.held_tables.specs.declared.held.HeldLid.{HeldLid}
use Rattle.held_tables.specs.declared.held.HeldSwitch.{HeldSwitch}
use Rattle.held_tables.specs.declared.held.HeldBlock.{HeldBlock}
use Rattle.held_tables.specs.declared.held_item.HeldItem.{HeldItem}
use Rattle.held_tables.specs.declared.held_item.HeldItem.TheVariants.{Lid, Switch, Block}
use Rattle.tables_file.specs.declared.last_lines.LastLines.{LastLines}
use Rattle.held_tables.specs.Held.{HeldPlan, LidRange, lids_of, nothing_held}
use Rattle.plan_tables.specs.PlanTables.{range_from, owned_range, owned_lids, blocks_from, blocks_of, held_plan}
use Rattle.plan_tables.specs.PlanRanges.{IsLidInRange, IsBlock, IsTableInRange, IsPlanInRange}
use Rattle.tables_file.specs.PrintedTextIsRead.{PrintedPlansAreRead, AreTops, PrintedTablesAreRead, Says, held_under}
use Rattle.tables_file.specs.PrintedTextIsRead.{with_own_top}
use Rattle.tables_file.specs.PrintedTables.{next_text}
use Rattle.tables_file.specs.Reading.{start, last_lines_after, first_fault_from, items_from, held_by, first_fault, held_of}
use Rattle.held_tables.specs.HeldItem.{held_with}
use Rattle.tables_file.proofs.LinesPrinted.{IsBelow, IsBeforeSwitch, IsRangeRight, lid_passes, switch_passes, block_passes}
use Rattle.tables_file.proofs.Passes.{Passes, passes_none, passes_then}
use Rattle.tables_file.proofs.TablesText.{tables_are_text}

-- numbers that rise from above another
abbrev Rises : ℕ → List ℕ → Type 0
Rises low [] = Unit {0}
Rises low (n ∷ ns) = (low < n) × Rises n ns

rises_more : (low n : ℕ) (ns : List ℕ) → low ≤ n → Rises n ns → Rises low ns
rises_more low n [] h r = tt
rises_more low n (m ∷ ns) h r = let above = r.0 in (omega arith, r.1)

-- numbers that rise, by recursion
rises_from : (low : ℕ) (ns : List ℕ) → ((k : ℕ) → k < length ns → low < get_or ns k 0) → AllPairs (λ m n. m < n) ns → Rises low ns
rises_from low [] above pairs = tt
rises_from low (n ∷ ns) above pairs = (
  above 0 (omega arith),
  rises_from n ns (λ k h. pairs 0 (suc k) 0 (omega arith) (omega arith))
      (λ i j d h l. pairs (suc i) (suc j) d (omega arith) (omega arith)),
)

-- the last LID is no greater than a number
abbrev IsUpTo : Option HeldLid → ℕ → Type 0
IsUpTo None low = Unit {0}
IsUpTo (Some last) low = last.lid ≤ low

up_to_more : (last : Option HeldLid) (low n : ℕ) → low < n → IsUpTo last low → IsUpTo last n
up_to_more None low n h is = tt
up_to_more (Some last) low n h is = omega arith

is_below : (last : Option HeldLid) (low n : ℕ) → low < n → IsUpTo last low → IsBelow last n
is_below None low n h is = tt
is_below (Some last) low n h is = omega arith

-- behind the lines of LIDs there is a last LID, and nothing else has changed
record LidsPass (index : LastLines) (text : List ℕ) (items : List HeldItem) : Type 0 where
  last : Option HeldLid
  passes : Passes index text items (record index { lid = last })

-- an end port's LMC is at most the subnet's
small_lmc : (given : Given) (e : EndPort) → given.lmc ≤ 7 → lmc_of given e ≤ 7
small_lmc given e small = cond_both (e.port == 0) 0 given.lmc (λ n. n ≤ 7) (λ _. omega arith) (λ _. small)

owner_passes : (given : Given) (index : LastLines) (low n : ℕ) (owner : Option EndPort) (text : List ℕ) (held : List LidRange)
    → given.lmc ≤ 7 → owner_of given n ≡ owner → IsLidInRange given n → IsUpTo index.lid low → low < n
    → ((p : LastLines) → IsUpTo p.lid n → LidsPass p text (map Lid held))
    → LidsPass index (option_map_or (λ port. lid_line (n, lmc_of given port, port)) owner [] ++ text)
    (map Lid (cons_option (option_map (range_from given n) owner) held))
owner_passes given index low n None text held small e range is above later = later index (up_to_more index.lid low n above is)
owner_passes given index low n (Some port) text held small e range is above later =
    let here = range_from given n port in
    let next : LastLines = last_lines_after index (Lid here) in
    let rest = later next (omega arith) in
    let right : IsRangeRight here = record {
      some = range.some;
      most = range.most;
      node = range.node port e;
      port = range.port port e;
      lmc = small_lmc given port small;
      last = range.last port e;
    } in
    let first = lid_passes index here right (is_below index.lid low n above is) in
    let behind : LastLines = record index { lid = rest.last } in
    record {
      last = rest.last;
      passes = passes_then index next behind (lid_line (n, lmc_of given port, port)) text (Lid here ∷ []) (map Lid held) first rest.passes;
    }

lids_pass : (given : Given) (index : LastLines) (low : ℕ) (ns : List ℕ) → given.lmc ≤ 7 → AllByRecursion (IsLidInRange given) ns → IsUpTo index.lid low
    → Rises low ns
    → LidsPass index (flat_map (owner_line given) ns) (map Lid (filter_map (owned_range given) ns))
lids_pass given index low [] small range is rises = record { last = index.lid; passes = passes_none index }
lids_pass given index low (n ∷ ns) small range is rises =
    owner_passes given index low n (owner_of given n) (flat_map (owner_line given) ns) (filter_map (owned_range given) ns) small refl range.0 is rises.0
    (λ p h. lids_pass given p n ns small range.1 h rises.1)

-- the blocks of a switch
abbrev block_item : ℕ × List ℕ → HeldItem
block_item x = Block x.0 x.1

abbrev below_switch : Option HeldLid → ℕ → ℕ → LastLines
below_switch lid guid next = record { lid = lid; switch = Some guid; block = next }

record BlocksPass (lid : Option HeldLid) (guid next number : ℕ) (blocks : List (List ℕ)) : Type 0 where
  end : ℕ
  passes : Passes (below_switch lid guid next) (flat_map block_line (enumerate_from number blocks)) (map block_item (enumerate_from number blocks))
      (below_switch lid guid end)

blocks_pass : (lid : Option HeldLid) (guid next number : ℕ) (blocks : List (List ℕ)) → next ≤ number → AllByRecursion IsBlock blocks
    → number + length blocks ≤ 768 → BlocksPass lid guid next number blocks
blocks_pass lid guid next number [] h all few = record { end = next; passes = passes_none (below_switch lid guid next) }
blocks_pass lid guid next number (block ∷ blocks) h all few =
    let rest = blocks_pass lid guid (number + 1) (number + 1) blocks (omega arith) all.1 (omega arith) in
    let first = block_passes next number guid lid block h (omega arith) all.0 in
    record {
      end = rest.end;
      passes = passes_then (below_switch lid guid next) (below_switch lid guid (number + 1)) (below_switch lid guid rest.end) (block_line (number, block)) _
          (Block number block ∷ []) _ first rest.passes;
    }

-- switches with their blocks
abbrev table_items : (ℕ → ℕ) → SwitchTable → List HeldItem
table_items top table = Switch (with_own_top top table) ∷ map block_item (enumerate_from 0 table.blocks)

abbrev own_text : (ℕ → ℕ) → SwitchTable → List ℕ
own_text top table = table_text (top table.guid) table

abbrev Follow : Option ℕ → List SwitchTable → Type 0
Follow last [] = Unit {0}
Follow last (table ∷ tables) = IsBeforeSwitch last table.guid × Follow (Some table.guid) tables

follow_from : (g : ℕ) (tables : List SwitchTable) → IsStrictlyIncreasing (g ∷ map (λ t. t.guid) tables) → Follow (Some g) tables
follow_from g [] h = tt
follow_from g (table ∷ tables) h = (h 0 (omega arith), follow_from table.guid tables (λ k l. rw add-one (rw add-one at (h (suc k) (omega arith)))))

follow : (tables : List SwitchTable) → IsStrictlyIncreasing (map (λ t. t.guid) tables) → Follow None tables
follow [] h = tt
follow (table ∷ tables) h = (tt, follow_from table.guid tables h)

record TablesPass (index : LastLines) (top : ℕ → ℕ) (tables : List SwitchTable) : Type 0 where
  after : LastLines
  passes : Passes index (flat_map (own_text top) tables) (flat_map (table_items top) tables) after

tables_pass : (index : LastLines) (top : ℕ → ℕ) (tables : List SwitchTable) → AreTops top tables → AllByRecursion IsTableInRange tables
    → Follow index.switch tables → TablesPass index top tables
tables_pass index top [] most all rise = record { after = index; passes = passes_none index }
tables_pass index top (table ∷ tables) most all rise =
    let guid = table.guid in
    let few = all.0.few in
    let blocks = blocks_pass index.lid guid 0 0 table.blocks (omega arith) all.0.blocks (omega arith) in
    let behind : LastLines = below_switch index.lid guid blocks.end in
    let one : Passes index (own_text top table) (table_items top table) behind =
    passes_then index (below_switch index.lid guid 0) behind (switch_line (top guid) guid) (blocks_text table.blocks) (Switch (with_own_top top table) ∷ [])
    (map block_item (enumerate_from 0 table.blocks)) (switch_passes index (top guid) guid most.0 all.0.guid rise.0) blocks.passes in
    let rest = tables_pass behind top tables most.1 all.1 rise.1 in
    record {
      after = rest.after;
      passes = passes_then index behind rest.after (own_text top table) (flat_map (own_text top) tables) (table_items top table)
          (flat_map (table_items top) tables) one rest.passes;
    }

-- what items make of what is held
held_append : (h : HeldPlan) (is js : List HeldItem) → held_by h (is ++ js) ≡ held_by (held_by h is) js
held_append h [] js = refl
held_append h (i ∷ is) js = held_append (held_with h i) is js

held_lids : (h : HeldPlan) (rs : List LidRange) → held_by h (map Lid rs) ≡ record h { lids = h.lids ++ flat_map lids_of rs }
held_lids h [] = ap (λ ls. record h { lids = ls }) (sym (append-nil h.lids))
held_lids h (r ∷ rs) =
    held_lids (record h { lids = h.lids ++ lids_of r }) rs ∙ ap (λ xs. record h { lids = xs }) (append_assoc h.lids (lids_of r) (flat_map lids_of rs))

abbrev at_switch : ℕ → ℕ × List ℕ → HeldBlock
at_switch index x = record { switch = index; number = x.0; entries = x.1 }

held_blocks : (h : HeldPlan) (xs : List (ℕ × List ℕ)) → held_by h (map block_item xs)
    ≡ record h { blocks = h.blocks ++ map (at_switch (length h.switches - 1)) xs }
held_blocks h [] = ap (λ bs. record h { blocks = bs }) (sym (append-nil h.blocks))
held_blocks h (x ∷ xs) =
    held_blocks (held_with h (block_item x)) xs
    ∙ ap (λ bs. record h { blocks = bs }) (append_assoc h.blocks (at_switch (length h.switches - 1) x ∷ []) (map (at_switch (length h.switches - 1)) xs))

abbrev with_tables : HeldPlan → List HeldSwitch → List HeldBlock → HeldPlan
with_tables h switches blocks = record h { switches = switches; blocks = blocks }

one_more : (switches : List HeldSwitch) (s : HeldSwitch) → length (switches ++ s ∷ []) ≡ suc (length switches)
one_more switches s = omega (arith, length-append switches (s ∷ []))

held_table : (h : HeldPlan) (top : ℕ → ℕ) (table : SwitchTable)
    → held_by h (table_items top table)
    ≡ with_tables h (h.switches ++ with_own_top top table ∷ []) (h.blocks ++ blocks_from (length h.switches) 0 table.blocks)
held_table h top table =
    let s = with_own_top top table in
    let index : length (h.switches ++ s ∷ []) - 1 ≡ length h.switches = omega (arith, one_more h.switches s) in
    held_blocks (held_with h (Switch s)) (enumerate_from 0 table.blocks)
    ∙ ap (λ n. with_tables h (h.switches ++ s ∷ []) (h.blocks ++ map (at_switch n) (enumerate_from 0 table.blocks))) index

held_tables : (h : HeldPlan) (top : ℕ → ℕ) (tables : List SwitchTable)
    → held_by h (flat_map (table_items top) tables)
    ≡ with_tables h (h.switches ++ map (with_own_top top) tables) (h.blocks ++ blocks_of (length h.switches) tables)
held_tables h top [] =
    ap (λ ss. with_tables h ss h.blocks) (sym (append-nil h.switches)) ∙ ap (with_tables h (h.switches ++ [])) (sym (append-nil h.blocks))
held_tables h top (table ∷ tables) =
    let s = with_own_top top table in
    let own = blocks_from (length h.switches) 0 table.blocks in
    let next = with_tables h (h.switches ++ s ∷ []) (h.blocks ++ own) in
    held_append h (table_items top table) (flat_map (table_items top) tables)
    ∙ ap (λ g. held_by g (flat_map (table_items top) tables)) (held_table h top table)
    ∙ held_tables next top tables
    ∙ ap (λ ss. with_tables h ss ((h.blocks ++ own) ++ blocks_of (length (h.switches ++ s ∷ [])) tables)) (append_assoc h.switches (s
    ∷ []) (map (with_own_top top) tables))
    ∙ ap (λ n. with_tables h (h.switches ++ s ∷ map (with_own_top top) tables) ((h.blocks ++ own) ++ blocks_of n tables)) (one_more h.switches s)
    ∙ ap (with_tables h (h.switches ++ s ∷ map (with_own_top top) tables)) (append_assoc h.blocks own (blocks_of (suc (length h.switches)) tables))

-- all of it
abbrev plan_items : (ℕ → ℕ) → PlanValue → List HeldItem
plan_items top plan = map Lid (filter_map (owned_range plan.given) (rising_lids plan.given)) ++ flat_map (table_items top) plan.tables

above_zero : (given : Given) (ns : List ℕ) (k : ℕ) → AllByRecursion (IsLidInRange given) ns → k < length ns → 0 < get_or ns k 0
above_zero given [] k all h = absurd (omega arith)
above_zero given (n ∷ ns) zero all h = let some = all.0.some in omega arith
above_zero given (n ∷ ns) (suc k) all h = above_zero given ns k all.1 (omega arith)

whole_passes : (top : ℕ → ℕ) (plan : PlanValue) → IsPlanInRange plan → AreTops top plan.tables
    → (after : LastLines) × Passes start (lids_text plan.given ++ flat_map (own_text top) plan.tables) (plan_items top plan) after
whole_passes top plan range most =
    let given = plan.given in
    let lids = lids_pass given start 0 (rising_lids given) range.lmc range.lids tt
    (rises_from 0 (rising_lids given) (λ k h. above_zero given (rising_lids given) k range.lids h) (rising_lids_law given).1) in
    let middle : LastLines = record start { lid = lids.last } in
    let tables = tables_pass middle top plan.tables most range.tables (follow plan.tables range.rising) in (
      tables.after,
      passes_then start middle tables.after (lids_text given) (flat_map (own_text top) plan.tables)
          (map Lid (filter_map (owned_range given) (rising_lids given))) (flat_map (table_items top) plan.tables) lids.passes tables.passes,
    )

-- a text that passes is read to its end
all_passes : (text : List ℕ) (items : List HeldItem) (after : LastLines) → Passes start text items after
    → (first_fault text ≡ None) × (held_of text ≡ held_by nothing_held items)
unfolding first_fault held_of
all_passes text items after h =
    let goes = h.goes 1 [] in
    let whole : text ++ [] ≡ text = append-nil text in (
      ap (λ t. first_fault_from 1 start (lines t)) (sym whole) ∙ goes.fault,
      ap (λ t. held_by nothing_held (items_from 1 start (lines t))) (sym whole) ∙ ap (held_by nothing_held) (goes.said ∙ append-nil items),
    )

held_whole : (top : ℕ → ℕ) (plan : PlanValue) → held_by nothing_held (plan_items top plan) ≡ held_under top plan
held_whole top plan =
    let ranges = filter_map (owned_range plan.given) (rising_lids plan.given) in
    held_append nothing_held (map Lid ranges) (flat_map (table_items top) plan.tables)
    ∙ ap (λ h. held_by h (flat_map (table_items top) plan.tables)) (held_lids nothing_held ranges)
    ∙ held_tables (record { lids = owned_lids plan.given; switches = []; blocks = [] }) top plan.tables

says_whole : (top : ℕ → ℕ) (plan : PlanValue) → IsPlanInRange plan → AreTops top plan.tables
    → Says (lids_text plan.given ++ flat_map (own_text top) plan.tables) (held_under top plan)
says_whole top plan range most =
    let passes = whole_passes top plan range most in
    let read = all_passes (lids_text plan.given ++ flat_map (own_text top) plan.tables) (plan_items top plan) passes.0 passes.1 in
    (read.0, read.1 ∙ held_whole top plan)

-- a text, and what it says, by another name
says_as : (text same : List ℕ) (held told : HeldPlan) → text ≡ same → held ≡ told → Says text held → Says same told
says_as text same held told t h says = (ap first_fault (sym t) ∙ says.0, ap held_of (sym t) ∙ says.1 ∙ h)

-- tables with tops of their own
pub tables_are_read : PrintedTablesAreRead
tables_are_read top plan range most =
    let text : lids_text plan.given ++ flat_map (own_text top) plan.tables ≡ next_text plan.given (held_under top plan) =
    ap (λ t. lids_text plan.given ++ t) (sym (tables_are_text top 0 plan.tables)) in
    says_as (lids_text plan.given ++ flat_map (own_text top) plan.tables) (next_text plan.given (held_under top plan))
    (held_under top plan) (held_under top plan) text refl (says_whole top plan range most)

-- one top for all
same_tops : (top : ℕ) (tables : List SwitchTable) → top ≤ 0xBFFF → AreTops (λ _. top) tables
same_tops top [] most = tt
same_tops top (table ∷ tables) most = (most, same_tops top tables most)

read_with_top : (plan : PlanValue) (top : ℕ) → top_of plan.given ≡ Some top → IsPlanInRange plan → Says (plan_text plan) (held_plan plan)
read_with_top plan top e range =
    let text : lids_text plan.given ++ flat_map (own_text (λ _. top)) plan.tables ≡ plan_text plan = rw e refl in
    let held : held_under (λ _. top) plan ≡ held_plan plan = rw e refl in
    says_as (lids_text plan.given ++ flat_map (own_text (λ _. top)) plan.tables) (plan_text plan) (held_under (λ _. top) plan) (held_plan plan) text held
    (says_whole (λ _. top) plan range (same_tops top plan.tables (range.top top e)))

abbrev with_ports : ℕ → List (EndPort × ℕ) → List SwitchTable → PlanValue
with_ports lmc ports tables = record { given = record { lmc = lmc; ports = ports }; tables = tables }

no_lids : (lmc : ℕ) (tables : List SwitchTable) → Says (plan_text (with_ports lmc [] tables)) nothing_held
unfolding first_fault held_of
no_lids lmc tables = (refl, refl)

read_given : (lmc : ℕ) (ports : List (EndPort × ℕ)) (tables : List SwitchTable) → IsPlanInRange (with_ports lmc ports tables)
    → Says (plan_text (with_ports lmc ports tables)) (held_plan (with_ports lmc ports tables))
read_given lmc [] tables range = no_lids lmc tables
read_given lmc (x ∷ ports) tables range = read_with_top (with_ports lmc (x ∷ ports) tables) _ refl range

pub printed_is_read : PrintedPlansAreRead
printed_is_read plan range = read_given plan.given.lmc plan.given.ports plan.tables range
