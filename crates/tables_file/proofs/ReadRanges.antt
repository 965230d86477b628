-- The numbers that a text says are in their ranges, whatever the text is.
use Rattle.std.proofs.Common.{◌≡◌, cond, ℕ, ◌+◌, ◌/◌, ◌%◌, ◌^◌, ◌≤◌, List, [], ◌∷◌, ◌++◌, length, Option, None, Some, Result, Ok, Err, refl, arith}
use Rattle.std.specs.Prelude.{codes, option_map, option_and_then, nat_le, nat_lt, ◌==◌}
use Rattle.std.specs.List.{AllByRecursion}
use Rattle.std.specs.Result.{result_ok}
use Rattle.std.specs.Str.{bytes_eq}
use Rattle.std.proofs.lemmas.Bool.{cond_both, eqb-true, leb-true}
use Rattle.hex.specs.declared.error.FromHexError.{FromHexError}
use Rattle.hex.specs.declared.error.FromHexError.TheVariants.{OddLength, InvalidStringLength}
use Rattle.hex.specs.Hex.{decode_pairs}
use Rattle.hex.proofs.HexLemmas.{decode_pairs-ok}
use Rattle.text_words.specs.Text.{lines, words}
use Rattle.text_words.specs.Numbers.{number_of}
use Rattle.tables_file.specs.TablesTextFault.{TablesLineFault}
use Rattle.held_tables.specs.declared.held.HeldBlock.{HeldBlock}
use Rattle.held_tables.specs.declared.held.HeldLid.{HeldLid}
use Rattle.held_tables.specs.declared.held.HeldSwitch.{HeldSwitch}
use Rattle.held_tables.specs.declared.held_item.HeldItem.{HeldItem}
use Rattle.held_tables.specs.declared.held_item.HeldItem.TheVariants.{Nothing, Lid, Switch, Block}
use Rattle.tables_file.specs.declared.last_lines.LastLines.{LastLines}
use Rattle.tables_file.specs.declared.tables_line.LidLine.{LidLine}
use Rattle.tables_file.specs.declared.tables_line.TextLine.{TextLine}
use Rattle.tables_file.specs.declared.tables_line.TextLine.TheVariants as line
use Rattle.held_tables.specs.Held.{HeldPlan, LidRange, nothing_held}
use Rattle.plan_tables.specs.PlanRanges.{IsBlock}
use Rattle.tables_file.specs.PrintedTextIsRead.{IsHeldInRange, TextsAreInRange}
use Rattle.tables_file.specs.Reading.{start, is_behind, lid_after, lid_with, switch_after, switch_with, block_below, item_of, last_lines_after, then_or, items_from, held_by, held_of}
use Rattle.held_tables.specs.HeldItem.{held_with}
use Rattle.tables_file.specs.TablesLine.{top_line, switch_line, lid_line, line_in, line_of}
use Rattle.text_words.specs.Numbers.{at_most, bare_guid_of, bytes_of, small_of}
use Rattle.text_words.specs.Text.{two_words}

-- a top, entries, and a line
abbrev IsTop : Option ℕ → Type 0
IsTop None = Unit {0}
IsTop (Some top) = top ≤ 0xBFFF

abbrev AreEntries : Option (List ℕ) → Type 0
AreEntries None = Unit {0}
AreEntries (Some entries) = IsBlock entries

abbrev IsLine : Option TextLine → Type 0
IsLine None = Unit {0}
IsLine (Some line.Empty) = Unit {0}
IsLine (Some (line.Lid l)) = Unit {0}
IsLine (Some (line.Switch l)) = IsTop l.top
IsLine (Some (line.Block l)) = IsBlock l.entries

-- the line of a LID
lid_is_line : (o : Option LidLine) → IsLine (option_map line.Lid o)
lid_is_line None = tt
lid_is_line (Some l) = tt

-- that of a switch
with_number : (guid : ℕ) (o : Option ℕ) → IsLine (option_map line.Switch (option_map (λ t. record { guid = guid; top = t }) (option_map (at_most 0xBFFF) o)))
with_number guid None = tt
with_number guid (Some n) = cond_both (nat_le n 0xBFFF) (Some n) None IsTop (λ e. leb-true n 0xBFFF e) (λ _. tt)

with_guid : (o : Option ℕ) (word : List ℕ)
    → IsLine (option_map line.Switch (option_and_then (λ g. option_map (λ t. record { guid = g; top = t }) (small_of 0xBFFF word)) o))
with_guid None word = tt
with_guid (Some guid) word = with_number guid (number_of 10 word)

with_top_words : (guid : List ℕ) (o : Option (List ℕ × List ℕ)) → IsLine (option_map line.Switch (option_and_then (top_line guid) o))
with_top_words guid None = tt
with_top_words guid (Some x) =
    cond_both (bytes_eq x.0 (codes "top")) _ None (λ o. IsLine (option_map line.Switch o)) (λ _. with_guid (bare_guid_of guid) x.1) (λ _. tt)

switch_is_line : (rest : List (List ℕ)) → IsLine (option_map line.Switch (switch_line rest))
switch_is_line [] = tt
switch_is_line (guid ∷ rest) = with_top_words guid (two_words rest)

-- that of a block
pairs_are : (word : List ℕ) (r : Result (List ℕ) FromHexError) → decode_pairs 0 word ≡ r → length word / 2 ≡ 64 → AreEntries (result_ok r)
pairs_are word (Err fault) e half = tt
pairs_are word (Ok bytes) e half = let read = decode_pairs-ok 0 word bytes e in record { whole = omega (arith, read.1, half); bytes = read.2 }

entries_are : (word : List ℕ) → AreEntries (bytes_of 64 word)
entries_are word =
    let P : Result (List ℕ) FromHexError → Type 0 = λ r. AreEntries (result_ok r) in
    let pairs : Result (List ℕ) FromHexError = decode_pairs 0 word in
    cond_both (length word % 2 == 1) (Err OddLength) (cond (length word / 2 == 64) pairs (Err InvalidStringLength)) P (λ _. tt)
    (λ _. cond_both (length word / 2 == 64) pairs (Err InvalidStringLength) P (λ e. pairs_are word pairs refl (eqb-true (length word / 2) 64 e)) (λ _. tt))

with_entries : (number : Option ℕ) (o : Option (List ℕ)) → AreEntries o
    → IsLine (option_map line.Block (option_map (λ e. record { number = number; entries = e }) o))
with_entries number None h = tt
with_entries number (Some entries) h = h

with_small : (o : Option (Option ℕ)) (word : List ℕ)
    → IsLine (option_map line.Block (option_and_then (λ n. option_map (λ e. record { number = n; entries = e }) (bytes_of 64 word)) o))
with_small None word = tt
with_small (Some number) word = with_entries number (bytes_of 64 word) (entries_are word)

with_block_words : (o : Option (List ℕ × List ℕ))
    → IsLine (option_map line.Block
    (option_and_then (λ x. option_and_then (λ n. option_map (λ e. record { number = n; entries = e }) (bytes_of 64 x.1)) (small_of 767 x.0)) o))
with_block_words None = tt
with_block_words (Some x) = with_small (small_of 767 x.0) x.1

line_in_range : (words : List (List ℕ)) → IsLine (line_in words)
line_in_range [] = tt
line_in_range (word ∷ rest) =
    cond_both (bytes_eq word (codes "lid")) _ _ IsLine (λ _. lid_is_line (lid_line rest))
    (λ _. cond_both (bytes_eq word (codes "switch")) _ _ IsLine (λ _. switch_is_line rest)
    (λ _. cond_both (bytes_eq word (codes "block")) _ _ IsLine (λ _. with_block_words (two_words rest)) (λ _. tt)))

-- what a line says by those before it
abbrev IsItem : HeldItem → Type 0
IsItem Nothing = Unit {0}
IsItem (Lid range) = Unit {0}
IsItem (Switch switch) = switch.top ≤ 0xBFFF
IsItem (Block number entries) = IsBlock entries

abbrev IsSaid : Result HeldItem TablesLineFault → Type 0
IsSaid (Ok item) = IsItem item
IsSaid (Err fault) = Unit {0}

after_said : (number : ℕ) (last : Option HeldLid) (range : LidRange) → IsSaid (lid_after number last range)
after_said number None range = tt
after_said number (Some last) range =
    cond_both (nat_lt range.first.lid last.lid) _ _ IsSaid (λ _. tt) (λ _. cond_both (is_behind last range.first) _ _ IsSaid (λ _. tt) (λ _. tt))

lid_said : (number : ℕ) (last : Option HeldLid) (lid : Option ℕ) (node : ℕ) (port lmc : Option ℕ) → IsSaid (lid_with number last lid node port lmc)
lid_said number last None node port lmc = tt
lid_said number last (Some lid) node None lmc = tt
lid_said number last (Some lid) node (Some port) None = tt
lid_said number last (Some lid) node (Some port) (Some lmc) =
    let range : LidRange = record { first = record { lid = lid; port = record { node = node; port = port } }; lmc = lmc } in
    cond_both (nat_lt 0xC000 (lid + 2 ^ lmc)) _ _ IsSaid (λ _. tt) (λ _. after_said number last range)

switch_after_said : (number : ℕ) (last : Option ℕ) (switch : HeldSwitch) → switch.top ≤ 0xBFFF → IsSaid (switch_after number last switch)
switch_after_said number None switch h = h
switch_after_said number (Some last) switch h = cond_both (nat_lt last switch.guid) _ _ IsSaid (λ _. h) (λ _. tt)

switch_said : (number : ℕ) (last : Option ℕ) (guid : ℕ) (top : Option ℕ) → IsTop top → IsSaid (switch_with number last guid top)
switch_said number last guid None h = tt
switch_said number last guid (Some top) h = switch_after_said number last (record { guid = guid; top = top }) h

block_said : (number : ℕ) (switch : Option ℕ) (next : ℕ) (block : Option ℕ) (entries : List ℕ) → IsBlock entries
    → IsSaid (block_below number switch next block entries)
block_said number None next block entries h = tt
block_said number (Some switch) next None entries h = tt
block_said number (Some switch) next (Some block) entries h = cond_both (nat_lt block next) _ _ IsSaid (λ _. tt) (λ _. h)

said_in_range : (number : ℕ) (index : LastLines) (o : Option TextLine) → IsLine o → IsSaid (item_of number index o)
said_in_range number index None h = tt
said_in_range number index (Some line.Empty) h = tt
said_in_range number index (Some (line.Lid l)) h = lid_said number index.lid l.lid l.node l.port l.lmc
said_in_range number index (Some (line.Switch l)) h = switch_said number index.switch l.guid l.top h
said_in_range number index (Some (line.Block l)) h = block_said number index.switch index.block l.number l.entries h

line_is : (line : List ℕ) → IsLine (line_of line)
unfolding line_of
line_is line = line_in_range (words line)

-- all that lines say
then_in_range : (r : Result HeldItem TablesLineFault) (next : HeldItem → List HeldItem) → IsSaid r → ((i : HeldItem) → AllByRecursion IsItem (next i))
    → AllByRecursion IsItem (then_or r (λ i. i ∷ next i) (λ fault. []))
then_in_range (Ok item) next h later = (h, later item)
then_in_range (Err fault) next h later = tt

items_in_range : (number : ℕ) (index : LastLines) (ls : List (List ℕ)) → AllByRecursion IsItem (items_from number index ls)
items_in_range number index [] = tt
items_in_range number index (l ∷ later) =
    then_in_range (item_of number index (line_of l)) (λ i. items_from (number + 1) (last_lines_after index i) later)
    (said_in_range number index (line_of l) (line_is l)) (λ i. items_in_range (number + 1) (last_lines_after index i) later)

-- and so what is held
all_more : {X : Type 0} (P : X → Type 0) (xs : List X) (x : X) → AllByRecursion P xs → P x → AllByRecursion P (xs ++ x ∷ [])
all_more P [] x h p = (p, tt)
all_more P (y ∷ xs) x h p = (h.0, all_more P xs x h.1 p)

item_more : (held : HeldPlan) (item : HeldItem) → IsHeldInRange held → IsItem item → IsHeldInRange (held_with held item)
item_more held Nothing h i = h
item_more held (Lid range) h i = record { tops = h.tops; blocks = h.blocks }
item_more held (Switch switch) h i =
    record { tops = all_more (λ (s : HeldSwitch). s.top ≤ 0xBFFF) held.switches switch h.tops i; blocks = h.blocks }
item_more held (Block number entries) h i = record { tops = h.tops; blocks = all_more (λ (b : HeldBlock). IsBlock b.entries) held.blocks _ h.blocks i }

held_in_range : (held : HeldPlan) (items : List HeldItem) → IsHeldInRange held → AllByRecursion IsItem items → IsHeldInRange (held_by held items)
held_in_range held [] h all = h
held_in_range held (item ∷ items) h all = held_in_range (held_with held item) items (item_more held item h all.0) all.1

pub texts_are_in_range : TextsAreInRange
unfolding held_of
texts_are_in_range text =
    held_in_range nothing_held (items_from 1 start (lines text)) (record { tops = tt; blocks = tt }) (items_in_range 1 start (lines text))
