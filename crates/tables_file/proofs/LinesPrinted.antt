-- The lines of a plan's text have no fault, and say what they were printed from.
use Rattle.std.proofs.Common.{◌≡◌, ℕ, zero, suc, ◌+◌, ◌<◌, ◌≤◌, ◌^◌, true, false, ltb, List, [], ◌∷◌, ◌++◌, Option, None, Some, Ok, refl, sym, subst, arith, append_assoc}
use Rattle.std.specs.Prelude.{codes, decimal}
use Rattle.std.specs.List.{AllByRecursion}
use Rattle.hex.specs.Hex.{encode_lower}
use Rattle.smp_bytes.specs.Text.{guid_text, port_text}
use Rattle.subnet_view.specs.declared.end_port.EndPort.{EndPort}
use Rattle.plan_tables.specs.PlanText.{lid_line, switch_line, block_line}
use Rattle.text_words.specs.Printed.{line_text}
use Rattle.text_words.proofs.Digits.{is_below}
use Rattle.text_words.proofs.NumbersPrinted.{count_is_read, guid_is_read}
use Rattle.text_words.proofs.Printed.{IsWord, decimal_word}
use Rattle.std.proofs.lemmas.Bool.{ltb-true, ne_eqb}
use Rattle.held_tables.specs.declared.held_item.HeldItem.TheVariants.{Lid, Switch, Block}
use Rattle.tables_file.specs.declared.last_lines.LastLines.{LastLines}
use Rattle.held_tables.specs.declared.held.HeldLid.{HeldLid}
use Rattle.held_tables.specs.declared.held.HeldSwitch.{HeldSwitch}
use Rattle.held_tables.specs.Held.{LidRange}
use Rattle.tables_file.specs.TablesLine.{line_in, lmc_line}
use Rattle.plan_tables.specs.PlanRanges.{IsBlock}
use Rattle.tables_file.specs.Reading.{last_lines_after, item_of, lid_after, switch_after, block_with}
use Rattle.tables_file.proofs.Passes.{Passes, passes_line}
use Rattle.tables_file.proofs.WordsPrinted.{guid_is_word, port_is_word, small_is_read, port_is_read, entries_are_word, entries_are_read}

-- no LID so far, or a lesser one
abbrev pub IsBelow : Option HeldLid → ℕ → Type 0
IsBelow None lid = Unit {0}
IsBelow (Some last) lid = last.lid < lid

-- no switch so far, or a lesser one
abbrev pub IsBeforeSwitch : Option ℕ → ℕ → Type 0
IsBeforeSwitch None guid = Unit {0}
IsBeforeSwitch (Some last) guid = last < guid

not_below : (m n : ℕ) → n ≤ m → ltb m n ≡ false
not_below m n h = elim (ltb m n) as (λ t. ltb m n ≡ t → ltb m n ≡ false) [ true ↦ λ e. absurd (omega (arith, ltb-true m n e)) | false ↦ λ e. e ] refl

-- words with a blank between two
joined : (a b c : List ℕ) → (((a ++ 32 ∷ []) ++ b) ++ 32 ∷ []) ++ c ++ 10 ∷ [] ≡ (a ++ 32 ∷ (b ++ 32 ∷ c)) ++ 10 ∷ []
joined a b c = simp append_assoc

joined_four : (a b c d : List ℕ) → (((a ++ 32 ∷ []) ++ b) ++ 32 ∷ (c ++ 32 ∷ [])) ++ d ++ 10 ∷ [] ≡ (a ++ 32 ∷ (b ++ 32 ∷ (c ++ 32 ∷ d))) ++ 10 ∷ []
joined_four a b c d = simp append_assoc

-- and nothing behind the last of them, or two words more
joined_alone : (a b c : List ℕ) → (((a ++ 32 ∷ []) ++ b) ++ 32 ∷ []) ++ c ++ [] ++ 10 ∷ [] ≡ (a ++ 32 ∷ (b ++ 32 ∷ c)) ++ 10 ∷ []
joined_alone a b c = simp append_assoc

joined_five : (a b c d e : List ℕ) → (((a ++ 32 ∷ []) ++ b) ++ 32 ∷ []) ++ c ++ (32 ∷ (d ++ 32 ∷ []) ++ e) ++ 10 ∷ []
    ≡ (a ++ 32 ∷ (b ++ 32 ∷ (c ++ 32 ∷ (d ++ 32 ∷ e)))) ++ 10 ∷ []
joined_five a b c d e = simp append_assoc

-- the words of an LMC
abbrev lmc_words : ℕ → List (List ℕ)
lmc_words zero = []
lmc_words (suc n) = codes "lmc" ∷ decimal (suc n) ∷ []

lmc_words_are : (lmc : ℕ) → lmc ≤ 7 → AllByRecursion IsWord (lmc_words lmc)
lmc_words_are zero small = tt
lmc_words_are (suc n) small = (record { some = omega arith; on = refl; plain = refl }, (decimal_word (suc n) (omega arith), tt))

lmc_is_read : (lmc : ℕ) → lmc ≤ 7 → lmc_line (lmc_words lmc) ≡ Some (Some lmc)
lmc_is_read zero small = refl
lmc_is_read (suc n) small = small_is_read 7 (suc n) (omega arith) small

-- the line of an end port's LIDs
abbrev lid_words : LidRange → List (List ℕ)
lid_words r = codes "lid" ∷ decimal r.first.lid ∷ port_text r.first.port.node r.first.port.port ∷ lmc_words r.lmc

lid_words_are : (r : LidRange) → r.first.lid ≤ 0xBFFF → r.first.port.port ≤ 254 → r.lmc ≤ 7 → AllByRecursion IsWord (lid_words r)
lid_words_are r most port small = (
  record { some = omega arith; on = refl; plain = refl },
  (decimal_word r.first.lid (omega arith), (port_is_word r.first.port.node r.first.port.port port, lmc_words_are r.lmc small)),
)

lid_text : (lid lmc : ℕ) (e : EndPort) → lid_line (lid, lmc, e) ≡ line_text (lid_words (record { first = record { lid = lid; port = e }; lmc = lmc })) ++ 10
    ∷ []
lid_text lid zero e = joined_alone (codes "lid") (decimal lid) (port_text e.node e.port)
lid_text lid (suc n) e =
    rw (ne_eqb (suc n) 0 (λ z. omega (arith, z))) (joined_five (codes "lid") (decimal lid) (port_text e.node e.port) (codes "lmc") (decimal (suc n)))

lid_follows : (number : ℕ) (last : Option HeldLid) (r : LidRange) → IsBelow last r.first.lid → lid_after number last r ≡ Ok (Lid r)
lid_follows number None r below = refl
lid_follows number (Some last) r below = rw (not_below r.first.lid last.lid (omega arith), is_below last.lid r.first.lid below) refl

-- the numbers of an end port's LIDs are in their ranges
pub record IsRangeRight (r : LidRange) : Type 0 where
  pub some : 1 ≤ r.first.lid
  pub most : r.first.lid ≤ 0xBFFF
  pub node : r.first.port.node < 2 ^ 64
  pub port : r.first.port.port ≤ 254
  pub lmc : r.lmc ≤ 7
  pub last : r.first.lid + 2 ^ r.lmc ≤ 0xC000

lid_is_said : (number : ℕ) (index : LastLines) (r : LidRange) → IsRangeRight r → IsBelow index.lid r.first.lid
    → item_of number index (line_in (lid_words r)) ≡ Ok (Lid r)
lid_is_said number index r is below =
    let e = r.first.port in
    rw (
      count_is_read 0xBFFF r.first.lid (omega (arith, is.most)) is.some is.most,
      port_is_read e.node e.port is.node is.port,
      lmc_is_read r.lmc is.lmc,
      not_below 0xC000 (r.first.lid + 2 ^ r.lmc) is.last,
    )
    (lid_follows number index.lid r below)

pub lid_passes : (index : LastLines) (r : LidRange) → IsRangeRight r → IsBelow index.lid r.first.lid
    → Passes index (lid_line (r.first.lid, r.lmc, r.first.port)) (Lid r ∷ []) (last_lines_after index (Lid r))
lid_passes index r is below =
    let P : List ℕ → Type 0 = λ t. Passes index t (Lid r ∷ []) (last_lines_after index (Lid r)) in
    subst P (sym (lid_text r.first.lid r.lmc r.first.port))
    (passes_line index (lid_words r) (Lid r) (lid_words_are r is.most is.port is.lmc) (λ number. lid_is_said number index r is below))

-- the line of a switch
abbrev switch_words : ℕ → ℕ → List (List ℕ)
switch_words top guid = codes "switch" ∷ guid_text guid ∷ codes "top" ∷ decimal top ∷ []

switch_words_are : (top guid : ℕ) → top ≤ 0xBFFF → AllByRecursion IsWord (switch_words top guid)
switch_words_are top guid most = (
  record { some = omega arith; on = refl; plain = refl },
  (guid_is_word guid, (record { some = omega arith; on = refl; plain = refl }, (decimal_word top (omega arith), tt))),
)

switch_text : (top guid : ℕ) → switch_line top guid ≡ line_text (switch_words top guid) ++ 10 ∷ []
switch_text top guid = joined_four (codes "switch") (guid_text guid) (codes "top") (decimal top)

switch_follows : (number : ℕ) (last : Option ℕ) (switch : HeldSwitch) → IsBeforeSwitch last switch.guid → switch_after number last switch ≡ Ok (Switch switch)
switch_follows number None switch before = refl
switch_follows number (Some last) switch before = rw (is_below last switch.guid before) refl

switch_is_said : (number : ℕ) (index : LastLines) (top guid : ℕ) → top ≤ 0xBFFF → guid < 2 ^ 64 → IsBeforeSwitch index.switch guid
    → item_of number index (line_in (switch_words top guid)) ≡ Ok (Switch (record { guid = guid; top = top }))
switch_is_said number index top guid most small before =
    rw (guid_is_read guid small, small_is_read 0xBFFF top (omega arith) most) (switch_follows number index.switch (record { guid = guid; top = top }) before)

pub switch_passes : (index : LastLines) (top guid : ℕ) → top ≤ 0xBFFF → guid < 2 ^ 64 → IsBeforeSwitch index.switch guid
    → Passes index (switch_line top guid) (Switch (record { guid = guid; top = top })
    ∷ []) (last_lines_after index (Switch (record { guid = guid; top = top })))
switch_passes index top guid most small before =
    let held : HeldSwitch = record { guid = guid; top = top } in
    let P : List ℕ → Type 0 = λ t. Passes index t (Switch held ∷ []) (last_lines_after index (Switch held)) in
    subst P (sym (switch_text top guid))
    (passes_line index (switch_words top guid) (Switch held) (switch_words_are top guid most)
    (λ number. switch_is_said number index top guid most small before))

-- the line of a block
abbrev block_words : ℕ → List ℕ → List (List ℕ)
block_words number entries = codes "block" ∷ decimal number ∷ encode_lower entries ∷ []

block_words_are : (number : ℕ) (entries : List ℕ) → number ≤ 767 → IsBlock entries → AllByRecursion IsWord (block_words number entries)
block_words_are number entries most is =
    (record { some = omega arith; on = refl; plain = refl }, (decimal_word number (omega arith), (entries_are_word entries is, tt)))

block_text : (number : ℕ) (entries : List ℕ) → block_line (number, entries) ≡ line_text (block_words number entries) ++ 10 ∷ []
block_text number entries = joined (codes "block") (decimal number) (encode_lower entries)

block_follows : (line next number guid : ℕ) (lid : Option HeldLid) (entries : List ℕ) → next ≤ number
    → block_with line (record { lid = lid; switch = Some guid; block = next }) (Some number) entries ≡ Ok (Block number entries)
block_follows line next number guid lid entries h = rw (not_below number next h) refl

block_is_said : (line next number guid : ℕ) (lid : Option HeldLid) (entries : List ℕ) → next ≤ number → number ≤ 767 → IsBlock entries
    → item_of line (record { lid = lid; switch = Some guid; block = next }) (line_in (block_words number entries)) ≡ Ok (Block number entries)
block_is_said line next number guid lid entries h most is =
    rw (small_is_read 767 number (omega arith) most, entries_are_read entries is) (block_follows line next number guid lid entries h)

pub block_passes : (next number guid : ℕ) (lid : Option HeldLid) (entries : List ℕ) → next ≤ number → number ≤ 767 → IsBlock entries
    → Passes (record { lid = lid; switch = Some guid; block = next }) (block_line (number, entries)) (Block number entries ∷ [])
    (record { lid = lid; switch = Some guid; block = number + 1 })
block_passes next number guid lid entries h most is =
    let index : LastLines = record { lid = lid; switch = Some guid; block = next } in
    let P : List ℕ → Type 0 = λ t. Passes index t (Block number entries ∷ []) (last_lines_after index (Block number entries)) in
    subst P (sym (block_text number entries))
    (passes_line index (block_words number entries) (Block number entries) (block_words_are number entries most is)
    (λ line. block_is_said line next number guid lid entries h most is))
