-- What a line of a text of tables says: nothing, or a LID, a switch or a block.
use Rattle.std.specs.Prelude.{ℕ, List, [], ◌∷◌, Option, None, Some, option_map, option_and_then, codes, if◌then◌else◌}
use Rattle.std.specs.Str.{bytes_eq}
use Rattle.text_words.specs.Text.{words}
use Rattle.text_words.specs.Numbers.{count_of}
use Rattle.tables_file.specs.declared.tables_line.TextLine.{TextLine}
use Rattle.tables_file.specs.declared.tables_line.TextLine.TheVariants.{Empty, Lid, Switch, Block}
use Rattle.tables_file.specs.declared.tables_line.LidLine.{LidLine}
use Rattle.tables_file.specs.declared.tables_line.SwitchLine.{SwitchLine}
use Rattle.tables_file.specs.declared.tables_line.BlockLine.{BlockLine}
use Rattle.text_words.specs.NodePorts.{port_of}
use Rattle.text_words.specs.Numbers.{bare_guid_of, bytes_of, small_of}
use Rattle.text_words.specs.Text.{two_words}

-- reads `lmc N`; None for any other words. The inner value is N, or None if N is above 7
abbrev pub lmc_in : List ℕ × List ℕ → Option (Option ℕ)
lmc_in x = if bytes_eq x.0 (codes "lmc") then small_of 7 x.1 else None

-- reads the part of a `lid` line after the port, which is `lmc N` or missing; None for any other words. The LMC is 0
-- if the part is missing
abbrev pub lmc_line : List (List ℕ) → Option (Option ℕ)
lmc_line [] = Some (Some 0)
lmc_line (word ∷ rest) = option_and_then lmc_in (two_words (word ∷ rest))

-- a `lid` line with the LID `lid`, the port `p` and the LMC that `rest` gives; None if `rest` gives none
abbrev pub lid_of_port : Option ℕ → List (List ℕ) → ℕ × Option ℕ → Option LidLine
lid_of_port lid rest p = option_map (λ lmc. record { lid = lid; node = p.0; port = p.1; lmc = lmc }) (lmc_line rest)

-- reads the part of a `lid` line after its first word: a LID, a port and possibly an LMC; None for other words
abbrev pub lid_line : List (List ℕ) → Option LidLine
lid_line [] = None
lid_line (lid ∷ []) = None
lid_line (lid ∷ port ∷ rest) =
    option_and_then (λ n. option_and_then (lid_of_port n rest) (port_of port)) (count_of 0xBFFF lid)

-- reads the part of a `switch` line after `guid`, which is `top` and a number; None for any other words, or if `guid`
-- is not a GUID
abbrev pub top_line : List ℕ → List ℕ × List ℕ → Option SwitchLine
top_line guid x =
    if bytes_eq x.0 (codes "top") then option_and_then
    (λ g. option_map (λ t. record { guid = g; top = t }) (small_of 0xBFFF x.1)) (bare_guid_of guid)
    else None

-- reads the part of a `switch` line after its first word: a GUID and a top; None for other words
abbrev pub switch_line : List (List ℕ) → Option SwitchLine
switch_line [] = None
switch_line (guid ∷ rest) = option_and_then (top_line guid) (two_words rest)

-- reads the part of a `block` line after its first word: a number and the entries; None for other words
abbrev pub block_line : List (List ℕ) → Option BlockLine
block_line words =
    option_and_then (λ x. option_and_then (λ n. option_map (λ e. record { number = n; entries = e }) (bytes_of 64 x.1))
    (small_of 767 x.0)) (two_words words)

-- the line of a text of tables that has these words; None if the grammar has no such line
abbrev pub line_in : List (List ℕ) → Option TextLine
line_in [] = Some Empty
line_in (word ∷ rest) =
    if bytes_eq word (codes "lid") then option_map Lid (lid_line rest)
    else if bytes_eq word (codes "switch") then option_map Switch (switch_line rest)
    else if bytes_eq word (codes "block") then option_map Block (block_line rest)
    else None

-- the line of a text of tables that the bytes `line` give; None if the grammar has no such line
unfoldable pub line_of : List ℕ → Option TextLine
line_of line = line_in (words line)
