-- What a line of a text of lanes says: nothing, lanes, a map, a level, or a block of levels.
use Rattle.std.specs.Prelude.{ℕ, List, [], ◌∷◌, Option, None, Some, option_map, option_and_then, codes, if◌then◌else◌}
use Rattle.std.specs.Str.{bytes_eq}
use Rattle.text_words.specs.Text.{words}
use Rattle.lanes_file.specs.declared.lanes_line.LanesLine.{LanesLine}
use Rattle.lanes_file.specs.declared.lanes_line.LanesLine.TheVariants.{Empty, Lanes, Map, Level, Block}
use Rattle.lanes_file.specs.declared.lanes_line.MapLine.{MapLine}
use Rattle.lanes_file.specs.declared.lanes_line.LevelsLine.{LevelsLine}
use Rattle.text_words.specs.NodePorts.{port_of}
use Rattle.text_words.specs.Numbers.{bare_guid_of, bytes_of, small_of}
use Rattle.text_words.specs.Text.{only_word}

-- the 16 bytes of a `lanes` line, given the words after its first word; None if these are not a single word that spells
-- 16 bytes
abbrev pub lanes_line : List (List ℕ) → Option (List ℕ)
lanes_line words = option_and_then (bytes_of 16) (only_word words)

-- the `sl2vl` line with these words after its first word. None unless they spell a GUID, a number for each port, and 16
-- bytes. A port above 254 is None in the line
abbrev pub map_of : List ℕ → List ℕ → List ℕ → List ℕ → Option MapLine
map_of node into out lanes =
    option_and_then (λ g. option_and_then (λ i. option_and_then (λ o. option_map
    (λ h. record { node = g; into = i; out = o; lanes = h }) (bytes_of 16 lanes)) (small_of 254 out))
    (small_of 254 into)) (bare_guid_of node)

-- the `sl2vl` line with these words after its first word: a GUID, two ports and 16 bytes; None for other words
abbrev pub map_line : List (List ℕ) → Option MapLine
map_line [] = None
map_line (node ∷ []) = None
map_line (node ∷ into ∷ []) = None
map_line (node ∷ into ∷ out ∷ rest) = option_and_then (map_of node into out) (only_word rest)

-- the level of a `level` line, given the words after its first word: one word that is a decimal number; None for other
-- words. The inner value is None if the number is above 15
abbrev pub level_line : List (List ℕ) → Option (Option ℕ)
level_line words = option_and_then (small_of 15) (only_word words)

-- the `levels` line with these words after its first word. None unless they spell a node with a port, a number, and 64
-- bytes. In the line, a port above 254 is None, and so is a number above 767
abbrev pub block_of : List ℕ → List ℕ → List ℕ → Option LevelsLine
block_of port number levels =
    option_and_then (λ p. option_and_then (λ n. option_map
    (λ h. record { node = p.0; port = p.1; number = n; levels = h }) (bytes_of 64 levels)) (small_of 767 number))
    (port_of port)

-- the `levels` line with these words after its first word: a node with a port, a number and 64 bytes; None for other
-- words
abbrev pub block_line : List (List ℕ) → Option LevelsLine
block_line [] = None
block_line (port ∷ []) = None
block_line (port ∷ number ∷ rest) = option_and_then (block_of port number) (only_word rest)

-- the line of a text of lanes that has these words; None if the grammar has no such line
abbrev pub line_in : List (List ℕ) → Option LanesLine
line_in [] = Some Empty
line_in (word ∷ rest) =
    if bytes_eq word (codes "lanes") then option_map Lanes (lanes_line rest)
    else if bytes_eq word (codes "sl2vl") then option_map Map (map_line rest)
    else if bytes_eq word (codes "level") then option_map Level (level_line rest)
    else if bytes_eq word (codes "levels") then option_map Block (block_line rest)
    else None

-- what a line of a text of lanes says; None if the grammar has no such line
unfoldable pub line_of : List ℕ → Option LanesLine
line_of line = line_in (words line)
