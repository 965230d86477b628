-- What a line says to a manager: a request, a floor, a packet, a timeout, or what to show.
use Rattle.std.specs.Prelude.{ℕ, List, [], ◌∷◌, ◌++◌, length, Option, None, Some, codes, nat_lt, ◌==◌, ◌&&◌, map, if◌then◌else◌}
use Rattle.std.specs.Prelude.{option_map, option_and_then}
use Rattle.std.specs.Option.{option_map_or}
use Rattle.std.specs.Result.{result_ok}
use Rattle.std.specs.Str.{bytes_eq}
use Rattle.hex.specs.Hex.{decode_sized}
use Rattle.text_words.specs.Text.{words}
use Rattle.text_words.specs.Numbers.{number_of, lid_of}
use Rattle.schedule_file.specs.ManagerWords.{asked_by, generation_of, shown_by}
use Rattle.schedule_file.specs.declared.command.Ask.TheVariants.{Poll}
use Rattle.serve_lines.specs.declared.serve_line.ServeLine.{ServeLine}
use Rattle.serve_lines.specs.declared.serve_line.ServeLine.TheVariants.{Ask, Floor, Packet, Timeout, GiveUp, Show, Managers, Empty, Wrong}

-- words ------------------------------------------------------------------------------------------

-- if the word is 512 hex digits, the 256 bytes that these digits give, two for each byte; otherwise None
abbrev pub packet_of : List ℕ → Option (List ℕ)
packet_of word = result_ok (decode_sized word 256)

-- if the word is 1 to 16 hex digits, the number that these digits give; otherwise None
abbrev pub hex_number : List ℕ → Option ℕ
hex_number word = if nat_lt 16 (length word) then None else number_of 16 word

-- if the word is 16 hex digits, the TransactionID that these digits give; otherwise None
abbrev pub transaction_of : List ℕ → Option ℕ
transaction_of word = if length word == 16 then hex_number word else None

-- if the word is a command that shows something about a manager, the meaning of its line; otherwise None
abbrev pub show_of : List ℕ → Option ServeLine
show_of word = option_map Show (shown_by word)

-- what a line of one word says to a live manager; None if the grammar has no such line
abbrev pub bare_of : List ℕ → Option ServeLine
bare_of word =
    option_map_or (λ what. Some (Ask what)) (asked_by word)
    (if bytes_eq word (codes "timeout") then Some GiveUp
    else if bytes_eq word (codes "managers") then Some Managers
    else show_of word)

-- what a line of two words says to a live manager; None if the grammar has no such line
abbrev pub of_one : List ℕ → List ℕ → Option ServeLine
of_one word arg =
    if bytes_eq word (codes "poll") then option_map (λ lid. Ask (Poll (Some lid))) (lid_of arg)
    else if bytes_eq word (codes "floor") then option_map Floor (generation_of arg)
    else if bytes_eq word (codes "timeout") then option_map Timeout (transaction_of arg)
    else None

-- the packet and the LID that it came from, as the four words `packet`, the packet, `from` and the LID name them; None
-- for other words
abbrev pub packet_in : List ℕ → List ℕ → List ℕ → List ℕ → Option (List ℕ × ℕ)
packet_in word hex between lid =
    if bytes_eq word (codes "packet") && bytes_eq between (codes "from")
    then option_and_then (λ bytes. option_map (λ from. (bytes, from)) (lid_of lid)) (packet_of hex)
    else None

-- the packet and the LID that three words and those after them name; None if these are not the words of a packet
abbrev pub packet_behind : List ℕ → List ℕ → List ℕ → List (List ℕ) → Option (List ℕ × ℕ)
packet_behind word hex between [] = None
packet_behind word hex between (lid ∷ []) = packet_in word hex between lid
packet_behind word hex between (lid ∷ more ∷ rest) = None

-- lines ------------------------------------------------------------------------------------------

-- what the line with these words says to a live manager; None if the grammar has no such line
abbrev pub line_in : List (List ℕ) → Option ServeLine
line_in [] = Some Empty
line_in (word ∷ []) = bare_of word
line_in (word ∷ arg ∷ []) = of_one word arg
line_in (word ∷ hex ∷ between ∷ rest) =
    option_map (λ packet. Packet packet.0 packet.1) (packet_behind word hex between rest)

-- the greatest number of bytes that a line may have, without its line feed
abbrev pub most_bytes : ℕ
most_bytes = 600

-- the meaning of a line; `Wrong` if the line has more than `most_bytes` bytes, or if the grammar has no such line
unfoldable pub line_of : List ℕ → ServeLine
line_of line =
    if nat_lt most_bytes (length line) then Wrong else option_map_or (λ said. said) (line_in (words line)) Wrong

-- lines as they come -----------------------------------------------------------------------------

-- the lines that end in the given bytes, without their line feeds; the first line begins with the bytes `begun`, and
-- bytes after the last line feed are not a line yet
abbrev pub lines_ended : List ℕ → List ℕ → List (List ℕ)
lines_ended begun [] = []
lines_ended begun (b ∷ bytes) = if b == 10 then begun ∷ lines_ended [] bytes else lines_ended (begun ++ b ∷ []) bytes

-- the bytes after the last line feed; if there is no line feed, `begun` and then all bytes
abbrev pub begun_by : List ℕ → List ℕ → List ℕ
begun_by begun [] = begun
begun_by begun (b ∷ bytes) = if b == 10 then begun_by [] bytes else begun_by (begun ++ b ∷ []) bytes

-- the meanings of the lines that end in `bytes`; the first line begins with the bytes `begun`
abbrev pub lines_told : List ℕ → List ℕ → List ServeLine
lines_told begun bytes = map line_of (lines_ended begun bytes)
