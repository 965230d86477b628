-- What a line says to a manager that decides by itself: the time, and a packet, a request, or what to show.
use Rattle.std.specs.Prelude.{ℕ, List, [], ◌∷◌, ◌-◌, ◌^◌, length, Option, None, Some, codes, nat_lt, if◌then◌else◌}
use Rattle.std.specs.Prelude.{option_map, option_and_then}
use Rattle.std.specs.Option.{option_map_or}
use Rattle.std.specs.Str.{bytes_eq}
use Rattle.text_words.specs.Text.{words}
use Rattle.text_words.specs.Numbers.{number_up_to}
use Rattle.schedule_file.specs.ManagerWords.{shown_by}
use Rattle.serve_lines.specs.ServeLine.{most_bytes, packet_behind, packet_of}
use Rattle.serve_lines.specs.declared.manage_line.ManageLine.{ManageLine}
use Rattle.serve_lines.specs.declared.manage_line.ManageLine.TheVariants.{Told, Empty, Wrong}
use Rattle.serve_lines.specs.declared.manage_line.ManageWord.{ManageWord}
use Rattle.serve_lines.specs.declared.manage_line.ManageWord.TheVariants.{Time, Packet, Sa, Look, Light, LightAnswer, Leave, Show, Managers}

-- words ------------------------------------------------------------------------------------------

-- the time, in milliseconds, that `word` writes in decimal; None if `word` does not write a number, or if the number
-- does not fit in 64 bits
abbrev pub time_of : List ℕ → Option ℕ
time_of word = number_up_to (2 ^ 64 - 1) word

-- what the only word behind the time says; None if the grammar has no such word
abbrev pub word_of : List ℕ → Option ManageWord
word_of word =
    if bytes_eq word (codes "look") then Some Look
    else if bytes_eq word (codes "light") then Some Light
    else if bytes_eq word (codes "leave") then Some Leave
    else if bytes_eq word (codes "managers") then Some Managers
    else option_map Show (shown_by word)

-- what two words say: `light` and a packet in hex digits; None if the grammar has no such words
abbrev pub light_of : List ℕ → List ℕ → Option ManageWord
light_of word hex = if bytes_eq word (codes "light") then option_map LightAnswer (packet_of hex) else None

-- what three words and those after them say: those behind `sa` are those behind `packet`; None if the grammar has no
-- such words
abbrev pub long_of : List ℕ → List ℕ → List ℕ → List (List ℕ) → Option ManageWord
long_of word hex between rest =
    if bytes_eq word (codes "sa")
    then option_map (λ packet. Sa packet.0 packet.1) (packet_behind (codes "packet") hex between rest)
    else option_map (λ packet. Packet packet.0 packet.1) (packet_behind word hex between rest)

-- what the words behind the time say; None if the grammar has no such words
abbrev pub behind_time : List (List ℕ) → Option ManageWord
behind_time [] = Some Time
behind_time (word ∷ []) = word_of word
behind_time (word ∷ hex ∷ []) = light_of word hex
behind_time (word ∷ hex ∷ between ∷ rest) = long_of word hex between rest

-- lines ------------------------------------------------------------------------------------------

-- what the line with these words says to a manager that decides by itself; None if the grammar has no such line
abbrev pub line_in : List (List ℕ) → Option ManageLine
line_in [] = Some Empty
line_in (time ∷ rest) = option_and_then (λ ms. option_map (λ said. Told ms said) (behind_time rest)) (time_of time)

-- the meaning of a line; `Wrong` if the line has more than `most_bytes` bytes, or if the grammar has no such line
unfoldable pub manage_line_of : List ℕ → ManageLine
manage_line_of line =
    if nat_lt most_bytes (length line) then Wrong else option_map_or (λ told. told) (line_in (words line)) Wrong
