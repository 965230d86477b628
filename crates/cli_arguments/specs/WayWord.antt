-- The word that names a packet: who sends it, and its LID.
use Rattle.std.specs.Prelude.{ℕ, Bool, true, List, Option, None, Some, is_some, option_and_then, option_map}
use Rattle.text_words.specs.NodePorts.{port_of}
use Rattle.text_words.specs.Numbers.{count_of}
use Rattle.text_words.specs.Quoted.{until}

-- the node, the port and the LID that `word` names: a node and a port of it, a comma, and a LID from 1 to 49,151; None
-- if `word` is of another form
abbrev pub packet_named : List ℕ → Option (ℕ × ℕ × ℕ)
packet_named word = option_and_then (λ parts. option_and_then (λ end. option_and_then (λ port. option_and_then
    (λ lid. option_map (λ l. (end.0, port, l)) lid) (count_of 49151 parts.1)) end.1) (port_of parts.0)) (until 44 word)

-- a packet, if a word names one, is named as it has to be
abbrev pub is_way : Option (List ℕ) → Bool
is_way None = true
is_way (Some word) = is_some (packet_named word)
