-- A node's GUID and a port of it as a word.
use Rattle.std.specs.Prelude.{ℕ, List, Option, option_map, option_and_then}
use Rattle.text_words.specs.Numbers.{bare_guid_of, small_of}
use Rattle.text_words.specs.Quoted.{until}

-- the node and the port that `word` spells: a GUID, a slash and a decimal number; None if `word` is of another form,
-- and an inner None if the port is above 254
abbrev pub port_of : List ℕ → Option (ℕ × Option ℕ)
port_of word =
    option_and_then (λ x. option_and_then (λ node. option_map (λ port. (node, port)) (small_of 254 x.1))
    (bare_guid_of x.0)) (until 47 word)
