-- Names in double quotes and ports in square brackets, as words are read.
use Rattle.std.specs.Prelude.{ℕ, List, [], ◌∷◌, Option, None, Some, option_map, option_and_then, ◌==◌, if◌then◌else◌}
use Rattle.text_words.specs.Numbers.{count_of}
use Rattle.text_words.specs.NodeName.{name_in}

-- the bytes before the first `close`, and the bytes after it; None if there is no `close`
abbrev pub until : ℕ → List ℕ → Option (List ℕ × List ℕ)
until close [] = None
until close (b ∷ bytes) = if b == close then Some ([], bytes) else option_map (λ x. (b ∷ x.0, x.1)) (until close bytes)

-- the bytes between a `first` at the beginning and the next `close`, and the bytes after that `close`. None if the
-- bytes do not begin with `first`, or if no `close` follows
abbrev pub enclosed : ℕ → ℕ → List ℕ → Option (List ℕ × List ℕ)
enclosed first close [] = None
enclosed first close (b ∷ bytes) = if b == first then until close bytes else None

-- the first of two parts if the second is empty, else None
abbrev pub alone : List ℕ × List ℕ → Option (List ℕ)
alone (part, []) = Some part
alone (part, b ∷ rest) = None

-- the name that `word` has in double quotes; None if `word` is anything else
abbrev pub quoted_name : List ℕ → Option (List ℕ)
quoted_name word = option_and_then name_in (option_and_then alone (enclosed 34 34 word))

-- the port that `word` has in square brackets. None if `word` is not a number in square brackets, and an inner None if
-- the number is not from 1 to 254
abbrev pub bracketed_port : List ℕ → Option (Option ℕ)
bracketed_port word = option_and_then (count_of 254) (option_and_then alone (enclosed 91 93 word))

-- the name in double quotes and the port in square brackets that `word` consists of; None if `word` is anything else.
-- The port is None if its number is not from 1 to 254
abbrev pub named_port : List ℕ → Option (List ℕ × Option ℕ)
named_port word =
    option_and_then (λ x. option_and_then (λ name. option_map (λ port. (name, port)) (bracketed_port x.1))
    (name_in x.0)) (enclosed 34 34 word)
