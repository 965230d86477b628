-- Words, lines and texts as they are printed.
use Rattle.std.specs.Prelude.{ℕ, List, [], ◌∷◌, ◌++◌, decimal}

-- the text of a line: its words, with one blank between each word and the next
abbrev pub line_text : List (List ℕ) → List ℕ
line_text [] = []
line_text (word ∷ []) = word
line_text (word ∷ next ∷ later) = word ++ 32 ∷ line_text (next ∷ later)

-- the text of lines that are lists of words, with a line feed after each line
abbrev pub lines_text : List (List (List ℕ)) → List ℕ
lines_text [] = []
lines_text (line ∷ later) = line_text line ++ 10 ∷ lines_text later

-- a name in double quotes
abbrev pub quoted_text : List ℕ → List ℕ
quoted_text name = 34 ∷ name ++ 34 ∷ []

-- a port in square brackets
abbrev pub bracketed_text : ℕ → List ℕ
bracketed_text port = 91 ∷ decimal port ++ 93 ∷ []

-- a name in double quotes, directly followed by a port in square brackets
abbrev pub named_text : List ℕ → ℕ → List ℕ
named_text name port = 34 ∷ name ++ 34 ∷ bracketed_text port
