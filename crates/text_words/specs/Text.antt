-- A text as lines, and a line as words: a `#` outside quotes begins a comment.
use Rattle.std.specs.Prelude.{ℕ, Bool, false, List, [], ◌∷◌, Option, None, Some, ◌==◌, ◌&&◌, ◌||◌, not, if◌then◌else◌}

-- whether the bytes begin with `b`
abbrev pub begins_with : ℕ → List ℕ → Bool
begins_with b [] = false
begins_with b (c ∷ bytes) = c == b

-- the lines, with the byte `b` put before the first line; if there are no lines, one line with `b` alone
abbrev pub onto_first : ℕ → List (List ℕ) → List (List ℕ)
onto_first b [] = (b ∷ []) ∷ []
onto_first b (line ∷ later) = (b ∷ line) ∷ later

-- the lines of a text. Each ends with a line feed, or with a carriage return and a line feed; the last line may instead
-- end with the text
abbrev pub lines : List ℕ → List (List ℕ)
lines [] = []
lines (b ∷ bytes) = if b == 10 then []
    ∷ lines bytes else (if b == 13 && begins_with 10 bytes then lines bytes else onto_first b (lines bytes))

-- whether the byte `b` is a blank or a tab
abbrev pub is_blank : ℕ → Bool
is_blank b = b == 32 || b == 9

-- the byte `b` put before the first word; the later words are unchanged
abbrev pub onto_word : ℕ → List ℕ × List (List ℕ) → List ℕ × List (List ℕ)
onto_word b parts = (b ∷ parts.0, parts.1)

-- the first word, unless it is empty, and the later words
abbrev pub words_in : List ℕ × List (List ℕ) → List (List ℕ)
words_in ([], later) = later
words_in (b ∷ word, later) = (b ∷ word) ∷ later

-- whether a word ends before the byte `b`: `b` is a blank, a tab or a `#`, and is outside quotes
abbrev pub is_behind_word : Bool → ℕ → Bool
is_behind_word quoted b = not quoted && (b == 35 || is_blank b)

-- whether quotes are open after the byte `b`; `quoted` says whether they are open before `b`. A double quote opens or
-- closes them
abbrev pub is_quoted_after : Bool → ℕ → Bool
is_quoted_after quoted b = if b == 34 then not quoted else quoted

-- the rest of the current word and the words after it; `quoted` says whether the rest begins within quotes. A `#`
-- outside quotes ends the line
abbrev pub parts : Bool → List ℕ → List ℕ × List (List ℕ)
parts quoted [] = ([], [])
parts quoted (b ∷ bytes) =
    if is_behind_word quoted b then ([], if b == 35 then [] else words_in (parts false bytes))
    else onto_word b (parts (is_quoted_after quoted b) bytes)

-- the words of `line`
abbrev pub words : List ℕ → List (List ℕ)
words line = words_in (parts false line)

-- the only word of a list; None if the list has no word or several
abbrev pub only_word : List (List ℕ) → Option (List ℕ)
only_word (word ∷ []) = Some word
only_word _ = None

-- the two words of a list of two; None if the list has more words, or fewer
abbrev pub two_words : List (List ℕ) → Option (List ℕ × List ℕ)
two_words (one ∷ other ∷ []) = Some (one, other)
two_words _ = None

-- a line without the carriage return at its end, if it ends with one
abbrev pub without_return : List ℕ → List ℕ
without_return [] = []
without_return (b ∷ []) = if b == 13 then [] else b ∷ []
without_return (b ∷ c ∷ bytes) = b ∷ without_return (c ∷ bytes)
