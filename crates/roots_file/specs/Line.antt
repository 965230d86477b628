-- What a line of a text of roots says: nothing, or a root.
use Rattle.std.specs.Prelude.{ℕ, List, [], ◌∷◌, Option, None, Some, Result, Ok, Err, take, drop, length, codes, not, nat_le, ◌==◌, ◌&&◌, if◌then◌else◌}
use Rattle.std.specs.Str.{bytes_eq}
use Rattle.text_words.specs.Text.{words}
use Rattle.text_words.specs.Numbers.{number_of}
use Rattle.roots_file.specs.declared.roots_text_fault.RootsTextError.{RootsTextError}
use Rattle.roots_file.specs.declared.roots_text_fault.RootsTextError.TheVariants as wrong

-- the digits of a word: what follows `0x` if `word` begins with `0x`, and otherwise `word` itself
abbrev pub digits_of : List ℕ → List ℕ
digits_of word = if bytes_eq (take 2 word) (codes "0x") then drop 2 word else word

-- the root that `digits` spell, given the number that they spell in hex. The fault is `Syntax` if the number is None,
-- since `digits` spell none, and `Guid` if there are over sixteen digits or the number is 0
abbrev pub guid_by : List ℕ → Option ℕ → Result ℕ RootsTextError
guid_by digits None = Err wrong.Syntax
guid_by digits (Some n) = if nat_le (length digits) 16 && not (n == 0) then Ok n else Err wrong.Guid

-- the root that `word` names in hex digits, with or without `0x`; `Syntax` or `Guid` if `word` does not name a root
abbrev pub root_of : List ℕ → Result ℕ RootsTextError
root_of word = guid_by (digits_of word) (number_of 16 (digits_of word))

-- what a line with one word says, given what the word is read as: a root, or a fault
abbrev pub on_line : Result ℕ RootsTextError → Result (Option ℕ) RootsTextError
on_line (Ok root) = Ok (Some root)
on_line (Err what) = Err what

-- what the words of a line say: nothing if there is no word, and a root if there is one word; `Syntax` if there are
-- more
abbrev pub root_in : List (List ℕ) → Result (Option ℕ) RootsTextError
root_in [] = Ok None
root_in (word ∷ []) = on_line (root_of word)
root_in _ = Err wrong.Syntax

-- what `line` says: nothing, a root, or a fault
unfoldable pub root_on : List ℕ → Result (Option ℕ) RootsTextError
root_on line = root_in (words line)
