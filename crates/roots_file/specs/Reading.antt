-- What a text of roots says: the roots that its lines name, in the order of the lines, or its first fault.
use Rattle.std.specs.Prelude.{ℕ, ◌+◌, ◌==◌, Bool, false, List, [], ◌∷◌, ◌++◌, Option, None, Some, Result, Ok, Err, if◌then◌else◌}
use Rattle.std.specs.List.{list_any}
use Rattle.text_words.specs.Text.{lines}
use Rattle.roots_file.specs.declared.roots_text_fault.RootsTextError.{RootsTextError}
use Rattle.roots_file.specs.declared.roots_text_fault.RootsTextError.TheVariants.{Repeated}
use Rattle.roots_file.specs.RootsTextFault.{RootsLineFault}
use Rattle.roots_file.specs.Line.{root_on}

-- whether `root` is in `roots`
abbrev pub is_among : List ℕ → ℕ → Bool
is_among roots root = list_any (λ r. r == root) roots

-- the roots, with `root` appended; `Repeated` at the line with the number `number` if `root` is already among them
abbrev pub root_more : ℕ → List ℕ → ℕ → Result (List ℕ) RootsLineFault
root_more number roots root =
    if is_among roots root then Err (record { line = number; wrong = Repeated })
    else Ok (roots ++ root ∷ [])

-- the roots, with what the line with the number `number` says appended, or the fault of that line
abbrev pub more_by : ℕ → List ℕ → Result (Option ℕ) RootsTextError → Result (List ℕ) RootsLineFault
more_by number roots (Ok None) = Ok roots
more_by number roots (Ok (Some root)) = root_more number roots root
more_by number roots (Err what) = Err (record { line = number; wrong = what })

-- the roots, with what `line` says appended, or the fault of `line`. The number of `line` is `number`
abbrev pub with_line : ℕ → List ℕ → List ℕ → Result (List ℕ) RootsLineFault
with_line number roots line = more_by number roots (root_on line)

-- what `next` makes of the roots, if there is no fault yet; otherwise that fault
abbrev pub then_from : Result (List ℕ) RootsLineFault → (List ℕ → Result (List ℕ) RootsLineFault)
    → Result (List ℕ) RootsLineFault
then_from (Ok roots) next = next roots
then_from (Err fault) next = Err fault

-- the roots, with what the lines say appended, or the first fault of the lines. The first of these lines has the number
-- `number`
abbrev pub with_lines : ℕ → List ℕ → List (List ℕ) → Result (List ℕ) RootsLineFault
with_lines number roots [] = Ok roots
with_lines number roots (line ∷ later) =
    then_from (with_line number roots line) (λ more. with_lines (number + 1) more later)

-- what `text` says: the roots that its lines name, or its first fault
unfoldable pub roots_of : List ℕ → Result (List ℕ) RootsLineFault
roots_of text = with_lines 1 [] (lines text)

-- the first fault, by lines alone ---------------------------------------------------------------------

-- whether what a line says is the root `root`
abbrev pub is_root : ℕ → Result (Option ℕ) RootsTextError → Bool
is_root root (Ok (Some named)) = named == root
is_root root _ = false

-- whether `line` names `root`
abbrev pub names : ℕ → List ℕ → Bool
names root line = is_root root (root_on line)

-- the fault of a line that comes after the lines `above`, given what the line says: its own fault, or `Repeated` if one
-- of `above` names the same root; None if the line has neither fault
abbrev pub wrong_below : List (List ℕ) → Result (Option ℕ) RootsTextError → Option RootsTextError
wrong_below above (Ok None) = None
wrong_below above (Ok (Some root)) = if list_any (names root) above then Some Repeated else None
wrong_below above (Err what) = Some what
