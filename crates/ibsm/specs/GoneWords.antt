-- Words that the program took in an earlier release, and what to use instead.
use Rattle.std.specs.Prelude.{ℕ, List, [], codes, if◌then◌else◌, string_bytes}
use Rattle.std.specs.List.{flat_map}
use Rattle.std.specs.Str.{bytes_eq}
use Rattle.std.specs.declared.string.String.{String}

-- the line that says what to use instead of `word`; empty if `word` is not gone
abbrev pub successor : List ℕ → List ℕ
successor word =
    if bytes_eq word (codes "order-of") then
    codes "in place of 'order-of TABLES FILE..': 'order --held TABLES FILE..'\n"
    else if bytes_eq word (codes "--told-order") then
    codes "in place of 'next --told-order': 'next', which goes by an order that the tables imply\n"
    else if bytes_eq word (codes "--answers-as-asked") then
    codes "in place of '--answers-as-asked': 'audit --lanes' alone, which also tells what holds with answers\n"
    else []

-- for each of `words` that is gone, in the order of `words`, its line
abbrev pub successors_text : {Z : Type 0} → List (String Z) → List ℕ
successors_text words = flat_map (λ word. successor (string_bytes word)) words
