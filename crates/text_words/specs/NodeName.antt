-- Which texts are names of nodes.
use Rattle.std.specs.Prelude.{ℕ, Bool, List, Option, None, Some, length, ◌==◌, ◌&&◌, not, nat_le, if◌then◌else◌}
use Rattle.std.specs.List.{list_all}

-- whether `b` is a printable ASCII character other than a double quote
abbrev pub is_name_byte : ℕ → Bool
is_name_byte b = nat_le 0x20 b && nat_le b 0x7E && not (b == 34)

-- whether `name` has 1 to 64 characters, each of which a name may contain (`is_name_byte`)
abbrev pub is_name : List ℕ → Bool
is_name name = nat_le 1 (length name) && nat_le (length name) 64 && list_all is_name_byte name

-- `bytes` if they are a name, else None
abbrev pub name_in : List ℕ → Option (List ℕ)
name_in bytes = if is_name bytes then Some bytes else None
