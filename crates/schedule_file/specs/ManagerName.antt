-- The names of subnet managers.
use Rattle.std.specs.Prelude.{ℕ, Bool, List, Option, None, Some, length, ◌&&◌, nat_le, if◌then◌else◌}
use Rattle.std.specs.Char.{is_ascii_alphanumeric}
use Rattle.std.specs.List.{list_all}

-- whether `name` is 1 to 16 ASCII letters and digits
abbrev pub is_manager_name : List ℕ → Bool
is_manager_name name = nat_le 1 (length name) && nat_le (length name) 16 && list_all is_ascii_alphanumeric name

-- the bytes if they are a manager's name, otherwise None
abbrev pub manager_name_in : List ℕ → Option (List ℕ)
manager_name_in bytes = if is_manager_name bytes then Some bytes else None
