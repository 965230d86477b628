-- The search for the next end port after a given one, in any order of cells.
use Rattle.std.specs.Prelude.{ℕ, Bool, true, ◌&&◌, Option, None, Some, if◌then◌else◌}
use Rattle.subnet_view.specs.declared.end_port.EndPort.{EndPort}
use Rattle.subnet_view.specs.EndPort.{comes_before}

-- whether `end` comes after `last`; true if `last` is None
abbrev pub is_after : Option (ℕ × EndPort) → ℕ × EndPort → Bool
is_after None end = true
is_after (Some last) end = comes_before last end

-- whether `end` comes before `next`, the next end port found so far; true if `next` is None
abbrev pub is_before : Option (ℕ × EndPort) → ℕ × EndPort → Bool
is_before None end = true
is_before (Some next) end = comes_before end next

-- `end` if it comes after `last` and before `next`, and otherwise `next`
abbrev pub nearer : Option (ℕ × EndPort) → Option (ℕ × EndPort) → ℕ × EndPort → Option (ℕ × EndPort)
nearer last next end = if is_after last end && is_before next end then Some end else next
