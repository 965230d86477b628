-- An order of switches as text.
use Rattle.std.specs.Prelude.{ℕ, List, ◌++◌, codes}
use Rattle.std.specs.List.{flat_map}
use Rattle.smp_bytes.specs.Text.{guid_text}

-- the line of the switch `guid`
abbrev pub order_line : ℕ → List ℕ
order_line guid = codes "0x" ++ guid_text guid ++ codes "\n"

-- a line for each of the switches `guids`, in the order of `guids`
abbrev pub order_text : List ℕ → List ℕ
order_text guids = flat_map order_line guids
