-- The head of a file: its magic and, in newer store files, a header with the floor after the magic.
use Rattle.std.specs.Prelude.{ℕ, Bool, true, ◌&&◌, List, [], ◌∷◌, ◌++◌, Option, None, Some, Result, Ok, Err, IsTrue, length}
use Rattle.std.specs.Prelude.{take, drop, codes, nat_eq, nat_lt, unwrap_or, if◌then◌else◌}
use Rattle.std.specs.Int.{to_be_bytes, from_be_bytes, w32}
use Rattle.std.specs.List.{starts_with}
use Rattle.std.specs.Str.{bytes_eq}
use Rattle.reply_facts.specs.Sighting.{is_generation}
use Rattle.record_file.specs.declared.file_fault.FileFault.{FileFault}
use Rattle.record_file.specs.declared.file_fault.FileFault.TheVariants.{Magic, Truncated, BadFloor}
use Rattle.record_file.specs.declared.format.Format.{Format}
use Rattle.record_file.specs.declared.format.Format.TheVariants.{Reports, Cells}

-- the magic of store files that have a header with a floor after it
abbrev pub floored_magic : List ℕ
floored_magic = codes "IBSMSTO2"

-- the header of a floor: the floor in four bytes, and four zero bytes
abbrev pub header : ℕ → List ℕ
header floor = to_be_bytes w32 floor ++ (0 ∷ 0 ∷ 0 ∷ 0 ∷ [])

-- the bytes before the records of a file of this format
abbrev pub head_bytes : Format → List ℕ
head_bytes Reports = codes "IBSMREP1"
head_bytes (Cells None) = codes "IBSMSTO1"
head_bytes (Cells (Some floor)) = floored_magic ++ header floor

-- the number of bytes before the records of a file of this format
abbrev pub head_size : Format → ℕ
head_size Reports = 8
head_size (Cells None) = 8
head_size (Cells (Some floor)) = 16

-- whether the floor in the head, if there is one, is a generation
abbrev pub is_format : Format → Bool
is_format Reports = true
is_format (Cells None) = true
is_format (Cells (Some floor)) = is_generation floor

-- a file can have this format: the floor in its head, if there is one, is a generation (`is_format`)
abbrev pub IsFormat : Format → Type 0
IsFormat format = IsTrue (is_format format)

-- the floor in the head of a file of this format; 1 if the head has none
abbrev pub floor_of : Format → ℕ
floor_of Reports = 1
floor_of (Cells head_floor) = unwrap_or head_floor 1

-- `floor` if it is a generation and `bytes` are its header; otherwise None
abbrev pub if_header : List ℕ → ℕ → Option ℕ
if_header bytes floor = if is_generation floor && bytes_eq (header floor) bytes then Some floor else None

-- if `bytes` are a header, its floor; otherwise None
abbrev pub floor_told : List ℕ → Option ℕ
floor_told bytes = if_header bytes (from_be_bytes w32 (take 4 bytes))

-- the format of a store file that has this floor in its head; `BadFloor` if no floor is given
abbrev pub floored : Option ℕ → Result Format FileFault
floored None = Err BadFloor
floored (Some floor) = Ok (Cells (Some floor))

-- the format of bytes that begin with `floored_magic`, according to the header after it. `Truncated` at 8 if the header
-- is incomplete, and `BadFloor` if it is bad
abbrev pub behind_floored : List ℕ → Result Format FileFault
behind_floored bytes =
    if nat_lt (length bytes) 16 then Err (Truncated 8) else floored (floor_told (take 8 (drop 8 bytes)))

-- the format of a file according to its first bytes, or the fault of its head
abbrev pub format_in : List ℕ → Result Format FileFault
format_in bytes =
    if starts_with nat_eq bytes (head_bytes Reports) then Ok Reports
    else if starts_with nat_eq bytes (head_bytes (Cells None)) then Ok (Cells None)
    else if starts_with nat_eq bytes floored_magic then behind_floored bytes
    else Err Magic
