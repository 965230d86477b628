-- The ranges of the numbers and packets that lines to a manager contain.
use Rattle.std.specs.Prelude.{◌≡◌, ◌≤◌, ◌<◌, ◌^◌, ℕ, List, length}
use Rattle.serve_lines.specs.ManageLine.{manage_line_of}
use Rattle.serve_lines.specs.ServeLine.{line_of}
use Rattle.serve_lines.specs.declared.manage_line.ManageLine.{ManageLine}
use Rattle.serve_lines.specs.declared.manage_line.ManageLine.TheVariants.{Told}
use Rattle.serve_lines.specs.declared.manage_line.ManageWord.{ManageWord}
use Rattle.serve_lines.specs.declared.manage_line.ManageWord.TheVariants.{LightAnswer, Packet as PacketSaid, Sa as SaSaid}
use Rattle.serve_lines.specs.declared.serve_line.ServeLine.{ServeLine}
use Rattle.serve_lines.specs.declared.serve_line.ServeLine.TheVariants.{Floor, Packet}

-- a packet has 256 bytes, and the LID that it came from fits in 16 bits
abbrev pub IsPacket : List ℕ → ℕ → Type 0
IsPacket bytes from = (length bytes ≡ 256) × (from ≤ 0xFFFF)

-- what a line says is in range: a floor is from 1 to 2^32 - 1, and a packet and its LID have their sizes
abbrev pub IsRead : ServeLine → Type 0
IsRead (Floor floor) = (1 ≤ floor) × (floor ≤ 0xFFFFFFFF)
IsRead (Packet bytes from) = IsPacket bytes from
IsRead line = Unit {0}

-- whatever bytes a line has, what it says is in range
abbrev pub ReadLinesAreInRange : Type 0
ReadLinesAreInRange = (line : List ℕ) → IsRead (line_of line)

-- a packet that a manager that decides by itself is told of, and its LID, have their sizes
abbrev pub IsSaid : ManageWord → Type 0
IsSaid (PacketSaid bytes from) = IsPacket bytes from
IsSaid (SaSaid bytes from) = IsPacket bytes from
IsSaid (LightAnswer bytes) = length bytes ≡ 256
IsSaid said = Unit {0}

-- what a line tells a manager that decides by itself is in range: the time fits in 64 bits, and a packet and its LID
-- have their sizes
abbrev pub IsTold : ManageLine → Type 0
IsTold (Told ms said) = (ms < 2 ^ 64) × IsSaid said
IsTold line = Unit {0}

-- whatever bytes a line has, what it tells a manager that decides by itself is in range
abbrev pub ToldLinesAreInRange : Type 0
ToldLinesAreInRange = (line : List ℕ) → IsTold (manage_line_of line)
