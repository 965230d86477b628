-- The bytes that are kept of the line that has begun, and the effect of each byte.
use Rattle.std.specs.Prelude.{ℕ, List, [], ◌∷◌, ◌++◌, length, nat_le, ◌==◌, if◌then◌else◌}
use Rattle.schedule_lines.specs.Outcome.{Outcome, and_then, quiet}
use Rattle.serve_lines.specs.ServeLine.{most_bytes}
use Rattle.serve_run.specs.Seat.{Seat, line_served}

-- a manager, and the bytes that are kept of the line that has begun
pub record ServerValue : Type 0 where
  pub seat : Seat
  pub begun : List ℕ

-- `begun` with the byte `b` appended; `begun` itself if `begun` is already longer than a line may be
abbrev pub kept_with : List ℕ → ℕ → List ℕ
kept_with begun b = if nat_le (length begun) most_bytes then begun ++ b ∷ [] else begun

-- the outcome `o` of handling a line, as an outcome of the server, which then has begun no line
abbrev pub after_kept : Outcome Seat → Outcome ServerValue
after_kept o = record { now = record { seat = o.now; begun = [] }; text = o.text }

-- the outcome of the byte `b`: a line feed ends the line that has begun, which is handled; any other byte continues it
abbrev pub after_byte : ServerValue → ℕ → Outcome ServerValue
after_byte s b =
    if b == 10 then after_kept (line_served s.seat s.begun)
    else quiet (record s { begun = kept_with s.begun b })

-- the outcome of the bytes, one after the other
abbrev pub after_bytes : ServerValue → List ℕ → Outcome ServerValue
after_bytes s [] = quiet s
after_bytes s (b ∷ bytes) = and_then (after_byte s b) (λ now. after_bytes now bytes)
