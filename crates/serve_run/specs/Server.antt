-- How serving a manager by lines ends: at the end of the input, or with a fault.
use Rattle.std.specs.Prelude.{◌≡◌, ◌⊎◌, ◌≤◌, ◌+◌, ◌^◌, ◌-◌, ℕ, Bool, true, false, List, [], length, Option, Result, Ok, Err, IsTrue}
use Rattle.std.specs.Io.KnownBytes.{Consumes, IsAtEnd}
use Rattle.byte_io.specs.Source.{SourceState}
use Rattle.byte_io.specs.Prints.{Prints}
use Rattle.schedule_lines.specs.Prints.{PrintsUnless}
use Rattle.schedule_lines.specs.declared.run_fault.RunFault.{RunFault}
use Rattle.schedule_lines.specs.declared.run_fault.RunFault.TheVariants as runs
use Rattle.serve_run.specs.declared.server.Server.{Server}
use Rattle.serve_run.specs.declared.serve_fault.ServeFault.{ServeFault}
use Rattle.serve_run.specs.declared.serve_fault.ServeFault.TheVariants.{Read, Write, Memory}
use Rattle.serve_run.specs.Kept.{ServerValue, after_bytes}
use Rattle.serve_run.specs.Seat.{Seat, seat_of, served_by}

-- the code's server as a value
abbrev pub value_of : Server → ServerValue
value_of s = record { seat = seat_of s.seated; begun = s.begun.items }

-- the fault of serving that a fault in handling a line becomes
abbrev pub fault_of_run : RunFault → ServeFault
fault_of_run runs.Write = Write
fault_of_run runs.Memory = Memory

-- `bytes` were read, and no more are left
pub record IsReadToEnd {S : Type 0} (state : S → SourceState) (old new : S) (bytes : List ℕ) : Type 0 where
  pub read : Consumes (state old).left (state new).left bytes
  pub at_end : IsAtEnd (state new).left

-- all bytes of the source were read, and the text that the manager `seat` gives for these bytes (`served_by`) is
-- printed, as `prints` says
pub record HasServed {S : Type 0} (state : S → SourceState) (old new : S) (seat : Seat)
    (prints : List ℕ → Type 0) : Type 0 where
  pub bytes : List ℕ
  pub read : IsReadToEnd state old new bytes
  pub printed : prints (served_by seat bytes)

-- some bytes were read, and the text that the manager `seat` gives for these bytes (`served_by`) is printed, as `prints`
-- says
pub record HasServedSome {S : Type 0} (state : S → SourceState) (old new : S) (seat : Seat)
    (prints : List ℕ → Type 0) : Type 0 where
  pub bytes : List ℕ
  pub read : Consumes (state old).left (state new).left bytes
  pub printed : prints (served_by seat bytes)

-- the source has failed, or `count`, the number of bytes that were read, plus the number of interruptions meanwhile
-- is at least 2^64 - 1
abbrev pub CannotBeRead : SourceState → SourceState → ℕ → Type 0
CannotBeRead old new count =
    IsTrue new.has_failed ⊎ (2 ^ 64 - 1 + old.interruptions ≤ count + new.interruptions)

-- the text that the manager `seat` gives for the bytes that were read is printed, as `prints` says, and no more bytes
-- can be read
pub record FailsToRead {S : Type 0} (state : S → SourceState) (old new : S) (seat : Seat)
    (prints : List ℕ → Type 0) : Type 0 where
  pub served : HasServedSome state old new seat prints
  pub why : CannotBeRead (state old) (state new) (length served.bytes)

-- serving stopped for the given fault. If no more bytes can be read, the text that the manager gives for the bytes
-- that were read is printed, as `whole` says. If memory ran out, this text is printed as `some` says. Otherwise a
-- write failed
abbrev pub StopsServing : {S : Type 0} → (S → SourceState) → S → S → Seat → (List ℕ → Type 0) → (List ℕ → Type 0)
    → Bool → ServeFault → Type 0
StopsServing state old new seat some whole sink_failed Read = FailsToRead state old new seat whole
StopsServing state old new seat some whole sink_failed Memory = HasServedSome state old new seat some
StopsServing state old new seat some whole sink_failed Write = IsTrue sink_failed

-- the result of a call that stopped for `fault`
abbrev pub stopped : RunFault → Result (Unit {0}) RunFault
stopped fault = Err fault

-- pieces -----------------------------------------------------------------------------------------

-- one read gives bytes, or is interrupted and gives none, and the lines that end in these bytes are handled
pub record GoesOn {S W : Type 0} (state : S → SourceState) (written : W → Option (List ℕ)) (has_failed : W → Bool)
    (old new : S) (server server' : ServerValue) (sink sink' : W) : Type 0 where
  pub bytes : List ℕ
  pub read : Consumes (state old).left (state new).left bytes
  pub counted : 1 + (state old).interruptions ≤ length bytes + (state new).interruptions
  pub leaves : server' ≡ (after_bytes server bytes).now
  pub prints : Prints written has_failed sink sink' (after_bytes server bytes).text

-- one read finds the source at its end, and nothing else changes
pub record IsOver {S W : Type 0} (state : S → SourceState) (old new : S) (server server' : ServerValue)
    (sink sink' : W) : Type 0 where
  pub read : Consumes (state old).left (state new).left []
  pub at_end : IsAtEnd (state new).left
  pub same_server : server' ≡ server
  pub same_sink : sink' ≡ sink

-- one read gives no bytes and fails, and nothing is printed
pub record Unread {S W : Type 0} (state : S → SourceState) (old new : S) (sink sink' : W) : Type 0 where
  pub read : Consumes (state old).left (state new).left []
  pub failed : IsTrue (state new).has_failed
  pub same_sink : sink' ≡ sink

-- one read gives bytes, and handling the lines that end in them stops for `fault`
pub record StopsWithin {S W : Type 0} (state : S → SourceState) (written : W → Option (List ℕ)) (has_failed : W → Bool)
    (old new : S) (server : ServerValue) (sink sink' : W) (fault : RunFault) : Type 0 where
  pub bytes : List ℕ
  pub read : Consumes (state old).left (state new).left bytes
  pub prints : PrintsUnless written has_failed (stopped fault) sink sink' (after_bytes server bytes).text

-- what serving the next piece of input does, given its result: it goes on (true), is over (false), cannot read, or
-- stops while it handles lines
abbrev pub ServesPiece : {S W : Type 0} → (S → SourceState) → (W → Option (List ℕ)) → (W → Bool) → S → S → ServerValue
    → ServerValue → W → W → Result Bool ServeFault → Type 0
ServesPiece state written has_failed old new server server' sink sink' (Ok true) =
    GoesOn state written has_failed old new server server' sink sink'
ServesPiece state written has_failed old new server server' sink sink' (Ok false) =
    IsOver state old new server server' sink sink'
ServesPiece state written has_failed old new server server' sink sink' (Err Read) =
    Unread state old new sink sink'
ServesPiece state written has_failed old new server server' sink sink' (Err Memory) =
    StopsWithin state written has_failed old new server sink sink' runs.Memory
ServesPiece state written has_failed old new server server' sink sink' (Err Write) =
    StopsWithin state written has_failed old new server sink sink' runs.Write
