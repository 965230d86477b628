-- The state of a sink over memory.
use Rattle.std.specs.Prelude.{◌≡◌, ◌≤◌, ◌+◌, ℕ, Bool, false, List, length}

-- the state of a sink over memory: the bytes written to it, how many bytes it can take in all, whether any call of it
-- has failed, and whether it is flushed
pub record Room : Type 0 where
  pub written : List ℕ
  pub room : ℕ
  pub has_failed : Bool
  pub is_flushed : Bool

-- no call of `sink` has failed, and `sink` can take `bytes` in addition to the bytes written to it
pub record HasRoomFor (sink : Room) (bytes : List ℕ) : Type 0 where
  pub works : sink.has_failed ≡ false
  pub fits : length sink.written + length bytes ≤ sink.room
