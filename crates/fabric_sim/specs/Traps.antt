-- The traps that wait at switches until they are repressed.
-- InfiniBand Architecture Specification, Volume 1: subnet management, traps.
use Rattle.std.specs.Prelude.{ℕ, ◌+◌, ◌%◌, ◌^◌, ◌==◌, Bool, List, [], length, replicate, slice_index_or, slice_set, if◌then◌else◌, Option, Some, None, false}
use Rattle.std.specs.Option.{option_map_or}

-- `waiting` has for each node the TransactionID of the trap that waits there, or None; it is empty while switches
-- send no traps. `last` is the TransactionID of the trap that began last, or 0 if none began
pub record Traps : Type 0 where
  pub waiting : List (Option ℕ)
  pub last : ℕ

-- the traps while switches send none
abbrev pub no_traps : Traps
no_traps = record { waiting = []; last = 0 }

-- the TransactionID of the trap that waits at the node `id`; None if none waits
abbrev pub trap_at : Traps → ℕ → Option ℕ
trap_at t id = slice_index_or t.waiting id None

-- the traps after switches among `nodes` nodes begin to send traps; unchanged if they send traps already
abbrev pub begun : Traps → ℕ → Traps
begun t nodes = if length t.waiting == 0 then record t { waiting = replicate nodes None } else t

-- the TransactionID of the next trap: one more than the last; after 2 ^ 64 - 1 it is 0
abbrev pub next_trap : Traps → ℕ
next_trap t = (t.last + 1) % 2 ^ 64

-- the traps with a new trap waiting at the node `id`, which replaces any that waited there
abbrev pub with_new_trap : Traps → ℕ → Traps
with_new_trap t id = record { waiting = slice_set t.waiting id (Some (next_trap t)); last = next_trap t }

-- whether the trap with the TransactionID `number` waits at the node `id`
abbrev pub is_waiting : Traps → ℕ → ℕ → Bool
is_waiting t id number = option_map_or (λ n. n == number) (trap_at t id) false

-- the traps without the trap with the TransactionID `number` at the node `id`; unchanged if this trap does not wait
-- there
abbrev pub without_trap : Traps → ℕ → ℕ → Traps
without_trap t id number = if is_waiting t id number then record t { waiting = slice_set t.waiting id None } else t
