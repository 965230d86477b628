-- A block of the linear forwarding table: what a Get returns and a Set writes.
-- InfiniBand Architecture Specification, Volume 1: subnet management, LinearForwardingTable.
use Rattle.std.specs.Prelude.{ℕ, ◌*◌, Bool, ◌&&◌, List, take, drop, nat_le, nat_lt, if◌then◌else◌, Option, Some, None}
use Rattle.std.specs.Prelude.{◌≡◌, ◌⊎◌, ◌+◌, ◌<◌, ◌≤◌, slice_index}
use Rattle.smp_bytes.specs.Field.{with_bytes}
use Rattle.node_agents.specs.Agent.{Agent, entry_at}

-- whether the block `block` has unicast LIDs, so that its number is at most 767, and begins within the table
abbrev pub has_block : Agent → ℕ → Bool
has_block a block = nat_le block 767 && nat_lt (64 * block) a.node.cap

-- the 64 entries of the block `block`; None if the table does not have this block
abbrev pub get_block : Agent → ℕ → Option (List ℕ)
get_block a block = if has_block a block then Some (take 64 (drop (64 * block) a.table)) else None

-- the agent with all 64 entries of the block `block` set to `payload`; None if the table does not have this block
abbrev pub set_block : Agent → ℕ → List ℕ → Option Agent
set_block a block payload =
    if has_block a block then Some (record a { table = with_bytes (64 * block) payload a.table }) else None

-- `told`, the block that the answer returns, is `payload`, and `after` has these entries in its table as the block
-- `block`; nothing else in the agent changes
pub record SetsBlock (a after : Agent) (block : ℕ) (payload told : List ℕ) : Type 0 where
  pub is_told : told ≡ payload
  pub inside : (i : ℕ) → i < 64 → entry_at after (64 * block + i) ≡ slice_index payload i
  pub outside : (lid : ℕ) → (lid < 64 * block) ⊎ (64 * block + 64 ≤ lid) → entry_at after lid ≡ entry_at a lid
  pub all_else : after ≡ record a { table = after.table }
