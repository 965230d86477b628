-- A block of the multicast forwarding table: what a Get returns and a Set writes. The table of a simulated switch has
-- room for the 32 multicast LIDs of block 0, from 0xC000 on. A block has the masks of these LIDs at one position, which
-- is 16 ports. InfiniBand Architecture Specification, Volume 1: subnet management, MulticastForwardingTable.
use Rattle.std.specs.Prelude.{ℕ, ◌*◌, ◌/◌, ◌%◌, ◌^◌, Bool, ◌&&◌, ◌==◌, List, take, drop, nat_lt, if◌then◌else◌, Option, Some, None}
use Rattle.std.specs.Prelude.{◌≡◌, ◌⊎◌, ◌+◌, ◌<◌, ◌≤◌, slice_index, slice_index_or}
use Rattle.smp_bytes.specs.Field.{with_bytes}
use Rattle.node_agents.specs.Agent.{Agent, position_count}

-- the number of multicast LIDs that a switch has masks for (MulticastFDBCap)
abbrev pub multicast_cap : ℕ
multicast_cap = 32

-- the position that an attribute modifier names, in its upper four bits
abbrev pub position_in : ℕ → ℕ
position_in modifier = modifier / 2 ^ 28

-- whether `modifier` names a position of the agent, and block 0, in its lower nine bits
abbrev pub has_masks : Agent → ℕ → Bool
has_masks a modifier = nat_lt (position_in modifier) (position_count a.node) && modifier % 512 == 0

-- the 64 bytes of the block that `modifier` names; None if the table does not have this block
abbrev pub get_masks : Agent → ℕ → Option (List ℕ)
get_masks a modifier =
    if has_masks a modifier then Some (take 64 (drop (64 * position_in modifier) a.masks)) else None

-- the agent with the block that `modifier` names set to `payload`; None if the table does not have this block
abbrev pub set_masks : Agent → ℕ → List ℕ → Option Agent
set_masks a modifier payload =
    if has_masks a modifier then Some (record a { masks = with_bytes (64 * position_in modifier) payload a.masks })
    else None

-- `told`, the block that the answer returns, is `payload`, and `after` has these bytes as the block of the position
-- `position`; nothing else in the agent changes
pub record SetsMasks (a after : Agent) (position : ℕ) (payload told : List ℕ) : Type 0 where
  pub is_told : told ≡ payload
  pub inside : (i : ℕ) → i < 64 → slice_index_or after.masks (64 * position + i) 0 ≡ slice_index payload i
  pub outside : (i : ℕ) → (i < 64 * position) ⊎ (64 * position + 64 ≤ i)
      → slice_index_or after.masks i 0 ≡ slice_index_or a.masks i 0
  pub all_else : after ≡ record a { masks = after.masks }
