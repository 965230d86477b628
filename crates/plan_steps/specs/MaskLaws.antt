-- Which ports the mask of a position has, and the block that a Set of it writes.
use Rattle.std.specs.Prelude.{◌≡◌, ◌↔◌, ◌+◌, ◌*◌, ◌<◌, ◌≤◌, ℕ, List, Contains, length, slice_index_or}
use Rattle.std.specs.Int.{bit_at}
use Rattle.smp_bytes.specs.Field.{number_in}
use Rattle.plan_steps.specs.MaskSteps.{first_mask, mask_of, masks_data}

-- `block` has 64 bytes. The first mask in it has exactly those of `ports` that have the position `position`,
-- and no other mask has a port
pub record HasMask (ports : List ℕ) (position : ℕ) (block : List ℕ) : Type 0 where
  pub whole : length block ≡ 64
  pub bits : (k : ℕ) → k < 16 → (bit_at (number_in first_mask block) k ≡ 1) ↔ Contains ports (16 * position + k)
  pub no_others : (i : ℕ) → 2 ≤ i → slice_index_or block i 0 ≡ 0

-- the block that is written for some ports and a position has exactly the ports that have the position
abbrev pub MasksHaveTheirPorts : Type 0
MasksHaveTheirPorts = (ports : List ℕ) (position : ℕ) → HasMask ports position (masks_data (mask_of ports position))
