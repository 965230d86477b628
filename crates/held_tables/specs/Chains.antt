-- Chains of equal numbers: for each block, the index of the next block with its number.
use Rattle.std.specs.Prelude.{◌≡◌, ◌≢◌, ◌<◌, ◌≤◌, ℕ, suc, List, length, slice_index_or}
use Rattle.held_tables.specs.declared.chains.Chains.{Chains}

-- `index` is the index of the first occurrence of `number` in `numbers` at or after `from`, or the length of the list
-- if there is none
pub record IsNext (numbers : List ℕ) (number from index : ℕ) : Type 0 where
  pub past : from ≤ index
  pub within : index ≤ length numbers
  pub is : index < length numbers → slice_index_or numbers index 0 ≡ number
  pub none : (other : ℕ) → from ≤ other → other < index → slice_index_or numbers other 0 ≢ number

-- `chains` has the index of the first occurrence of each number below 65536 and, for each index of `numbers`, the
-- index of the next occurrence of the number at this index. The length of the list stands for none
pub record AreChains (numbers : List ℕ) (chains : Chains) : Type 0 where
  pub firsts : (number : ℕ) → number < 65536 → IsNext numbers number 0 (slice_index_or chains.firsts.items number 0)
  pub nexts : (index : ℕ) → index < length numbers
      → IsNext numbers (slice_index_or numbers index 0) (suc index) (slice_index_or chains.nexts.items index 0)
