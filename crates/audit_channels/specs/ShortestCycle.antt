-- Breadth-first searches from a channel along the channels without a number. The reached channels are listed in the
-- order in which they were reached, and each is marked with the number of the first channel plus 1.
use Rattle.std.specs.Prelude.{◌≡◌, ◌<◌, ◌≤◌, ◌+◌, ℕ, List, [], ◌∷◌, length, slice_index_or}
use Rattle.audit_channels.specs.declared.shortest_cycle.Visited.{Visited}
use Rattle.audit_channels.specs.ChannelOrders.{Follows, GoesOn, IsCycle}

-- the item of `reached` at `index`; a blank item past the end
abbrev pub at_index : List Visited → ℕ → Visited
at_index reached index = slice_index_or reached index (record { channel = 0; from = 0; count = 0 })

-- `reached` has `channel`, with a path of at most `count` channels
pub record HasReached (reached : List Visited) (channel count : ℕ) : Type 0 where
  pub index : ℕ
  pub there : index < length reached
  pub is : (at_index reached index).channel ≡ channel
  pub within : (at_index reached index).count ≤ count

-- the channel `next`, at the index `index`, was reached from an earlier channel that `next` follows, and the path to
-- `next` has one channel more than the path to that channel
pub record IsStep (waits : List (List ℕ)) (reached : List Visited) (next : Visited) (index : ℕ) : Type 0 where
  pub earlier : next.from < index
  pub follows : Follows waits (at_index reached next.from).channel next.channel
  pub one_more : next.count ≡ (at_index reached next.from).count + 1

-- the search reached `first` first, and each other channel by a step from an earlier one
pub record AreWays (waits : List (List ℕ)) (first : ℕ) (reached : List Visited) : Type 0 where
  pub some : 0 < length reached
  pub begins : (at_index reached 0).channel ≡ first
  pub one : (at_index reached 0).count ≡ 1
  pub steps : (i : ℕ) → 0 < i → i < length reached → IsStep waits reached (at_index reached i) i

-- `reached` has the channels that a search from `first` has reached, in ascending order of length of their paths, and
-- `marks` marks only such channels. No path to a reached channel has more than `count` channels
pub record IsSearch (waits : List (List ℕ)) (first count : ℕ) (reached : List Visited) (marks : List ℕ) : Type 0 where
  pub ways : AreWays waits first reached
  pub rises : (i k : ℕ) → i ≤ k → k < length reached → (at_index reached i).count ≤ (at_index reached k).count
  pub within : (i : ℕ) → i < length reached → (at_index reached i).count ≤ count
  pub marked : (c : ℕ) → slice_index_or marks c 0 ≡ first + 1 → HasReached reached c count
  pub as_many : length marks ≡ length waits
  pub most : (c : ℕ) → slice_index_or marks c 0 ≤ first + 1

-- the list `new` begins with the list `old`
pub record Grows (old new : List Visited) : Type 0 where
  pub longer : length old ≤ length new
  pub same : (i : ℕ) → i < length old → at_index new i ≡ at_index old i

-- no cycle through `first` has fewer than `count` channels
abbrev pub NoneBelow : List (List ℕ) → ℕ → ℕ → Type 0
NoneBelow waits first count = (later : List ℕ) → GoesOn (Follows waits) first later first → count ≤ length later + 1

-- the given list is a cycle of at most `least` channels, and no cycle through `first` has fewer channels than this
-- list; or the list is empty, and no cycle through `first` has fewer than `least` channels
abbrev pub IsLeast : List (List ℕ) → ℕ → ℕ → List ℕ → Type 0
IsLeast waits first least [] = NoneBelow waits first least
IsLeast waits first least (c ∷ later) =
    IsCycle (Follows waits) (c ∷ later) × (length later + 1 ≤ least) × NoneBelow waits first (length later + 1)
