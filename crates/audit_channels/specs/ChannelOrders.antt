-- Channels that follow each other: numbers that rise, and cycles. `F a b` says that channel `b` follows channel `a`, in
-- whatever sense: a list says so, or packets take `a` and then `b`.
use Rattle.std.specs.Prelude.{◌≡◌, ◌↔◌, ◌⊎◌, ◌<◌, ◌≤◌, ℕ, List, [], ◌∷◌, Contains, length, slice_index_or}
use Rattle.audit_channels.specs.declared.order.ChannelOrder.{ChannelOrder}
use Rattle.audit_channels.specs.declared.order.ChannelOrder.TheVariants.{Rises, Cycle}

-- by a list -----------------------------------------------------------------------------------------------

-- `next` follows `channel` in `waits`, which has for each channel the list of the channels that follow it
abbrev pub Follows : List (List ℕ) → ℕ → ℕ → Type 0
Follows waits channel next = Contains (slice_index_or waits channel []) next

-- in `waits`, only channels follow channels: each channel that follows another one is less than the number of
-- channels
abbrev pub LeadToChannels : List (List ℕ) → Type 0
LeadToChannels waits = (channel next : ℕ) → Follows waits channel next → next < length waits

-- `new` has exactly the channels of `old` and `channel`
abbrev pub AreWith : List ℕ → ℕ → List ℕ → Type 0
AreWith old channel new = (c : ℕ) → Contains new c ↔ (Contains old c ⊎ (c ≡ channel))

-- in `new` a channel `b` follows a channel `a` exactly when it does in `old`, or when `b` is `next` and `a` is
-- `channel`
pub record IsWith (old : List (List ℕ)) (channel next : ℕ) (new : List (List ℕ)) : Type 0 where
  pub as_many : length new ≡ length old
  pub follows : (a b : ℕ) → Follows new a b ↔ (Follows old a b ⊎ ((a ≡ channel) × (b ≡ next)))

-- `waits` has, for each of `count` channels, exactly the channels that follow it by `F`
pub record AreWaits (F : ℕ → ℕ → Type 0) (count : ℕ) (waits : List (List ℕ)) : Type 0 where
  pub as_many : length waits ≡ count
  pub follows : (a b : ℕ) → Follows waits a b ↔ F a b

-- numbers -------------------------------------------------------------------------------------------------

-- each of `count` channels has a number in `numbers`, and this number is less than the numbers of the channels that
-- follow the channel
pub record Rise (F : ℕ → ℕ → Type 0) (count : ℕ) (numbers : List ℕ) : Type 0 where
  pub as_many : length numbers ≡ count
  pub rises : (channel next : ℕ) → F channel next → slice_index_or numbers channel 0 < slice_index_or numbers next 0

-- channels can be numbered so that each channel has a number that is less than the numbers of the channels that follow it
pub record CanRise (F : ℕ → ℕ → Type 0) : Type 0 where
  pub number : ℕ → ℕ
  pub rises : (channel next : ℕ) → F channel next → number channel < number next

-- cycles --------------------------------------------------------------------------------------------------

-- in the list that has `channel`, then the given channels, then `last`, each channel follows the one before it
abbrev pub GoesOn : (ℕ → ℕ → Type 0) → ℕ → List ℕ → ℕ → Type 0
GoesOn F channel [] last = F channel last
GoesOn F channel (next ∷ later) last = F channel next × GoesOn F next later last

-- a list is not empty, and its channels are a cycle: each follows the one before it, and the first follows the last
abbrev pub IsCycle : (ℕ → ℕ → Type 0) → List ℕ → Type 0
IsCycle F [] = ⊥
IsCycle F (channel ∷ later) = GoesOn F channel later channel

-- the channels of a list are a cycle; for an empty list, numbers of channels can rise
abbrev pub IsCycleIfAny : (ℕ → ℕ → Type 0) → List ℕ → Type 0
IsCycleIfAny F [] = CanRise F
IsCycleIfAny F (channel ∷ later) = IsCycle F (channel ∷ later)

-- no cycle of channels that follow each other has fewer channels than `channels`
abbrev pub NoneShorter : (ℕ → ℕ → Type 0) → List ℕ → Type 0
NoneShorter F channels = (cycle : List ℕ) → IsCycle F cycle → length channels ≤ length cycle

-- orders --------------------------------------------------------------------------------------------------

-- a channel order is right: the numbers of its `count` channels rise, or its channels are a cycle
abbrev pub IsOrder : (ℕ → ℕ → Type 0) → ℕ → ChannelOrder → Type 0
IsOrder F count (Rises numbers) = Rise F count numbers.items
IsOrder F count (Cycle channels) = IsCycle F channels.items

-- a channel order has numbers; or it has channels, and no cycle has fewer channels
abbrev pub IsShortest : (ℕ → ℕ → Type 0) → ChannelOrder → Type 0
IsShortest F (Rises numbers) = Unit {0}
IsShortest F (Cycle channels) = NoneShorter F channels.items

-- the channels of the cycle, if the order is a cycle; none if the order has numbers that rise
abbrev pub cycle_in : ChannelOrder → List ℕ
cycle_in (Rises numbers) = []
cycle_in (Cycle channels) = channels.items

-- if numbers of channels can rise, no list of channels is a cycle
abbrev pub NoCycleWhereNumbersRise : Type 0
NoCycleWhereNumbersRise =
    (waits : List (List ℕ)) (cycle : List ℕ) → CanRise (Follows waits) → ¬ (IsCycle (Follows waits) cycle)
