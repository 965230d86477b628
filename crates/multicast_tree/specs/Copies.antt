-- How the copies of a multicast packet go: a switch copies a packet to each port of the group but the port by which the
-- packet came in.
use Rattle.std.specs.Prelude.{◌≡◌, ◌≢◌, ◌<◌, ◌⊎◌, true, ℕ, Bool, List, [], ◌∷◌, Option, Some}

-- how packets of a group are copied. `across` gives the other end of the wire in a port of a node, each port as node
-- and port number. `is_switch` tells which nodes copy packets. `group` tells for a node and a port whether the port is
-- in the node's mask of the group
pub record Copying : Type 0 where
  pub across : ℕ → ℕ → Option (ℕ × ℕ)
  pub is_switch : ℕ → Bool
  pub group : ℕ → ℕ → Bool

-- a packet that came in by the port `at` of a switch is copied to `port`, and the copy arrives at the port `far`. The
-- port is in the group, it is not the one by which the packet came in, and its wire leads to `far`
pub record IsCopied (by : Copying) (at : ℕ × ℕ) (port : ℕ) (far : ℕ × ℕ) : Type 0 where
  pub at_switch : by.is_switch at.0 ≡ true
  pub in_group : by.group at.0 port ≡ true
  pub not_back : port ≢ at.1
  pub wire : by.across at.0 port ≡ Some far

-- of a packet that came in by the port `at`, a copy arrives at the port `end`. It leaves the switches that it passes by
-- `ports`, one after the other
abbrev pub CopyGoes : Copying → ℕ × ℕ → List ℕ → ℕ × ℕ → Type 0
CopyGoes by at [] end = at ≡ end
CopyGoes by at (port ∷ ports) end = (far : ℕ × ℕ) × IsCopied by at port far × CopyGoes by far ports end

-- each hop of a copy to a switch leads to a switch with a greater position than the one before. The copy came in by the
-- port `at`, and leaves switches by the ports that are given
abbrev pub GoesDown : Copying → (ℕ → ℕ) → ℕ × ℕ → List ℕ → Type 0
GoesDown by position at [] = Unit {0}
GoesDown by position at (port ∷ ports) = (far : ℕ × ℕ) → IsCopied by at port far
    → (by.is_switch far.0 ≡ true → position at.0 < position far.0) × GoesDown by position far ports

-- the hops of a copy lead to switches with a lesser position at first. From the first hop on that does not, each hop to
-- a switch leads to one with a greater position
abbrev pub GoesUpThenDown : Copying → (ℕ → ℕ) → ℕ × ℕ → List ℕ → Type 0
GoesUpThenDown by position at [] = Unit {0}
GoesUpThenDown by position at (port ∷ ports) = (far : ℕ × ℕ) → IsCopied by at port far
    → ((position far.0 < position at.0) × GoesUpThenDown by position far ports)
    ⊎ ((by.is_switch far.0 ≡ true → position at.0 < position far.0) × GoesDown by position far ports)
