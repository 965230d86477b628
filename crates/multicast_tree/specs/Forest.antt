-- Groups within a forest: each port of a group leads to the switch's parent, to a switch whose parent it is, or to a
-- node that is not a switch.
use Rattle.std.specs.Prelude.{◌≡◌, ◌≢◌, ◌<◌, ◌≤◌, ◌⊎◌, true, false, ℕ, zero, suc, List, length, Contains, Option, Some}
use Rattle.multicast_tree.specs.Copies.{Copying, CopyGoes, GoesUpThenDown}

-- the group of `by` is within the forest in which the wire in the port `parent g` leads from `g` to its parent. Wires
-- lead both ways, parents have a lesser position, and each port of the group from a switch to a switch leads from a
-- switch to its parent, or back
pub record IsWithinForest (by : Copying) (parent : ℕ → Option ℕ) (position : ℕ → ℕ) : Type 0 where
  pub both_ways : (g p h q : ℕ) → by.across g p ≡ Some (h, q) → by.across h q ≡ Some (g, p)
  pub rises : (g p h q : ℕ) → parent g ≡ Some p → by.across g p ≡ Some (h, q) → position h < position g
  pub links : (g p h q : ℕ) → by.is_switch g ≡ true → by.is_switch h ≡ true → by.group g p ≡ true
      → by.across g p ≡ Some (h, q) → (parent g ≡ Some p) ⊎ (parent h ≡ Some q)

-- if a group is within a forest, any two copies of one packet that arrive at the same port go by the same ports. So a
-- packet comes to no port twice, and none goes round
abbrev pub EachPortOnce : Type 0
EachPortOnce = (by : Copying) (parent : ℕ → Option ℕ) (position : ℕ → ℕ) → IsWithinForest by parent position
    → (at end : ℕ × ℕ) (ports others : List ℕ) → CopyGoes by at ports end → CopyGoes by at others end
    → ports ≡ others

-- if a group is within a forest, a copy passes at most as many switches as a list has that contains each switch with
-- a port in the group
abbrev pub FewSwitchesPassed : Type 0
FewSwitchesPassed = (by : Copying) (parent : ℕ → Option ℕ) (position : ℕ → ℕ) → IsWithinForest by parent position
    → (switches : List ℕ) → ((g p : ℕ) → by.is_switch g ≡ true → by.group g p ≡ true → Contains switches g)
    → (at end : ℕ × ℕ) (ports : List ℕ) → CopyGoes by at ports end → length ports ≤ length switches

-- if a group is within a forest, each copy goes up and then down by their positions
abbrev pub UpThenDown : Type 0
UpThenDown = (by : Copying) (parent : ℕ → Option ℕ) (position : ℕ → ℕ) → IsWithinForest by parent position
    → (at end : ℕ × ℕ) (ports : List ℕ) → CopyGoes by at ports end → GoesUpThenDown by position at ports

-- `n` wires, one after the other, lead from `g` over switches to the switch `h`
abbrev pub WiresLead : Copying → ℕ → ℕ → ℕ → Type 0
WiresLead by g h zero = g ≡ h
WiresLead by g h (suc n) = (port : ℕ) × (far : ℕ × ℕ) × (by.across g port ≡ Some far) × (by.is_switch far.0 ≡ true)
    × WiresLead by far.0 h n

-- `g` is a switch, and wires lead from it over switches to the switch `h`
pub record IsJoined (by : Copying) (g h : ℕ) : Type 0 where
  pub at_switch : by.is_switch g ≡ true
  pub length : ℕ
  pub wires : WiresLead by g h length

-- the group of `by` is the whole forest. Only switches have parents, which are switches. The masks have each port from
-- a switch to its parent, back, and to a node that is not a switch. Positions tell joined switches apart, and the later
-- of two has a parent
pub record IsWholeForest (by : Copying) (parent : ℕ → Option ℕ) (position : ℕ → ℕ) : Type 0 where
  pub within : IsWithinForest by parent position
  pub from_switch : (g p : ℕ) → parent g ≡ Some p → by.is_switch g ≡ true
  pub to_switch : (g p h q : ℕ) → parent g ≡ Some p → by.across g p ≡ Some (h, q) → by.is_switch h ≡ true
  pub all_up : (g p : ℕ) → by.is_switch g ≡ true → parent g ≡ Some p → by.group g p ≡ true
  pub all_down : (g p h q : ℕ) → by.is_switch g ≡ true → by.across g p ≡ Some (h, q) → parent h ≡ Some q
      → by.group g p ≡ true
  pub all_out : (g p h q : ℕ) → by.is_switch g ≡ true → by.across g p ≡ Some (h, q) → by.is_switch h ≡ false
      → by.group g p ≡ true
  pub apart : (g h : ℕ) → IsJoined by g h → position g ≡ position h → g ≡ h
  pub climbs : (g h : ℕ) → IsJoined by g h → position h < position g
      → (port : ℕ) × (far : ℕ × ℕ) × (parent g ≡ Some port) × (by.across g port ≡ Some far)

-- a wire leads from the port `at` of a switch to the port `end` of a node that is not a switch
pub record IsAttachedAt (by : Copying) (end at : ℕ × ℕ) : Type 0 where
  pub not_a_switch : by.is_switch end.0 ≡ false
  pub at_switch : by.is_switch at.0 ≡ true
  pub wire : by.across at.0 at.1 ≡ Some end

-- if a group is a whole forest, a copy of what one port sends comes to each other port that is attached to a switch
-- joined to that of the sender
abbrev pub EachEndReached : Type 0
EachEndReached = (by : Copying) (parent : ℕ → Option ℕ) (position : ℕ → ℕ) → IsWholeForest by parent position
    → (sender receiver at there : ℕ × ℕ) → sender ≢ receiver → IsAttachedAt by sender at
    → IsAttachedAt by receiver there → IsJoined by at.0 there.0
    → (ports : List ℕ) × CopyGoes by at ports receiver
