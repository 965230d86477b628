-- Cables: which port is at the other end of a cable.
use Rattle.std.specs.Prelude.{◌≡◌, ℕ, ◌≤◌, Bool, ◌&&◌, ◌||◌, List, [], ◌∷◌, ◌==◌, if◌then◌else◌, Option, Some, None, count_by}
use Rattle.fabric_model.specs.declared.cable.NodePort.{NodePort}
use Rattle.fabric_model.specs.declared.cable.Cable.{Cable}

-- whether `a` and `b` are the same port
abbrev pub is_same_port : NodePort → NodePort → Bool
is_same_port a b = a.node == b.node && a.port == b.port

-- the port at the other end of the first cable in port `p`; `p` itself if that cable is a loop; None if no cable is in
-- `p`
abbrev pub other_end : List Cable → NodePort → Option NodePort
other_end [] p = None
other_end (c ∷ cables) p =
    if is_same_port c.one p then Some c.other
    else if is_same_port c.other p then Some c.one
    else other_end cables p

-- whether the cable `c` has an end in port `p`
abbrev pub is_cable_in : NodePort → Cable → Bool
is_cable_in p c = is_same_port c.one p || is_same_port c.other p

-- the number of cables with an end in port `p`; a loop counts once
abbrev pub cables_in : NodePort → List Cable → ℕ
cables_in p cables = count_by (is_cable_in p) cables

-- each port has at most one cable
abbrev pub IsOneCableAPort : List Cable → Type 0
IsOneCableAPort cables = (p : NodePort) → cables_in p cables ≤ 1

-- if each port has at most one cable, a cable that leads from `p` to `q` also leads from `q` to `p`
abbrev pub CablesLeadBack : Type 0
CablesLeadBack = (cables : List Cable) (p q : NodePort) → IsOneCableAPort cables → other_end cables p ≡ Some q
    → other_end cables q ≡ Some p
