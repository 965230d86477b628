-- The other ends of the cables after one is written.
use Rattle.std.proofs.Common.{◌≡◌, ◌≢◌, ℕ, ◌<◌, ◌⊎◌, inl, inr, List, [], length, get_or, set, arith, ap, sym, ◌∙◌, subst, length-set, get_or-set_same, get_or-set_other}
use Rattle.std.specs.Prelude.{Option, None}
use Rattle.std.proofs.lemmas.Bool.{cases_lt, cases_eq}
use Rattle.std.proofs.lemmas.List.{get_or_past, set_past}
use Rattle.fabric_model.specs.declared.cable.NodePort.{NodePort}
use Rattle.fabric_sim.specs.Simulation.{across, HasPeerSlot}
use Rattle.fabric_sim.specs.Changes.{with_peer}

-- two ports are the same, or not
pub same_or_apart : (p q : NodePort) → (p ≡ q) ⊎ (p ≢ q)
same_or_apart p q =
    elim (cases_eq p.node q.node) [
      | inl n ↦ elim (cases_eq p.port q.port) [
        | inl m ↦ inl (at p.node q.node n p.port q.port m)
        | inr m ↦ inr (λ e. m (ap (λ r. r.port) e))
      ]
      | inr n ↦ inr (λ e. n (ap (λ r. r.node) e))
    ]
  where
    at : (x y : ℕ) → x ≡ y → (u v : ℕ) → u ≡ v → ◌≡◌ {A = NodePort} (record { node = x; port = u }) (record { node = y; port = v })
    at x y e u v f = cc

-- ports that differ, of one node
pub ports_differ : (p q : NodePort) → p ≢ q → p.node ≡ q.node → p.port ≢ q.port
ports_differ p q ne n m = elim (same_or_apart p q) [ inl e ↦ ne e | inr k ↦ k (at p.node q.node n p.port q.port m) ]
  where
    at : (x y : ℕ) → x ≡ y → (u v : ℕ) → u ≡ v → ◌≡◌ {A = NodePort} (record { node = x; port = u }) (record { node = y; port = v })
    at x y e u v f = cc

-- a node with a slot for a port has a list
pub has_list : (peers : List (List (Option NodePort))) (p : NodePort) → HasPeerSlot peers p → p.node < length peers
has_list peers p slot =
    elim (cases_lt p.node (length peers)) [
      | inl lt ↦ lt
      | inr ge ↦ let none : length (get_or peers p.node []) ≡ 0 = ap length (get_or_past peers p.node [] ge) in absurd (omega arith)
    ]

-- what was written is read
pub across_here : (peers : List (List (Option NodePort))) (p : NodePort) (other : Option NodePort) → HasPeerSlot peers p → across (with_peer peers p other) p
    ≡ other
across_here peers p other slot =
    let row : List (Option NodePort) = set (get_or peers p.node []) p.port other in
    ap (λ xs. get_or xs p.port None) (get_or-set_same peers p.node row [] (has_list peers p slot))
    ∙ get_or-set_same (get_or peers p.node []) p.port other None slot

-- at any other port it is as it was
pub across_apart : (peers : List (List (Option NodePort))) (p q : NodePort) (other : Option NodePort) → p ≢ q → across (with_peer peers p other) q
    ≡ across peers q
across_apart peers p q other ne =
    let row : List (Option NodePort) = set (get_or peers p.node []) p.port other in
    elim (cases_eq p.node q.node) [
      | inr n ↦ ap (λ xs. get_or xs q.port None) (get_or-set_other peers p.node q.node row [] (λ e. n (sym e)))
      | inl n ↦ elim (cases_lt p.node (length peers)) [
        | inr past ↦ ap (λ all. get_or (get_or all q.node []) q.port None) (set_past peers p.node row past)
        | inl lt ↦ let here : get_or (set peers p.node row) q.node [] ≡ row =
            subst (λ k. get_or (set peers p.node row) k [] ≡ row) n (get_or-set_same peers p.node row [] lt) in
            let old : get_or peers p.node [] ≡ get_or peers q.node [] = ap (λ k. get_or peers k []) n in
            ap (λ xs. get_or xs q.port None) here
            ∙ (get_or-set_other (get_or peers p.node []) p.port q.port other None (λ e. ports_differ p q ne n (sym e)) ∙ ap (λ xs. get_or xs q.port None) old)
      ]
    ]

-- each list is as long as it was
pub length-row : (peers : List (List (Option NodePort))) (p : NodePort) (other : Option NodePort) (node : ℕ) → length (get_or (with_peer peers p other) node [])
    ≡ length (get_or peers node [])
length-row peers p other node =
    let row : List (Option NodePort) = set (get_or peers p.node []) p.port other in
    elim (cases_eq p.node node) [
      | inr n ↦ ap length (get_or-set_other peers p.node node row [] (λ e. n (sym e)))
      | inl n ↦ elim (cases_lt p.node (length peers)) [
        | inr past ↦ ap (λ all. length (get_or all node [])) (set_past peers p.node row past)
        | inl lt ↦ let here : get_or (set peers p.node row) node [] ≡ row =
            subst (λ k. get_or (set peers p.node row) k [] ≡ row) n (get_or-set_same peers p.node row [] lt) in
            ap length here ∙ (length-set (get_or peers p.node []) p.port other ∙ ap (λ k. length (get_or peers k [])) n)
      ]
    ]

-- and so is the list of them
pub length-with_peer : (peers : List (List (Option NodePort))) (p : NodePort) (other : Option NodePort) → length (with_peer peers p other) ≡ length peers
length-with_peer peers p other = length-set peers p.node (set (get_or peers p.node []) p.port other)

-- a slot stays
pub has_slot_after : (peers : List (List (Option NodePort))) (p q : NodePort) (other : Option NodePort) → HasPeerSlot peers q
    → HasPeerSlot (with_peer peers p other) q
has_slot_after peers p q other slot = let n = length-row peers p other q.node in omega arith
