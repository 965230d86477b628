-- The side of a port: the switches that a copy may come to once it left by that port.
use Rattle.std.proofs.Common.{◌≡◌, ◌≢◌, ℕ, zero, suc, ◌⊎◌, inl, inr, refl, sym, ap, ◌∙◌, arith, true, false, Option}
use Rattle.std.proofs.lemmas.Option.{same_Some}
use Rattle.std.specs.Prelude.{Some}
use Rattle.multicast_tree.specs.Copies.{Copying, IsCopied}
use Rattle.multicast_tree.specs.Forest.{IsWithinForest}
use Rattle.multicast_tree.proofs.Below.{Below, below_trans, below_position, on_one_chain, one_parent, climbs_position}

module _ (by : Copying) (parent : ℕ → Option ℕ) (position : ℕ → ℕ) where
  -- a switch on the other side of port `p` of switch `s`, up or down
  abbrev pub SideUp : ℕ → ℕ → ℕ → Type 0
  SideUp s p m = (parent s ≡ Some p) × (Below by parent position m s → ⊥)

  abbrev pub SideDown : ℕ → ℕ → ℕ → Type 0
  SideDown s p m = (c : ℕ) × (q : ℕ) × (by.across s p ≡ Some (c, q)) × (parent c ≡ Some q) × Below by parent position m c

  abbrev pub Side : ℕ → ℕ → ℕ → Type 0
  Side s p m = SideUp s p m ⊎ SideDown s p m

  -- what a hop is: up, down or to no switch
  abbrev pub Link : ℕ → ℕ → ℕ × ℕ → Type 0
  Link s p far = (parent s ≡ Some p) ⊎ ((parent far.0 ≡ Some far.1) ⊎ (by.is_switch far.0 ≡ false))

  module _ (t : IsWithinForest by parent position) where
    pub link_of : (at : ℕ × ℕ) (p : ℕ) (far : ℕ × ℕ) → IsCopied by at p far → Link at.0 p far
    link_of at p far i =
        elim (by.is_switch far.0) as (λ b. by.is_switch far.0 ≡ b → Link at.0 p far) [
          | true ↦ λ e. (elim (t.links at.0 p far.0 far.1 i.at_switch e i.in_group i.wire) [ inl u ↦ inl u | inr d ↦ inr (inl d) ])
          | false ↦ λ e. inr (inr e)
        ] refl

    -- two children of one switch are not below one another
    pub same_child : (m c q c' q' s p p' : ℕ) → parent c ≡ Some q → by.across c q ≡ Some (s, p) → parent c' ≡ Some q' → by.across c' q' ≡ Some (s, p')
        → Below by parent position m c → Below by parent position m c' → c ≡ c'
    same_child m c q c' q' s p p' e w e' w' (n, b) (n', b') =
        elim (on_one_chain by parent position n n' m c c' b b') [
          | inl (zero, k) ↦ k
          | inl (suc j, (p2, h, q2, ep, eq, k)) ↦ absurd
              (let same = one_parent by parent position c q s p p2 h q2 e w ep eq in
              let l = climbs_position by parent position t j h c' k in
              let r = t.rises c' q' s p' e' w' in
              let z = ap position same in omega arith)
          | inr (zero, k) ↦ sym k
          | inr (suc j, (p2, h, q2, ep, eq, k)) ↦ absurd
              (let same = one_parent by parent position c' q' s p' p2 h q2 e' w' ep eq in
              let l = climbs_position by parent position t j h c k in
              let r = t.rises c q s p e w in
              let z = ap position same in omega arith)
        ]

    same_port_down : (s p p' c q c' q' : ℕ) → by.across s p ≡ Some (c, q) → by.across s p' ≡ Some (c', q') → parent c ≡ Some q → parent c' ≡ Some q'
        → c ≡ c' → p ≡ p'
    same_port_down s p p' c q c' q' w w' e e' k =
        let j : q ≡ q' = same_Some q q' (sym e ∙ ap parent k ∙ e') in
        let back = t.both_ways s p c q w in
        let back' = t.both_ways s p' c' q' w' in
        let z : Some (s, p) ≡ Some (s, p') = sym back ∙ (λ i. by.across (k i) (j i)) ∙ back' in
        ap (λ (r : ℕ × ℕ). r.1) (same_Some (s, p) (s, p') z)

    -- no switch is on the other side of one of its ports
    pub not_itself : (s p : ℕ) → Side s p s → ⊥
    not_itself s p (inl (e, not_below)) = not_below (0, refl)
    not_itself s p (inr (c, q, w, e, b)) =
        let l = below_position by parent position t s c b in
        let r = t.rises c q s p e (t.both_ways s p c q w) in omega arith

    -- a switch is on the side of one port only
    pub one_side : (s p p' m : ℕ) → Side s p m → Side s p' m → p ≡ p'
    one_side s p p' m (inl (e, not_below)) (inl (e', not_below')) = same_Some p p' (sym e ∙ e')
    one_side s p p' m (inl (e, not_below)) (inr (c, q, w, e', b)) =
        absurd (not_below (below_trans by parent position m c s b (1, (q, s, p', e', t.both_ways s p' c q w, refl))))
    one_side s p p' m (inr (c, q, w, e', b)) (inl (e, not_below)) =
        absurd (not_below (below_trans by parent position m c s b (1, (q, s, p, e', t.both_ways s p c q w, refl))))
    one_side s p p' m (inr (c, q, w, e, b)) (inr (c', q', w', e', b')) =
        same_port_down s p p' c q c' q' w w' e e'
        (same_child m c q c' q' s p p' e (t.both_ways s p c q w) e' (t.both_ways s p' c' q' w') b b')

    -- the switch at the far end of a port is on its side
    pub far_side : (s p : ℕ) (far : ℕ × ℕ) → Link s p far → by.across s p ≡ Some far → by.is_switch far.0 ≡ true → Side s p far.0
    far_side s p far (inl u) w e =
        inl (u, λ b. let l = below_position by parent position t far.0 s b in let r = t.rises s p far.0 far.1 u w in omega arith)
    far_side s p far (inr (inl d)) w e = inr (far.0, far.1, w, d, (0, refl))
    far_side s p far (inr (inr leaf)) w e = absurd (cc)

    -- what is on the side of a port of the switch at the far end, other than the port of arrival, is on the first side
    pub further_side : (s p : ℕ) (far : ℕ × ℕ) (p' m : ℕ) → Link s p far → by.across s p ≡ Some far → by.is_switch far.0 ≡ true → p' ≢ far.1
        → Side far.0 p' m → Side s p m
    further_side s p far p' m (inl u) w e ne (inl (u', not_below)) =
        inl (u, λ b. not_below (below_trans by parent position m s far.0 b (1, (p, far.0, far.1, u, w, refl))))
    further_side s p far p' m (inl u) w e ne (inr (c, q, w', d, b)) =
        inl (
          u,
          λ b'.
              let back = t.both_ways s p far.0 far.1 w in
              ne (same_port_down far.0 p' far.1 c q s p w' back d u (same_child m c q s p far.0 p' far.1 d (t.both_ways far.0 p' c q w') u w b b')),
        )
    further_side s p far p' m (inr (inl d)) w e ne (inl (u', not_below)) = absurd (ne (same_Some p' far.1 (sym u' ∙ d)))
    further_side s p far p' m (inr (inl d)) w e ne (inr (c, q, w', d', b)) =
        inr (far.0, far.1, w, d, below_trans by parent position m c far.0 b (1, (q, far.0, p', d', t.both_ways far.0 p' c q w', refl)))
    further_side s p far p' m (inr (inr leaf)) w e ne side = absurd (cc)
