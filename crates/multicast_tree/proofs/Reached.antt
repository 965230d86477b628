-- Where masks have all ports of a forest, copies come to each port of a mask.
use Rattle.std.proofs.Common.{◌≡◌, ◌≢◌, ◌<◌, ◌+◌, ℕ, zero, suc, List, [], ◌∷◌, ◌++◌, inl, inr, refl, sym, ap, ◌∙◌, subst, arith, true, Option}
use Rattle.std.proofs.lemmas.Option.{same_Some}
use Rattle.std.specs.Prelude.{Some}
use Rattle.multicast_tree.specs.Copies.{Copying, IsCopied, CopyGoes}
use Rattle.multicast_tree.specs.Forest.{EachEndReached, IsAttachedAt, IsJoined, IsWholeForest, IsWithinForest, WiresLead}
use Rattle.multicast_tree.proofs.Below.{Below, below_trans, below_position, one_parent}
use Rattle.multicast_tree.proofs.Sides.{Side}

data Order (a b : ℕ) : Type 0 where
  less : a < b → Order a b
  same : a ≡ b → Order a b
  more : b < a → Order a b

order : (a b : ℕ) → Order a b
order zero zero = same refl
order zero (suc b) = less (omega arith)
order (suc a) zero = more (omega arith)
order (suc a) (suc b) = elim (order a b) [ less h ↦ less (omega arith) | same e ↦ same (ap suc e) | more h ↦ more (omega arith) ]

module _ (by : Copying) where
  go_on : (at : ℕ × ℕ) (ports : List ℕ) (mid : ℕ × ℕ) (p : ℕ) (end : ℕ × ℕ) → CopyGoes by at ports mid → IsCopied by mid p end → CopyGoes by at (ports ++ p ∷ []) end
  go_on at [] mid p end e i = (end, subst (λ (f : ℕ × ℕ). IsCopied by f p end) (sym e) i, refl)
  go_on at (x ∷ ports) mid p end (far, j, c) i = (far, j, go_on far ports mid p end c i)

  module _ (parent : ℕ → Option ℕ) (position : ℕ → ℕ) (t : IsWholeForest by parent position) where
    abbrev w : IsWithinForest by parent position
    w = t.within

    walk_turned : (n g h x m : ℕ) → by.is_switch g ≡ true → WiresLead by g h n → WiresLead by g x m → (k : ℕ) × WiresLead by h x k
    walk_turned zero g h x m s e back = (m, subst (λ (y : ℕ). WiresLead by y x m) e back)
    walk_turned (suc n) g h x m s (p, far, a, sf, rest) back =
        walk_turned n far.0 h x (suc m) sf rest (far.1, (g, p), w.both_ways g p far.0 far.1 a, s, back)

    walk_ends : (n g h : ℕ) → by.is_switch g ≡ true → WiresLead by g h n → by.is_switch h ≡ true
    walk_ends zero g h s e = subst (λ (y : ℕ). by.is_switch y ≡ true) e s
    walk_ends (suc n) g h s (p, far, a, sf, rest) = walk_ends n far.0 h sf rest

    turned : (g h : ℕ) → IsJoined by g h → IsJoined by h g
    turned g h j =
        let back = walk_turned j.length g h g 0 j.at_switch j.wires refl in
        record { at_switch = walk_ends j.length g h j.at_switch j.wires; length = back.0; wires = back.1 }

    -- a switch beside another is joined to what that one is
    joined : (g p h q v : ℕ) → by.is_switch g ≡ true → by.across h q ≡ Some (g, p) → IsJoined by g v → by.is_switch h ≡ true → IsJoined by h v
    joined g p h q v sg back j sh = record { at_switch = sh; length = suc j.length; wires = (q, (g, p), back, sg, j.wires) }

    -- what is on a switch's other side is on that of its child, which is later than where one looks from
    from_child : (v p x px h q : ℕ) → parent x ≡ Some px → by.across x px ≡ Some (h, q) → position v < position x → Side by parent position v p h
        → Side by parent position v p x
    from_child v p x px h q e wire l (inl (e', not_below)) =
        inl (e', λ b. below_child b)
      where
        below_child : Below by parent position x v → ⊥
        below_child (zero, k) = let z = ap position k in omega arith
        below_child (suc n, (p2, h2, q2, ep, eq, c)) =
            not_below (subst (λ (y : ℕ). Below by parent position y v) (one_parent by parent position x p2 h2 q2 px h q ep eq e wire) (n, c))
    from_child v p x px h q e wire l (inr (c, qc, w', e', b)) =
        inr (c, qc, w', e', below_trans by parent position x h c (1, (px, h, q, e, wire, refl)) b)

    -- nothing that is earlier than a child is on its side
    not_towards : (v x px h q : ℕ) → parent x ≡ Some px → by.across x px ≡ Some (h, q) → position v < position x → Side by parent position h q v → ⊥
    not_towards v x px h q e wire l (inl (e', _)) =
        let up = w.rises x px h q e wire in
        let down = w.rises h q x px e' (w.both_ways x px h q wire) in omega arith
    not_towards v x px h q e wire l (inr (c, qc, w', e', b)) =
        let k : ◌≡◌ {A = ℕ × ℕ} (c, qc) (x, px) = same_Some (c, qc) (x, px) (sym w' ∙ w.both_ways x px h q wire) in
        let r = below_position by parent position w v c b in
        let z = ap (λ (f : ℕ × ℕ). position f.0) k in omega arith

    -- a child is on its parent's side down
    child_there : (x px h q v r : ℕ) → parent x ≡ Some px → by.across x px ≡ Some (h, q) → h ≡ v → q ≡ r → Side by parent position v r x
    child_there x px h q v r e wire k j =
        inr (x, px, sym (λ i. by.across (k i) (j i)) ∙ w.both_ways x px h q wire, e, (0, refl))

    -- what is earlier is on a switch's side up
    up_there : (x px v : ℕ) → parent x ≡ Some px → position v < position x → Side by parent position x px v
    up_there x px v e l = inl (e, λ b. let r = below_position by parent position w v x b in omega arith)

    reach : (n y r u pu : ℕ) (end : ℕ × ℕ) → position y + position u < n → IsJoined by y u → by.is_switch y ≡ true → by.is_switch u ≡ true → by.group u pu ≡ true
        → by.across u pu ≡ Some end → (Side by parent position y r u → ⊥) → (Side by parent position u pu y → ⊥) → (y ≡ u → pu ≢ r)
        → (ports : List ℕ) × CopyGoes by (y, r) ports end
    reach zero y r u pu end l j sy su g a n1 n2 n3 = absurd (omega arith)
    reach (suc n) y r u pu end l j sy su g a n1 n2 n3 =
        elim (order (position y) (position u)) [
          | same e ↦
              let k = t.apart y u j e in (
                pu ∷ [],
                (
                  end,
                  record {
                    at_switch = sy;
                    in_group = subst (λ (x : ℕ). by.group x pu ≡ true) (sym k) g;
                    not_back = n3 k;
                    wire = subst (λ (x : ℕ). by.across x pu ≡ Some end) (sym k) a;
                  },
                  refl,
                ),
              )
          | more lt ↦
              let c = t.climbs y u j lt in
              let p = c.0 in let h = c.1.0 in let q = c.1.1 in
              let rest = reach n h q u pu end (let z = w.rises y p h q c.2 c.3 in omega arith) (joined y p h q u sy (w.both_ways y p h q c.3) j (t.to_switch y p h q c.2 c.3)) (t.to_switch y p h q c.2 c.3) su g a
              (not_towards u y p h q c.2 c.3 lt)
              (λ s. n2 (from_child u pu y p h q c.2 c.3 lt s))
              (λ k e. n2 (child_there y p h q u pu c.2 c.3 k (sym e))) in (
                p ∷ rest.0,
                (
                  (h, q),
                  record {
                    at_switch = sy;
                    in_group = t.all_up y p sy c.2;
                    not_back = λ e. n1 (subst (λ (x : ℕ). Side by parent position y x u) e (up_there y p u c.2 lt));
                    wire = c.3;
                  },
                  rest.1,
                ),
              )
          | less lt ↦
              let c = t.climbs u y (turned y u j) lt in
              let p = c.0 in let h = c.1.0 in let q = c.1.1 in
              let back = w.both_ways u p h q c.3 in
              let sh = t.to_switch u p h q c.2 c.3 in
              let rest = reach n y r h q (u, p) (let z = w.rises u p h q c.2 c.3 in omega arith) (turned h y (joined u p h q y su back (turned y u j) sh)) sy sh (t.all_down h q u p sh back c.2) back
              (λ s. n1 (from_child y r u p h q c.2 c.3 lt s))
              (not_towards y u p h q c.2 c.3 lt)
              (λ k e. n1 (child_there u p h q y r c.2 c.3 (sym k) e)) in (
                rest.0 ++ pu ∷ [],
                go_on (y, r) rest.0 (u, p) pu end rest.1 (record {
                  at_switch = su;
                  in_group = g;
                  not_back = λ e. n2 (subst (λ (x : ℕ). Side by parent position u x y) (sym e) (up_there u p y c.2 lt));
                  wire = a;
                }),
              )
        ]

    -- nothing is on the side of a port that leads to no switch
    no_side : (at end : ℕ × ℕ) (m : ℕ) → IsAttachedAt by end at → Side by parent position at.0 at.1 m → ⊥
    no_side at end m a (inl (e, _)) = cc (a.not_a_switch, t.to_switch at.0 at.1 end.0 end.1 e a.wire)
    no_side at end m a (inr (c, q, w', e, b)) =
        let k : ◌≡◌ {A = ℕ × ℕ} (c, q) end = same_Some (c, q) end (sym w' ∙ a.wire) in
        cc (a.not_a_switch, t.from_switch end.0 end.1 (subst (λ (f : ℕ × ℕ). parent f.0 ≡ Some f.1) k e))

    pub end_reached : (sender receiver at there : ℕ × ℕ) → sender ≢ receiver → IsAttachedAt by sender at → IsAttachedAt by receiver there
        → IsJoined by at.0 there.0 → (ports : List ℕ) × CopyGoes by at ports receiver
    end_reached sender receiver at there apart s r j =
        reach (suc (position at.0 + position there.0)) at.0 at.1 there.0 there.1 receiver (omega arith) j s.at_switch r.at_switch
        (t.all_out there.0 there.1 receiver.0 receiver.1 r.at_switch r.wire r.not_a_switch) r.wire
        (no_side at sender there.0 s) (no_side there receiver at.0 r)
        (λ k e. apart (same_Some sender receiver (sym s.wire ∙ (λ i. by.across (k i) (sym e i)) ∙ r.wire)))

pub each_end_reached : EachEndReached
each_end_reached by parent position t sender receiver at there apart s r j =
    end_reached by parent position t sender receiver at there apart s r j
