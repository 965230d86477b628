-- Copies within a forest.
use Rattle.std.proofs.Common.{◌≡◌, ◌≢◌, ◌≤◌, ◌<◌, ℕ, suc, List, [], ◌∷◌, length, ◌⊎◌, inl, inr, refl, sym, ap, ◌∙◌, subst, arith, true, false, cond, ◌==◌, Option}
use Rattle.std.proofs.lemmas.Option.{same_Some}
use Rattle.std.proofs.lemmas.Bool.{eqb-true, eq-eqb}
use Rattle.std.specs.Prelude.{Some, Contains, not}
use Rattle.smp_bytes.proofs.Members.{contains_filter, contains_cases}
use Rattle.spread_labels.specs.Orders.{without}
use Rattle.multicast_tree.specs.Copies.{Copying, IsCopied, CopyGoes, GoesDown, GoesUpThenDown}
use Rattle.multicast_tree.specs.Forest.{IsWithinForest, EachPortOnce, FewSwitchesPassed, UpThenDown}
use Rattle.multicast_tree.proofs.Sides.{Side, Link, link_of, not_itself, one_side, far_side, further_side}

differs : (s m : ℕ) → s ≢ m → not (m == s) ≡ true
differs s m ne =
    elim (m == s) as (λ t. (m == s) ≡ t → not t ≡ true) [ true ↦ λ e. absurd (ne (sym (eqb-true m s e))) | false ↦ λ e. refl ] refl

shorter : (s : ℕ) (xs : List ℕ) → length (without s xs) ≤ length xs
shorter s [] = omega arith
shorter s (x ∷ xs) =
    (elim (not (x == s)) as (λ t. length (cond t (x ∷ without s xs) (without s xs)) ≤ suc (length xs)) [
      | true ↦ let i = shorter s xs in omega arith
      | false ↦ let i = shorter s xs in omega arith
    ])

fewer_without : (s : ℕ) (xs : List ℕ) → Contains xs s → length (without s xs) < length xs
fewer_without s [] h = absurd (omega (arith, h.1))
fewer_without s (x ∷ xs) h =
    elim (x == s) as (λ t. (x == s) ≡ t → length (cond (not t) (x ∷ without s xs) (without s xs)) < suc (length xs)) [
      | true ↦ λ e. let i = shorter s xs in omega arith
      | false ↦ λ e. (elim (contains_cases x s xs h) [
        | inl k ↦ absurd (cc (eq-eqb x s k))
        | inr k ↦ let i = fewer_without s xs k in omega arith
      ])
    ] refl

module _ (by : Copying) where
  -- a switch that a copy leaves
  abbrev pub Leaves : ℕ × ℕ → List ℕ → ℕ → Type 0
  Leaves at [] m = ⊥
  Leaves at (p ∷ ps) m = (at.0 ≡ m) ⊎ ((far : ℕ × ℕ) × (by.across at.0 p ≡ Some far) × Leaves far ps m)

  -- the last hop of a copy
  pub record IsLast (at : ℕ × ℕ) (ports : List ℕ) (end : ℕ × ℕ) : Type 0 where
    pub came : ℕ × ℕ
    pub port : ℕ
    pub hop : IsCopied by came port end
    pub left : Leaves at ports came.0

  same_far : (at : ℕ × ℕ) (p : ℕ) (far far' : ℕ × ℕ) → IsCopied by at p far → IsCopied by at p far' → far ≡ far'
  same_far at p far far' i j = same_Some far far' (sym i.wire ∙ j.wire)

  last_hop : (at : ℕ × ℕ) (p : ℕ) (ps : List ℕ) (end : ℕ × ℕ) → CopyGoes by at (p ∷ ps) end → IsLast at (p ∷ ps) end
  last_hop at p [] end (far, i, e) = record { came = at; port = p; hop = subst (λ (f : ℕ × ℕ). IsCopied by at p f) e i; left = inl refl }
  last_hop at p (p2 ∷ ps) end (far, i, c) = let l = last_hop far p2 ps end c in
      record { came = l.came; port = l.port; hop = l.hop; left = inr (far, i.wire, l.left) }

  module _ (parent : ℕ → Option ℕ) (position : ℕ → ℕ) (t : IsWithinForest by parent position) where
    -- once a copy left a switch by a port, it leaves only switches on the side of that port
    stays : (s p : ℕ) (far : ℕ × ℕ) (ports : List ℕ) (end : ℕ × ℕ) (m : ℕ) → Link by parent position s p far → by.across s p ≡ Some far
        → CopyGoes by far ports end → Leaves far ports m → Side by parent position s p m
    stays s p far [] end m l w c v = absurd v
    stays s p far (p2 ∷ ps) end m l w (far2, i, c) (inl e) =
        subst (λ (x : ℕ). Side by parent position s p x) e (far_side by parent position t s p far l w i.at_switch)
    stays s p far (p2 ∷ ps) end m l w (far2, i, c) (inr (far3, w3, v)) =
        let k : far3 ≡ far2 = same_Some far3 far2 (sym w3 ∙ i.wire) in
        let v2 = subst (λ (f : ℕ × ℕ). Leaves f ps m) k v in
        further_side by parent position t s p far p2 m l w i.at_switch i.not_back
        (stays far.0 p2 far2 ps end m (link_of by parent position t far p2 far2 i) i.wire c v2)

    -- a copy that left never comes to the port again by which the packet came in
    never_back : (at : ℕ × ℕ) (p : ℕ) (ps : List ℕ) → CopyGoes by at (p ∷ ps) at → ⊥
    never_back at p [] (far, i, e) =
        let w = subst (λ (f : ℕ × ℕ). by.across at.0 p ≡ Some f) e i.wire in
        let l = link_of by parent position t at p at (subst (λ (f : ℕ × ℕ). IsCopied by at p f) e i) in
        not_itself by parent position t at.0 p (far_side by parent position t at.0 p at l w i.at_switch)
    never_back at p (p2 ∷ ps) (far, i, c) =
        let l = last_hop far p2 ps at c in
        let first = stays at.0 p far (p2 ∷ ps) at l.came.0 (link_of by parent position t at p far i) i.wire c l.left in
        let back = t.both_ways l.came.0 l.port at.0 at.1 l.hop.wire in
        let there : Side by parent position at.0 at.1 l.came.0 = elim (t.links l.came.0 l.port at.0 at.1 l.hop.at_switch i.at_switch l.hop.in_group l.hop.wire) [
          | inl u ↦ far_side by parent position t at.0 at.1 (l.came.0, l.port) (inr (inl u)) back l.hop.at_switch
          | inr d ↦ far_side by parent position t at.0 at.1 (l.came.0, l.port) (inl d) back l.hop.at_switch
        ] in
        i.not_back (one_side by parent position t at.0 p at.1 l.came.0 first there)

    -- where the last hop of a copy that left by a port begins
    left_or_side : (at : ℕ × ℕ) (p : ℕ) (far : ℕ × ℕ) (ps : List ℕ) (end : ℕ × ℕ) → IsCopied by at p far → CopyGoes by far ps end
        → (far ≡ end) ⊎ ((m : ℕ) × (q : ℕ) × (by.across m q ≡ Some end) × Side by parent position at.0 p m)
    left_or_side at p far [] end i c = inl c
    left_or_side at p far (p2 ∷ ps) end i c =
        let l = last_hop far p2 ps end c in
        inr (l.came.0, l.port, l.hop.wire, stays at.0 p far (p2 ∷ ps) end l.came.0 (link_of by parent position t at p far i) i.wire c l.left)

    -- one port leads to one port
    one_wire : (m q m' q' : ℕ) (end : ℕ × ℕ) → by.across m q ≡ Some end → by.across m' q' ≡ Some end → ◌≡◌ {A = ℕ × ℕ} (m, q) (m', q')
    one_wire m q m' q' end w w' =
        same_Some (m, q) (m', q') (sym (t.both_ways m q end.0 end.1 w) ∙ t.both_ways m' q' end.0 end.1 w')

    -- copies that leave a switch by different ports never meet
    one_way : (at : ℕ × ℕ) (p p' : ℕ) (far far' : ℕ × ℕ) (ps ps' : List ℕ) (end : ℕ × ℕ) → IsCopied by at p far → IsCopied by at p' far'
        → CopyGoes by far ps end → CopyGoes by far' ps' end → p ≡ p'
    one_way at p p' far far' ps ps' end i i' c c' =
        elim (left_or_side at p far ps end i c) [
          | inl e ↦ (elim (left_or_side at p' far' ps' end i' c') [
            | inl e' ↦ ap (λ (r : ℕ × ℕ). r.1)
                (one_wire at.0 p at.0 p' end (subst (λ (f : ℕ × ℕ). by.across at.0 p ≡ Some f) e i.wire) (subst (λ (f : ℕ × ℕ). by.across at.0 p' ≡ Some f) e' i'.wire))
            | inr (m, q, w, s) ↦ absurd
                (let k = one_wire m q at.0 p end w (subst (λ (f : ℕ × ℕ). by.across at.0 p ≡ Some f) e i.wire) in
                not_itself by parent position t at.0 p' (subst (λ (x : ℕ). Side by parent position at.0 p' x) (ap (λ (r : ℕ × ℕ). r.0) k) s))
          ])
          | inr (m, q, w, s) ↦ (elim (left_or_side at p' far' ps' end i' c') [
            | inl e' ↦ absurd
                (let k = one_wire m q at.0 p' end w (subst (λ (f : ℕ × ℕ). by.across at.0 p' ≡ Some f) e' i'.wire) in
                not_itself by parent position t at.0 p (subst (λ (x : ℕ). Side by parent position at.0 p x) (ap (λ (r : ℕ × ℕ). r.0) k) s))
            | inr (m', q', w', s') ↦
                let k = one_wire m' q' m q end w' w in
                one_side by parent position t at.0 p p' m s (subst (λ (x : ℕ). Side by parent position at.0 p' x) (ap (λ (r : ℕ × ℕ). r.0) k) s')
          ])
        ]

    -- no copy comes to the port from which the packet came
    pub none_back : (at : ℕ × ℕ) (p : ℕ) (ps : List ℕ) (end : ℕ × ℕ) → by.across at.0 at.1 ≡ Some end → CopyGoes by at (p ∷ ps) end → ⊥
    none_back at p ps end a (far, i, c) =
        elim (left_or_side at p far ps end i c) [
          | inl e ↦
              let k = one_wire at.0 p at.0 at.1 end (subst (λ (f : ℕ × ℕ). by.across at.0 p ≡ Some f) e i.wire) a in
              i.not_back (ap (λ (r : ℕ × ℕ). r.1) k)
          | inr (m, q, w, s) ↦
              let k = one_wire m q at.0 at.1 end w a in
              not_itself by parent position t at.0 p (subst (λ (x : ℕ). Side by parent position at.0 p x) (ap (λ (r : ℕ × ℕ). r.0) k) s)
        ]

    once : (at end : ℕ × ℕ) (ports others : List ℕ) → CopyGoes by at ports end → CopyGoes by at others end → ports ≡ others
    once at end [] [] c d = refl
    once at end [] (p ∷ ps) c d = absurd (never_back at p ps (subst (λ (f : ℕ × ℕ). CopyGoes by at (p ∷ ps) f) (sym c) d))
    once at end (p ∷ ps) [] c d = absurd (never_back at p ps (subst (λ (f : ℕ × ℕ). CopyGoes by at (p ∷ ps) f) (sym d) c))
    once at end (p ∷ ps) (p' ∷ ps') (far, i, c) (far', i', c') =
        let k = one_way at p p' far far' ps ps' end i i' c c' in
        let f : far' ≡ far = same_Some far' far (sym i'.wire ∙ sym (ap (by.across at.0) k) ∙ i.wire) in
        let r = once far end ps ps' c (subst (λ (x : ℕ × ℕ). CopyGoes by x ps' end) f c') in
        λ j. k j ∷ r j

    -- a copy does not go on from a node that is not a switch
    ends_there : (far : ℕ × ℕ) (ps : List ℕ) (end : ℕ × ℕ) → by.is_switch far.0 ≡ false → CopyGoes by far ps end → GoesDown by position far ps
    ends_there far [] end leaf c = tt
    ends_there far (p2 ∷ ps) end leaf (far2, i2, c) = absurd (cc (i2.at_switch))

    -- the hop of a copy that came from the parent leads down
    down_hop : (at : ℕ × ℕ) (p : ℕ) (far : ℕ × ℕ) (ps : List ℕ) (end : ℕ × ℕ) → parent at.0 ≡ Some at.1 → IsCopied by at p far → CopyGoes by far ps end
        → Link by parent position at.0 p far → (parent far.0 ≡ Some far.1 → GoesDown by position far ps)
        → (by.is_switch far.0 ≡ true → position at.0 < position far.0) × GoesDown by position far ps
    down_hop at p far ps end e i c (inl u) rest = absurd (i.not_back (same_Some p at.1 (sym u ∙ e)))
    down_hop at p far ps end e i c (inr (inl d)) rest =
        (λ s. t.rises far.0 far.1 at.0 p d (t.both_ways at.0 p far.0 far.1 i.wire), rest d)
    down_hop at p far ps end e i c (inr (inr leaf)) rest = (λ s. absurd (cc), ends_there far ps end leaf c)

    -- a copy that came from the parent goes down
    goes_down : (at : ℕ × ℕ) (ports : List ℕ) (end : ℕ × ℕ) → parent at.0 ≡ Some at.1 → CopyGoes by at ports end → GoesDown by position at ports
    goes_down at [] end e c = tt
    goes_down at (p ∷ ps) end e (far, i, c) = λ far' i'.
        let c' = subst (λ (f : ℕ × ℕ). CopyGoes by f ps end) (same_far at p far far' i i') c in
        down_hop at p far' ps end e i' c' (link_of by parent position t at p far' i') (λ d. goes_down far' ps end d c')

    -- a hop of a copy leads up, and the copy goes on up and down; or down, and it goes on down
    up_or_down : (at : ℕ × ℕ) (p : ℕ) (far : ℕ × ℕ) (ps : List ℕ) (end : ℕ × ℕ) → IsCopied by at p far → CopyGoes by far ps end
        → Link by parent position at.0 p far → GoesUpThenDown by position far ps
        → ((position far.0 < position at.0) × GoesUpThenDown by position far ps)
        ⊎ ((by.is_switch far.0 ≡ true → position at.0 < position far.0) × GoesDown by position far ps)
    up_or_down at p far ps end i c (inl u) rest = inl (t.rises at.0 p far.0 far.1 u i.wire, rest)
    up_or_down at p far ps end i c (inr (inl d)) rest =
        inr (λ s. t.rises far.0 far.1 at.0 p d (t.both_ways at.0 p far.0 far.1 i.wire), goes_down far ps end d c)
    up_or_down at p far ps end i c (inr (inr leaf)) rest = inr (λ s. absurd (cc), ends_there far ps end leaf c)

    goes_up_then_down : (at : ℕ × ℕ) (ports : List ℕ) (end : ℕ × ℕ) → CopyGoes by at ports end → GoesUpThenDown by position at ports
    goes_up_then_down at [] end c = tt
    goes_up_then_down at (p ∷ ps) end (far, i, c) = λ far' i'.
        let c' = subst (λ (f : ℕ × ℕ). CopyGoes by f ps end) (same_far at p far far' i i') c in
        up_or_down at p far' ps end i' c' (link_of by parent position t at p far' i') (goes_up_then_down far' ps end c')

    -- the ports of a copy are no more than a list has elements that contains the switches it leaves
    few : (at : ℕ × ℕ) (ports : List ℕ) (end : ℕ × ℕ) (vs : List ℕ) → CopyGoes by at ports end → ((m : ℕ) → Leaves at ports m → Contains vs m)
        → length ports ≤ length vs
    few at [] end vs c all = omega arith
    few at (p ∷ ps) end vs (far, i, c) all =
        let apart : (m : ℕ) → Leaves far ps m → at.0 ≢ m = λ m v e.
        not_itself by parent position t at.0 p
        (subst (λ (x : ℕ). Side by parent position at.0 p x) (sym e) (stays at.0 p far ps end m (link_of by parent position t at p far i) i.wire c v)) in
        let r = few far ps end (without at.0 vs) c
        (λ m v. contains_filter (λ x. not (x == at.0)) vs m (all m (inr (far, i.wire, v))) (differs at.0 m (apart m v))) in
        let l = fewer_without at.0 vs (all at.0 (inl refl)) in
        omega arith

pub each_port_once : EachPortOnce
each_port_once by parent position t at end ports others c d = once by parent position t at end ports others c d

pub up_then_down : UpThenDown
up_then_down by parent position t at end ports c = goes_up_then_down by parent position t at ports end c

-- a switch that a copy leaves has a port in the group
leaves_switch : (by : Copying) (at : ℕ × ℕ) (ports : List ℕ) (end : ℕ × ℕ) (m : ℕ) → CopyGoes by at ports end → Leaves by at ports m
    → (p : ℕ) × (by.is_switch m ≡ true) × (by.group m p ≡ true)
leaves_switch by at [] end m c v = absurd v
leaves_switch by at (p ∷ ps) end m (far, i, c) (inl e) =
    (p, subst (λ (x : ℕ). by.is_switch x ≡ true) e i.at_switch, subst (λ (x : ℕ). by.group x p ≡ true) e i.in_group)
leaves_switch by at (p ∷ ps) end m (far, i, c) (inr (far', w, v)) =
    let k : far' ≡ far = same_Some far' far (sym w ∙ i.wire) in
    leaves_switch by far ps end m c (subst (λ (f : ℕ × ℕ). Leaves by f ps m) k v)

pub few_switches_passed : FewSwitchesPassed
few_switches_passed by parent position t switches all at end ports c =
    few by parent position t at ports end switches c (λ m v. let l = leaves_switch by at ports end m c v in all m l.0 l.1 l.2)
