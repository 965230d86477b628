-- Each vertex gets a label if the second order grows over a tree of the first.
use Rattle.std.proofs.Common.{◌≡◌, ◌⊎◌, ◌∙◌, ◌<◌, ◌≤◌, ℕ, zero, suc, Option, Some, sym, ap, subst, arith, inl, inr}
use Rattle.std.proofs.lemmas.Bool.{cases_lt}
use Rattle.two_orders.specs.declared.labels.Sides.{Sides}
use Rattle.two_orders.specs.Labels.{both_down, first_goes_up, second_goes_up}

-- a function applied k times
abbrev pub iterated : (ℕ → ℕ) → ℕ → ℕ → ℕ
iterated e z zero = z
iterated e z (suc k) = e (iterated e z k)

module _ (r q e : ℕ → ℕ) (lab : ℕ → Option Sides) (C : ℕ → Type 0) (E : ℕ → ℕ → Type 0) where
  abbrev Falls : ℕ → Type 0
  Falls v = (lab v ≡ Some both_down) ⊎ (lab v ≡ Some first_goes_up)

  abbrev Early : ℕ → Type 0
  Early v = Falls v ⊎ (lab v ≡ Some second_goes_up)

  abbrev Labelled : ℕ → Type 0
  Labelled v = (s : Sides) × (lab v ≡ Some s)

  -- what the four rounds leave, and that labels up by the first order alone lead to one that is down by both
  pub record Closed : Type 0 where
    pub one : (v w : ℕ) → C v → E v w → r v < r w → q v < q w → lab w ≡ Some both_down → lab v ≡ Some both_down
    pub two : (v w : ℕ) → C v → E v w → r w < r v → q v < q w → Falls w → Falls v
    pub three : (v w : ℕ) → C v → E v w → r v < r w → q w < q v → (lab w ≡ Some both_down) ⊎ (lab w ≡ Some second_goes_up) → Early v
    pub four : (v w : ℕ) (s : Sides) → C v → E v w → r w < r v → q w < q v → lab w ≡ Some s → Labelled v
    pub ends : (v : ℕ) → C v → lab v ≡ Some first_goes_up → (x : ℕ) × C x × (lab x ≡ Some both_down) × (r x < r v)

  -- an edge of the tree, there and back, to an earlier vertex of the second order
  pub record IsParent (v u : ℕ) : Type 0 where
    pub among : C u
    pub there : E v u
    pub back : E u v
    pub earlier : q u < q v

  -- a vertex is the first of all by the second order; or its parent is the next one by the first order, or that one's
  pub data Parent (v : ℕ) : Type 0 where
    root : ((u : ℕ) → C u → q v ≤ q u) → Parent v
    up : (u : ℕ) → IsParent v u → e v ≡ u → r u < r v → Parent v
    down : (u : ℕ) → IsParent v u → e u ≡ v → r v < r u → Parent v

  pub record Tree : Type 0 where
    pub parent : (v : ℕ) → C v → Parent v
    pub same : (v w : ℕ) → C v → C w → q v ≡ q w → v ≡ w
    pub stays : (v : ℕ) → C v → C (e v)
    pub falls : (v : ℕ) → C v → r (e v) ≤ r v
    pub edge : (v : ℕ) → C v → q v < q (e v) → E (e v) v × (r (e v) < r v)

  module _ (closed : Closed) (tree : Tree) (t : ℕ) (t_in : C t) (t_down : lab t ≡ Some both_down) where
    -- the first by the second order
    pub record First : Type 0 where
      pub vertex : ℕ
      pub among : C vertex
      pub least : (u : ℕ) → C u → q vertex ≤ q u

    first_by : (v : ℕ) → C v → ((u : ℕ) → C u → q u < q v → First) → First
    first_by v v_in rest =
        elim (tree.parent v v_in) [
          | root least ↦ record { vertex = v; among = v_in; least = least }
          | up u p own low ↦ rest u p.among p.earlier
          | down u p own low ↦ rest u p.among p.earlier
        ]

    first_in : (k v : ℕ) → C v → q v ≤ k → First
    first_in zero v v_in few = first_by v v_in (λ u u_in less. absurd (omega (arith, less, few)))
    first_in (suc k) v v_in few = first_by v v_in (λ u u_in less. first_in k u u_in (omega (arith, less, few)))

    first : First
    first = first_in (q t) t t_in (omega arith)

    abbrev z : ℕ
    z = first.vertex

    abbrev anc : ℕ → ℕ
    anc k = iterated e first.vertex k

    anc_in : (k : ℕ) → C (anc k)
    anc_in zero = first.among
    anc_in (suc k) = tree.stays (anc k) (anc_in k)

    anc_falls : (j k : ℕ) → j ≤ k → r (anc k) ≤ r (anc j)
    anc_falls j zero low = let at : j ≡ 0 = omega (arith, low) in subst (λ (i : ℕ). r (anc 0) ≤ r (anc i)) (sym at) (omega arith)
    anc_falls j (suc k) low =
        elim (cases_lt k j) [
          | inl more ↦ (let at : j ≡ suc k = omega (arith, low, more) in subst (λ (i : ℕ). r (anc (suc k)) ≤ r (anc i)) (sym at) (omega arith))
          | inr within ↦ (let rest = anc_falls j k within in let here = tree.falls (anc k) (anc_in k) in omega (arith, rest, here))
        ]

    is_first : (v : ℕ) → C v → ((u : ℕ) → C u → q v ≤ q u) → z ≡ v
    is_first v v_in least =
        let one = first.least v v_in in
        let other = least z first.among in
        tree.same z v first.among v_in (omega (arith, one, other))

    -- from a vertex before its next one by the first order the next ones lead up from the first vertex
    record Chain (c : ℕ) : Type 0 where
      index : ℕ
      is : anc index ≡ c
      rises : (j : ℕ) → j ≤ index → q (anc j) < q (e (anc j))

    chain_by : (c : ℕ) → C c → q c < q (e c) → ((u : ℕ) → C u → q u < q c → q u < q (e u) → Chain u) → Chain c
    chain_by c c_in less rest =
        elim (tree.parent c c_in) [
          | root least ↦
              let is = is_first c c_in least in
              record {
                index = 0;
                is = is;
                rises = λ j low. let at : j ≡ 0 = omega (arith, low) in
                    subst (λ (i : ℕ). q (anc i) < q (e (anc i))) (sym at) (subst (λ (v : ℕ). q v < q (e v)) (sym is) less);
              }
          | up u p own low ↦ absurd (omega (arith, less, p.earlier, ap q own))
          | down u p own low ↦
              let x = rest u p.among p.earlier (omega (arith, p.earlier, ap q own)) in
              let is : anc (suc x.index) ≡ c = ap e x.is ∙ own in
              record {
                index = suc x.index;
                is = is;
                rises = λ j few. (elim (cases_lt x.index j) [
                  | inl more ↦ (let at : j ≡ suc x.index = omega (arith, few, more) in
                      subst (λ (i : ℕ). q (anc i) < q (e (anc i))) (sym at) (subst (λ (v : ℕ). q v < q (e v)) (sym is) less))
                  | inr within ↦ x.rises j within
                ]);
              }
        ]

    chain : (k c : ℕ) → C c → q c < q (e c) → q c ≤ k → Chain c
    chain zero c c_in less few = chain_by c c_in less (λ u u_in lower rises. absurd (omega (arith, lower, few)))
    chain (suc k) c c_in less few = chain_by c c_in less (λ u u_in lower rises. chain k u u_in rises (omega (arith, lower, few)))

    -- if it falls, all of these do
    record Falling (c : ℕ) : Type 0 where
      index : ℕ
      is : anc index ≡ c
      all : (j : ℕ) → j ≤ index → Falls (anc j)

    more_fall : (i c : ℕ) → ((j : ℕ) → j ≤ i → Falls (anc j)) → anc (suc i) ≡ c → Falls c → (j : ℕ) → j ≤ suc i → Falls (anc j)
    more_fall i c all is own j few =
        elim (cases_lt i j) [
          | inl more ↦ (let at : j ≡ suc i = omega (arith, few, more) in
              subst (λ (k : ℕ). Falls (anc k)) (sym at) (subst Falls (sym is) own))
          | inr within ↦ all j within
        ]

    only_first : (c : ℕ) → z ≡ c → Falls c → (j : ℕ) → j ≤ 0 → Falls (anc j)
    only_first c is own j low = let at : j ≡ 0 = omega (arith, low) in subst (λ (k : ℕ). Falls (anc k)) (sym at) (subst Falls (sym is) own)

    falling_by : (c : ℕ) → C c → q c < q (e c) → Falls c → ((u : ℕ) → C u → q u < q c → q u < q (e u) → Falls u → Falling u) → Falling c
    falling_by c c_in less own rest =
        elim (tree.parent c c_in) [
          | root least ↦ (let is = is_first c c_in least in record { index = 0; is = is; all = only_first c is own })
          | up u p above low ↦ absurd (omega (arith, less, p.earlier, ap q above))
          | down u p above low ↦
              let fall = closed.two u c p.among p.back low p.earlier own in
              let x = rest u p.among p.earlier (omega (arith, p.earlier, ap q above)) fall in
              let is : anc (suc x.index) ≡ c = ap e x.is ∙ above in
              record { index = suc x.index; is = is; all = more_fall x.index c x.all is own }
        ]

    falling : (k c : ℕ) → C c → q c < q (e c) → Falls c → q c ≤ k → Falling c
    falling zero c c_in less own few = falling_by c c_in less own (λ u u_in lower rises fall. absurd (omega (arith, lower, few)))
    falling (suc k) c c_in less own few =
        falling_by c c_in less own (λ u u_in lower rises fall. falling k u u_in rises fall (omega (arith, lower, few)))

    -- from one that is down by both, all up to some that is no later by the first order
    record Reach (x : ℕ) : Type 0 where
      index : ℕ
      low : r (anc index) ≤ r x
      all : (j : ℕ) → j ≤ index → Falls (anc j)

    reach_by : (x : ℕ) → C x → lab x ≡ Some both_down → ((u : ℕ) → C u → q u < q x → lab u ≡ Some both_down → Reach u) → Reach x
    reach_by x x_in own rest =
        elim (tree.parent x x_in) [
          | root least ↦ (let is = is_first x x_in least in record { index = 0; low = omega (arith, ap r is); all = only_first x is (inl own) })
          | up u p above less ↦
              let y = rest u p.among p.earlier (closed.one u x p.among p.back less p.earlier own) in
              record { index = y.index; low = omega (arith, y.low, less); all = y.all }
          | down u p above less ↦
              let fall = closed.two u x p.among p.back less p.earlier (inl own) in
              let y = falling (q u) u p.among (omega (arith, p.earlier, ap q above)) fall (omega arith) in
              let is : anc (suc y.index) ≡ x = ap e y.is ∙ above in
              record { index = suc y.index; low = omega (arith, ap r is); all = more_fall y.index x y.all is (inl own) }
        ]

    reach : (k x : ℕ) → C x → lab x ≡ Some both_down → q x ≤ k → Reach x
    reach zero x x_in own few = reach_by x x_in own (λ u u_in lower down. absurd (omega (arith, lower, few)))
    reach (suc k) x x_in own few = reach_by x x_in own (λ u u_in lower down. reach k u u_in down (omega (arith, lower, few)))

    -- so the first falls
    first_falls : Falls (anc 0)
    first_falls = (reach (q t) t t_in t_down (omega arith)).all 0 (omega arith)

    next_early : (j : ℕ) → q (anc j) < q (e (anc j)) → Early (anc j) → Early (anc (suc j))
    next_early j rises (inl (inl both)) =
        let edge = tree.edge (anc j) (anc_in j) rises in
        closed.three (anc (suc j)) (anc j) (anc_in (suc j)) edge.0 edge.1 rises (inl both)
    next_early j rises (inr second) =
        let edge = tree.edge (anc j) (anc_in j) rises in
        closed.three (anc (suc j)) (anc j) (anc_in (suc j)) edge.0 edge.1 rises (inr second)
    next_early j rises (inl (inr first_up)) =
        let x = closed.ends (anc j) (anc_in j) first_up in
        let y = reach (q x.0) x.0 x.1 x.2 (omega arith) in
        elim (cases_lt j y.index) [
          | inl more ↦ inl (y.all (suc j) (omega (arith, more)))
          | inr few ↦ (let low = anc_falls y.index j few in absurd (omega (arith, low, y.low, x.3)))
        ]

    early : (i : ℕ) → ((j : ℕ) → j ≤ i → q (anc j) < q (e (anc j))) → (j : ℕ) → j ≤ suc i → Early (anc j)
    early i rises zero few = inl first_falls
    early i rises (suc j) few = next_early j (rises j (omega (arith, few))) (early i rises j (omega (arith, few)))

    has_label : (v : ℕ) → Early v → Labelled v
    has_label v (inl (inl h)) = (both_down, h)
    has_label v (inl (inr h)) = (first_goes_up, h)
    has_label v (inr h) = (second_goes_up, h)

    label_by : (v : ℕ) → C v → ((u : ℕ) → C u → q u < q v → Labelled u) → Labelled v
    label_by v v_in rest =
        elim (tree.parent v v_in) [
          | root least ↦ has_label v (inl (subst Falls (is_first v v_in least) first_falls))
          | up u p above low ↦ (let own = rest u p.among p.earlier in closed.four v u own.0 v_in p.there low p.earlier own.1)
          | down u p above low ↦
              let x = chain (q u) u p.among (omega (arith, p.earlier, ap q above)) (omega arith) in
              let is : anc (suc x.index) ≡ v = ap e x.is ∙ above in
              has_label v (subst Early is (early x.index x.rises (suc x.index) (omega arith)))
        ]

    labelled_in : (k v : ℕ) → C v → q v ≤ k → Labelled v
    labelled_in zero v v_in few = label_by v v_in (λ u u_in lower. absurd (omega (arith, lower, few)))
    labelled_in (suc k) v v_in few = label_by v v_in (λ u u_in lower. labelled_in k u u_in (omega (arith, lower, few)))

    pub all_labelled_so : (v : ℕ) → C v → (s : Sides) × (lab v ≡ Some s)
    all_labelled_so v v_in = labelled_in (q v) v v_in (omega arith)
