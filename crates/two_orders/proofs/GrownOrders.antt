-- If an order could have grown, the order that grows by it has the vertices of each component in the same order.
use Rattle.std.proofs.Common.{◌≡◌, ◌∙◌, ◌+◌, ◌<◌, ℕ, zero, suc, Bool, true, List, [], length, refl, sym, ap, subst, arith, inl, inr}
use Rattle.std.specs.Prelude.{Contains, map}
use Rattle.std.proofs.lemmas.Bool.{cases_eq, cases_lt}
use Rattle.std.proofs.lemmas.List.FromFn.{get_or-map-range_with_len}
use Rattle.smp_bytes.proofs.Members.{contains_none}
use Rattle.port_graph.specs.declared.edge.Edge.{Edge}
use Rattle.port_graph.specs.Heads.{LeadToVertices, edges_at, heads}
use Rattle.port_graph.specs.Walks.{Walk}
use Rattle.port_graph.proofs.Lists.{contains_mapped}
use Rattle.port_graph.proofs.Paths.{walk_append}
use Rattle.spread_labels.specs.KeyOrder.{before_by}
use Rattle.spread_labels.specs.LabelLaws.{IsSymmetric}
use Rattle.spread_labels.specs.Orders.{Beside, position_of}
use Rattle.spread_labels.proofs.ByPositions.{position_at, position_less}
use Rattle.spread_labels.proofs.Earliest.{keys_in_words}
use Rattle.spread_labels.proofs.KeyOrder.{keys_tell_apart}
use Rattle.two_orders.specs.Agreement.{AreVertices, CouldGrow, GrownOrdersStay}
use Rattle.two_orders.specs.Growth.{grown_by, key_of, number_at, positions_in}
use Rattle.two_orders.proofs.Agreement.{Chosen, chosen, grown_are_vertices, less_is_before}

module _ (edges : List (List Edge)) (lead : LeadToVertices edges) (symmetric : IsSymmetric edges) (positions : List ℕ)
    (is : CouldGrow edges (number_at positions)) where
  abbrev q : ℕ → ℕ
  q = number_at positions

  abbrev before : ℕ → ℕ → Bool
  before = before_by (map key_of positions)

  abbrev G : List ℕ
  G = grown_by edges positions

  g : AreVertices (length edges) G
  g = grown_are_vertices edges lead positions

  in_g : (i j : ℕ) → i < j → j < length G → Chosen edges before [] G i j
  in_g i j less within = chosen edges before G [] (keys_in_words edges before lead (keys_tell_apart (map key_of positions))) i j less within

  in_grown : (v : ℕ) → v < length edges → (position_of G v < length G) × (number_at G (position_of G v) ≡ v)
  in_grown v below = position_less G v (g.all v below)

  -- none that is later has an earlier position
  abbrev NoneLater : ℕ → Type 0
  NoneLater m =
      (l k : ℕ) → m < l → l < length (grown_by edges positions) → Walk (heads edges) (number_at (grown_by edges positions) l) (number_at (grown_by edges positions) m) k
      → number_at positions (number_at (grown_by edges positions) l) < number_at positions (number_at (grown_by edges positions) m) → ⊥

  module _ (m : ℕ) (rest : (c : ℕ) → c < m → NoneLater c) (m_in : m < length (grown_by edges positions)) where
    -- p was placed before; up from a vertex that is later than p
    climb : (c x l k p : ℕ) → q x < c → p < m → m < l → l < length G → x < length edges → number_at G l ≡ x
        → q (number_at G p) < q x → Walk (heads edges) x (number_at G p) k → q x < q (number_at G m) → ⊥
    climb zero x l k p less p_low l_high l_in x_in same above walk low = absurd (omega (arith, less))
    climb (suc c) x l k p less p_low l_high l_in x_in same above walk low =
        let p_below = g.vertex p (omega (arith, p_low, m_in)) in
        let up = is.earlier x (number_at G p) k x_in p_below walk above in
        let e = up.0 in
        let h = up.1 in
        let lower : q e.to < q x = up.2 in
        let v = e.to in
        let v_in = lead x e h in
        let v_at = in_grown v v_in in
        let head = contains_mapped (λ (y : Edge). y.to) (edges_at edges x) e h in
        let onward : Walk (heads edges) v (number_at G p) (suc k) = (x, symmetric x v head, walk) in
        elim (cases_lt (position_of G v) m) [
          | inl placed ↦
              let ch = in_g m l l_high l_in in
              let there : Contains ch.all e.to = subst (λ (y : ℕ). Contains ch.all y) v_at.1 (ch.to (position_of G v) placed) in
              let beside : Beside edges ch.all (number_at G l) = subst (λ (y : ℕ). Beside edges ch.all y) (sym same) (e, h, there) in
              let not_so = (ch.earlier.front beside).1 in
              let so = less_is_before positions (number_at G l) (number_at G m) (omega (arith, low, ap q same)) in
              absurd (cc)
          | inr unplaced ↦ (elim (cases_eq (position_of G v) m) [
            | inl same_m ↦ absurd (omega (arith, lower, low, ap q (sym v_at.1 ∙ ap (number_at G) same_m)))
            | inr other ↦
                let high : m < position_of G v = grind arith in
                (elim (cases_lt (q v) (q (number_at G p))) [
                  | inl under ↦
                      rest p p_low (position_of G v) (suc k) (omega (arith, high, p_low)) v_at.0
                      (subst (λ (y : ℕ). Walk (heads edges) y (number_at G p) (suc k)) (sym v_at.1) onward)
                      (omega (arith, under, ap q v_at.1))
                  | inr over ↦ (elim (cases_eq (q v) (q (number_at G p))) [
                    | inl same_q ↦
                        let v_is : v ≡ number_at G p = is.apart v (number_at G p) v_in p_below same_q in
                        let at_g = position_at G g.once p (omega (arith, p_low, m_in)) in
                        absurd (omega (arith, high, p_low, at_g, ap (position_of G) v_is))
                    | inr differ ↦
                        climb c v (position_of G v) (suc k) p (omega (arith, lower, less)) p_low high v_at.0 v_in v_at.1 (grind arith) onward
                        (omega (arith, lower, low))
                  ])
                ])
          ])
        ]

    none_later : NoneLater m
    none_later l k l_high l_in walk low =
        let b = number_at G m in
        let x = number_at G l in
        let ch = in_g m l l_high l_in in
        let so : before x b ≡ true = less_is_before positions x b low in
        let no_edge : Beside edges ch.all b → ⊥ =
        λ e. elim (ch.from e.0.to e.2) [
          | inl none ↦ contains_none e.0.to none
          | inr p ↦
              let p_is : number_at G p.0 ≡ e.0.to = p.2 in
              let p_low = p.1 in
              let p_in : p.0 < length G = omega (arith, p_low, m_in) in
              let head : Contains (heads edges b) (number_at G p.0) =
              subst (λ (y : ℕ). Contains (heads edges b) y) (sym p_is) (contains_mapped (λ (y : Edge). y.to) (edges_at edges b) e.0 e.1) in
              let long : Walk (heads edges) x (number_at G p.0) (k + 1) = walk_append (heads edges) k 1 x b (number_at G p.0) walk (number_at G p.0, head, refl) in
              (elim (cases_lt (q x) (q (number_at G p.0))) [
                | inl first ↦ rest p.0 p.1 l (k + 1) (omega (arith, p_low, l_high)) l_in long first
                | inr behind ↦ (elim (cases_eq (q x) (q (number_at G p.0))) [
                  | inl same ↦ g.once l p.0 l_in (omega (arith, p_low, l_high)) (sym (is.apart x (number_at G p.0) (g.vertex l l_in) (g.vertex p.0 p_in) same))
                  | inr other ↦ climb (suc (q x)) x l (k + 1) p.0 (omega arith) p.1 l_high l_in (g.vertex l l_in) refl (grind arith) long low
                ])
              ])
        ] in
        let not_so = ch.earlier.alone no_edge in
        absurd (cc)

  never : (c m : ℕ) → m < c → m < length G → NoneLater m
  never zero m less m_in = absurd (omega (arith, less))
  never (suc c) m less m_in = none_later m (λ d d_less. never c d (omega (arith, d_less, less)) (omega (arith, d_less, m_in))) m_in

  grown_at : (v : ℕ) → v < length edges → number_at (positions_in G (length edges)) v ≡ position_of G v
  grown_at v below = get_or-map-range_with_len (position_of G) 0 (length edges) v v 0 below (omega arith)

  pub order_stays : (a b k : ℕ) → a < length edges → b < length edges → Walk (heads edges) a b k → q a < q b
      → number_at (positions_in G (length edges)) a < number_at (positions_in G (length edges)) b
  order_stays a b k a_in b_in walk low =
      let a_at = in_grown a a_in in
      let b_at = in_grown b b_in in
      elim (cases_lt (position_of G a) (position_of G b)) [
        | inl less ↦ omega (arith, less, grown_at a a_in, grown_at b b_in)
        | inr more ↦ (elim (cases_eq (position_of G a) (position_of G b)) [
          | inl same ↦ absurd (omega (arith, low, ap q (sym a_at.1 ∙ ap (number_at G) same ∙ b_at.1)))
          | inr other ↦
              absurd
              (never (suc (position_of G b)) (position_of G b) (omega arith) b_at.0 (position_of G a) k (grind arith) a_at.0
              (subst (λ (x : ℕ × ℕ). Walk (heads edges) x.0 x.1 k) (λ i. (sym a_at.1 i, sym b_at.1 i)) walk)
              (omega (arith, low, ap q a_at.1, ap q b_at.1)))
        ])
      ]

pub grown_orders_stay : GrownOrdersStay
grown_orders_stay edges lead symmetric positions is a b k a_in b_in walk low = order_stays edges lead symmetric positions is a b k a_in b_in walk low
