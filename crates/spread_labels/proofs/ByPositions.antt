-- A graph by the positions of a grown order is grown.
use Rattle.std.proofs.Common.{◌≡◌, ◌<◌, ℕ, zero, suc, List, [], ◌∷◌, inl, inr, refl}
use Rattle.std.proofs.Common.{sym, ap, ◌∙◌, subst, arith, true, false, cond, ◌==◌, map, length}
use Rattle.std.proofs.lemmas.Bool.{eqb-true, eq-eqb, ne_eqb}
use Rattle.std.specs.Prelude.{Contains}
use Rattle.smp_bytes.proofs.Members.{contains_cases, contains_none}
use Rattle.port_graph.specs.declared.edge.Edge.{Edge}
use Rattle.port_graph.specs.Walks.{Walk}
use Rattle.port_graph.specs.Heads.{edges_at, heads, LeadToVertices}
use Rattle.port_graph.proofs.Lists.{contains_map, contains_mapped}
use Rattle.port_graph.proofs.Counts.{length_map}
use Rattle.port_graph.proofs.Indexing.{edges_below}
use Rattle.spread_labels.specs.LabelLaws.{IsSymmetric, IsGrown, IsGrownGraph}
use Rattle.spread_labels.specs.Orders.{order, at_position, position_of, IsGrownOrder, positioned_edge, by_position, OrderLaw}
use Rattle.spread_labels.proofs.Growing.{is_grown_order}

pub position_less : (vertices : List ℕ) (s : ℕ) → Contains vertices s → (position_of vertices s < length vertices)
    × (at_position vertices (position_of vertices s) ≡ s)
position_less [] s h = absurd (contains_none s h)
position_less (x ∷ xs) s h =
    elim (x == s) as (λ b. (x == s) ≡ b → (cond b 0 (suc (position_of xs s)) < suc (length xs))
    × (at_position (x ∷ xs) (cond b 0 (suc (position_of xs s))) ≡ s)) [
      | true ↦ λ q. (omega arith, eqb-true x s q)
      | false ↦ λ q. (elim (contains_cases x s xs h) [
        | inl same ↦ (let e = eq-eqb x s same in absurd (cc))
        | inr k ↦ (let i = position_less xs s k in (omega (arith, i.0), i.1))
      ])
    ] refl

pub position_at : (vertices : List ℕ) → ((i j : ℕ) → i < length vertices → j < i → at_position vertices j ≡ at_position vertices i → ⊥)
    → (i : ℕ) → i < length vertices → position_of vertices (at_position vertices i) ≡ i
position_at [] once i h = absurd (omega arith)
position_at (x ∷ xs) once zero h = ap (λ b. cond b 0 (suc (position_of xs x))) (eq-eqb x x refl)
position_at (x ∷ xs) once (suc i) h =
    ap (λ b. cond b 0 (suc (position_of xs (at_position xs i)))) (ne_eqb x (at_position xs i) (once (suc i) 0 h (omega arith)))
    ∙ ap suc (position_at xs (λ k j l m. once (suc k) (suc j) (omega arith) (omega arith)) i (omega arith))

pub row_at : (f : ℕ → List Edge) (vertices : List ℕ) (i : ℕ) → i < length vertices → edges_at (map f vertices) i ≡ f (at_position vertices i)
row_at f [] i h = absurd (omega arith)
row_at f (x ∷ xs) zero h = refl
row_at f (x ∷ xs) (suc i) h = row_at f xs i (omega arith)

module _ (edges : List (List Edge)) (vertices : List ℕ) (lead : LeadToVertices edges) (symmetric : IsSymmetric edges) (is : IsGrownOrder edges vertices) where
  abbrev placed : List (List Edge)
  placed = by_position edges vertices

  -- an edge of the graph by positions
  pub record Leads (a : ℕ) (e : Edge) : Type 0 where
    pub position : a < length vertices
    pub edge : Edge
    pub there : Contains (edges_at edges (at_position vertices a)) edge
    pub same : positioned_edge vertices edge ≡ e
    pub within : e.to < length vertices
    pub to : at_position vertices e.to ≡ edge.to

  pub leads : (a : ℕ) (e : Edge) → Contains (edges_at placed a) e → Leads a e
  leads a e h =
      let below : a < length vertices =
      omega (arith, edges_below placed a e h, length_map (λ (s : ℕ). map (positioned_edge vertices) (edges_at edges s)) vertices) in
      let row = row_at (λ s. map (positioned_edge vertices) (edges_at edges s)) vertices a below in
      let x = contains_map (positioned_edge vertices) (edges_at edges (at_position vertices a)) e (subst (λ (xs : List Edge). Contains xs e) row h) in
      let p = position_less vertices x.0.to (is.all x.0.to (lead (at_position vertices a) x.0 x.1)) in
      let to : position_of vertices x.0.to ≡ e.to = ap (λ (y : Edge). y.to) x.2 in
      record {
        position = below;
        edge = x.0;
        there = x.1;
        same = x.2;
        within = omega (arith, p.0);
        to = ap (at_position vertices) (sym to) ∙ p.1;
      }

  placed_there : (a : ℕ) (e : Edge) → a < length vertices → Contains (edges_at edges (at_position vertices a)) e
      → Contains (edges_at placed a) (positioned_edge vertices e)
  placed_there a e h k =
      let row = row_at (λ s. map (positioned_edge vertices) (edges_at edges s)) vertices a h in
      subst (λ (xs : List Edge). Contains xs (positioned_edge vertices e)) (sym row)
      (contains_mapped (positioned_edge vertices) (edges_at edges (at_position vertices a)) e k)

  head_leads : (a b : ℕ) → Contains (heads placed a) b
      → (a < length vertices) × (b < length vertices) × Contains (heads edges (at_position vertices a)) (at_position vertices b)
  head_leads a b h =
      let x = contains_map (λ (y : Edge). y.to) (edges_at placed a) b h in
      let l = leads a x.0 x.1 in
      let to : at_position vertices b ≡ l.edge.to = ap (at_position vertices) (sym x.2) ∙ l.to in (
        l.position,
        subst (λ (y : ℕ). y < length vertices) x.2 l.within,
        subst (λ (y : ℕ). Contains (heads edges (at_position vertices a)) y) (sym to)
            (contains_mapped (λ (y : Edge). y.to) (edges_at edges (at_position vertices a)) l.edge l.there),
      )

  there_and_back : (a b : ℕ) → Contains (heads placed a) b → Contains (heads placed b) a
  there_and_back a b h =
      let l = head_leads a b h in
      let x = contains_map (λ (y : Edge). y.to) (edges_at edges (at_position vertices b)) (at_position vertices a)
      (symmetric (at_position vertices a) (at_position vertices b) l.2) in
      let e = placed_there b x.0 l.1 x.1 in
      let same : position_of vertices x.0.to ≡ a = ap (position_of vertices) x.2 ∙ position_at vertices is.once a l.0 in
      subst (λ (y : ℕ). Contains (heads placed b) y) same (contains_mapped (λ (y : Edge). y.to) (edges_at placed b) (positioned_edge vertices x.0) e)

  walk_there : (n a b : ℕ) → Walk (heads placed) a b n → Walk (heads edges) (at_position vertices a) (at_position vertices b) n
  walk_there zero a b e = ap (at_position vertices) e
  walk_there (suc n) a b (c, h, w) = (at_position vertices c, (head_leads a c h).2, walk_there n c b w)

  -- a walk by the positions of its vertices
  pub walk_by_positions : (n a b : ℕ) → a < length edges → Walk (heads edges) a b n → Walk (heads placed) (position_of vertices a) (position_of vertices b) n
  walk_by_positions zero a b h e = ap (position_of vertices) e
  walk_by_positions (suc n) a b h (c, k, w) =
      let x = contains_map (λ (y : Edge). y.to) (edges_at edges a) c k in
      let p = position_less vertices a (is.all a h) in
      let e = placed_there (position_of vertices a) x.0 p.0 (subst (λ (y : ℕ). Contains (edges_at edges y) x.0) (sym p.1) x.1) in (
        position_of vertices c,
        subst (λ (y : ℕ). Contains (heads placed (position_of vertices a)) y) (ap (position_of vertices) x.2)
            (contains_mapped (λ (y : Edge). y.to) (edges_at placed (position_of vertices a)) (positioned_edge vertices x.0) e),
        walk_by_positions n c b (subst (λ (y : ℕ). y < length edges) x.2 (lead a x.0 x.1)) w,
      )

  pub position_within : (a : ℕ) → a < length edges → position_of vertices a < length placed
  position_within a h =
      omega (arith, (position_less vertices a (is.all a h)).0, length_map (λ (s : ℕ). map (positioned_edge vertices) (edges_at edges s)) vertices)

  is_grown : IsGrown placed
  is_grown a b zero w l = absurd (let same : a ≡ b = w in omega arith)
  is_grown a b (suc n) w l =
      let below = (head_leads a w.0 w.1).0 in
      let g = is.grown a b (suc n) below l (walk_there (suc n) a b w) in
      let e = placed_there a g.0 below g.1 in
      let k = g.2 in
      let same : position_of vertices g.0.to ≡ k.0 = ap (position_of vertices) (sym k.2) ∙ position_at vertices is.once k.0 (omega (arith, k.1)) in
      (positioned_edge vertices g.0, e, omega (arith, k.1))

  pub is_grown_graph : IsGrownGraph placed
  is_grown_graph = record {
    lead = λ a e h. omega (arith, (leads a e h).within, length_map (λ (s : ℕ). map (positioned_edge vertices) (edges_at edges s)) vertices);
    symmetric = there_and_back;
    grown = is_grown;
  }

pub orders_in_words : OrderLaw
orders_in_words edges before lead symmetric =
    let o = is_grown_order edges lead before in
    record { is_grown = o; graph = is_grown_graph edges (order edges before) lead symmetric o }
