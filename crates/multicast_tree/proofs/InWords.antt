-- The ports to parents and those of the tree are those in words.
use Rattle.std.proofs.Common.{◌≡◌, ◌≤◌, ◌<◌, ◌+◌, ℕ, suc, List, [], ◌∷◌, ◌⊎◌, inl, inr, refl, sym, ap, ◌∙◌, subst, arith, true, false, cond, ◌||◌, Option, map}
use Rattle.std.proofs.lemmas.Bool.Decides.{nat_tests}
use Rattle.std.proofs.lemmas.List.Kept.{AllPairs-from_increasing}
use Rattle.std.proofs.lemmas.List.{get_or_default}
use Rattle.std.proofs.lemmas.Option.{same_Some}
use Rattle.std.specs.Prelude.{Some, None, Contains, MatchOption, nat_lt, slice_index}
use Rattle.std.specs.Option.{option_or}
use Rattle.std.specs.List.Sorted.{IsStrictlyIncreasing}
use Rattle.fact_store.specs.View.{Facts, cells_of}
use Rattle.smp_bytes.proofs.Members.{contains_here, contains_later, contains_cases, contains_none}
use Rattle.port_graph.specs.declared.edge.Edge.{Edge}
use Rattle.port_graph.proofs.Lists.{contains_mapped}
use Rattle.subnet_view.specs.Reading.{Cells, is_usable, switches}
use Rattle.subnet_view.specs.Wires.{across}
use Rattle.subnet_view.specs.SwitchEdges.{SwitchEdges}
use Rattle.subnet_view.specs.Graph.{edges_at, graph_of}
use Rattle.subnet_view.proofs.Graphs.{edge_is_wire, graph_law}
use Rattle.subnet_view.proofs.GraphSwitches.{switch_usable, usable_switch}
use Rattle.subnet_view.proofs.WireEnds.{wires_go_both_ways}
use Rattle.subnet_view.proofs.WireLaws.{wire_law}
use Rattle.multicast_tree.proofs.TreePorts.{down_passes, listed, out_passes, up_passes}
use Rattle.multicast_tree.proofs.Trees.{given_is, in_tree, parent_up, tree_switch, up_or_down}
use Rattle.multicast_tree.specs.Tree.{InTree, first_before, is_below, is_given, is_tree_port, parent_port, position_in, tree_in}
use Rattle.multicast_tree.specs.TreeInWords.{HasNoParent, IsTreePort, LeadsToParent, ParentLaw, TreeLaw}

-- each edge has a lesser port than the later ones
abbrev Rise : List Edge → Type 0
Rise [] = Unit {0}
Rise (e ∷ es) = ((o : Edge) → Contains es o → e.port < o.port) × Rise es

rising : (es : List Edge) → IsStrictlyIncreasing (map (λ (e : Edge). e.port) es) → Rise es
rising [] r = tt
rising (e ∷ es) r = (
  λ o h.
      let k = contains_mapped (λ (e : Edge). e.port) es o h in
      let l = AllPairs-from_increasing (map (λ (x : Edge). x.port) (e ∷ es)) r 0 (suc k.0) 0 (omega arith) (omega (arith, k.1)) in
      let there = get_or_default (map (λ (x : Edge). x.port) es) k.0 o.port 0 k.1 in
      omega (arith, l, there, k.2),
  rising es (λ k h.
      let step : suc k + 1 ≡ suc (k + 1) = omega arith in
      let ports = map (λ (x : Edge). x.port) (e ∷ es) in
      subst (λ (n : ℕ). slice_index ports (suc k) < slice_index ports n) step (r (suc k) (omega arith))),
)

module _ (position : ℕ → ℕ) where
  -- the first edge to the least position, which is below the bound
  record IsLeast (bound : ℕ) (es : List Edge) (port : ℕ) : Type 0 where
    edge : Edge
    there : Contains es edge
    same : edge.port ≡ port
    before : position edge.to < bound
    least : (o : Edge) → Contains es o → position edge.to ≤ position o.to
    first : (o : Edge) → Contains es o → position o.to ≡ position edge.to → edge.port ≤ o.port

  abbrev None_before : ℕ → List Edge → Type 0
  None_before bound es = (o : Edge) → Contains es o → bound ≤ position o.to

  found : (es : List Edge) (bound : ℕ) → Rise es → MatchOption (first_before position bound es) (None_before bound es) (IsLeast bound es)
  found [] bound r = λ o h. absurd (contains_none o h)
  found (e ∷ es) bound r =
      elim (nat_lt (position e.to) bound) as (λ t. nat_lt (position e.to) bound ≡ t
      → MatchOption (cond t (option_or (first_before position (position e.to) es) (Some e.port)) (first_before position bound es))
      (None_before bound (e ∷ es)) (IsLeast bound (e ∷ es))) [
        | true ↦ λ l. nearer (first_before position (position e.to) es) (grind (arith, nat_tests)) (found es (position e.to) r.1)
        | false ↦ λ l. same_bound (first_before position bound es) (grind (arith, nat_tests)) (found es bound r.1)
      ] refl
    where
      nearer : (o : Option ℕ) → position e.to < bound → MatchOption o (None_before (position e.to) es) (IsLeast (position e.to) es)
          → MatchOption (option_or o (Some e.port)) (None_before bound (e ∷ es)) (IsLeast bound (e ∷ es))
      nearer None l none = record {
        edge = e;
        there = contains_here e es;
        same = refl;
        before = l;
        least = λ o h. (elim (contains_cases e o es h) [ inl k ↦ (let z = ap (λ (x : Edge). position x.to) k in omega arith) | inr k ↦ none o k ]);
        first = λ o h _. (elim (contains_cases e o es h) [
          | inl k ↦ (let z = ap (λ (x : Edge). x.port) k in omega arith)
          | inr k ↦ (let z = r.0 o k in omega arith)
        ]);
      }
      nearer (Some p) l i = record {
        edge = i.edge;
        there = contains_later e i.edge es i.there;
        same = i.same;
        before = (let b = i.before in omega arith);
        least = λ o h. (elim (contains_cases e o es h) [
          | inl k ↦ (let z = ap (λ (x : Edge). position x.to) k in let b = i.before in omega arith)
          | inr k ↦ i.least o k
        ]);
        first = λ o h s. (elim (contains_cases e o es h) [
          | inl k ↦ absurd (let z = ap (λ (x : Edge). position x.to) k in let b = i.before in omega arith)
          | inr k ↦ i.first o k s
        ]);
      }

      same_bound : (o : Option ℕ) → bound ≤ position e.to → MatchOption o (None_before bound es) (IsLeast bound es)
          → MatchOption o (None_before bound (e ∷ es)) (IsLeast bound (e ∷ es))
      same_bound None l none = λ o h. (elim (contains_cases e o es h) [
        | inl k ↦ (let z = ap (λ (x : Edge). position x.to) k in omega arith)
        | inr k ↦ none o k
      ])
      same_bound (Some p) l i = record {
        edge = i.edge;
        there = contains_later e i.edge es i.there;
        same = i.same;
        before = i.before;
        least = λ o h. (elim (contains_cases e o es h) [
          | inl k ↦ (let z = ap (λ (x : Edge). position x.to) k in let b = i.before in omega arith)
          | inr k ↦ i.least o k
        ]);
        first = λ o h s. (elim (contains_cases e o es h) [
          | inl k ↦ absurd (let z = ap (λ (x : Edge). position x.to) k in let b = i.before in omega arith)
          | inr k ↦ i.first o k s
        ]);
      }

pub parent_law : ParentLaw
parent_law graph position good g =
    in_words (first_before position (position g) (edges_at graph g)) (found position (edges_at graph g) (position g) (rising (edges_at graph g) (good.ports_rise g)))
  where
    in_words : (o : Option ℕ) → MatchOption o (None_before position (position g) (edges_at graph g)) (IsLeast position (position g) (edges_at graph g))
        → MatchOption o (HasNoParent graph position g) (λ port. (e : Edge) × (e.port ≡ port) × LeadsToParent graph position g e)
    in_words None none = none
    in_words (Some p) i = (i.edge, i.same, record { edge = i.there; earlier = i.before; earliest = i.least; least_port = i.first })

module _ (facts : Facts) (positions : List ℕ) where
  abbrev cells : Cells
  cells = cells_of facts

  abbrev graph : List SwitchEdges
  graph = graph_of (cells_of facts)

  abbrev position : ℕ → ℕ
  position = position_in (switches (cells_of facts)) positions

  abbrev parent : ℕ → Option ℕ
  parent = parent_port (graph_of (cells_of facts)) (position_in (switches (cells_of facts)) positions)

  -- the port to the parent is that of the wire there
  leads : (g p h q : ℕ) → across cells g p ≡ Some (h, q) → parent g ≡ Some p → LeadsToParent graph position g (record { port = p; to = h })
  leads g p h q w e =
      let law = subst (λ (o : Option ℕ). MatchOption o (HasNoParent graph position g) (λ port. (e : Edge) × (e.port ≡ port) × LeadsToParent graph position g e)) e
      (parent_law graph position (graph_law facts) g) in
      let wire = edge_is_wire cells g law.0 law.2.edge in
      let k : ◌≡◌ {A = ℕ × ℕ} (law.0.to, wire.end_port) (h, q) =
      same_Some (law.0.to, wire.end_port) (h, q) (sym wire.wire ∙ ap (across cells g) law.1 ∙ w) in
      subst (λ (x : Edge). LeadsToParent graph position g x) (λ i. record { port = law.1 i; to = (k i).0 }) law.2

  leads_back : (g p h : ℕ) → LeadsToParent graph position g (record { port = p; to = h }) → parent g ≡ Some p
  leads_back g p h l = given (parent g) (parent_law graph position (graph_law facts) g)
    where
      given : (o : Option ℕ) → MatchOption o (HasNoParent graph position g) (λ port. (e : Edge) × (e.port ≡ port) × LeadsToParent graph position g e) → o ≡ Some p
      given None none = absurd (let a = none (record { port = p; to = h }) l.edge in let b = l.earlier in omega arith)
      given (Some x) (e, same, m) =
          let low = m.earliest (record { port = p; to = h }) l.edge in
          let high = l.earliest e m.edge in
          let a = l.least_port e m.edge (omega arith) in
          let b = m.least_port (record { port = p; to = h }) l.edge (omega arith) in
          ap Some (omega arith)

  -- a port of the tree has a wire
  has_wire : (g p : ℕ) → is_tree_port cells parent g p ≡ true → (o : Option (ℕ × ℕ)) → across cells g p ≡ o → (q : ℕ × ℕ) × (across cells g p ≡ Some q)
  has_wire g p is (Some q) w = (q, w)
  has_wire g p is None w =
      elim (is_given (parent g) p) as (λ t. is_given (parent g) p ≡ t → (t || is_below cells parent (across cells g p)) ≡ true
      → (q : ℕ × ℕ) × (across cells g p ≡ Some q)) [
        | true ↦ λ e k. let i = parent_up cells position g p (given_is (parent g) p e) in ((i.parent, i.port), i.wire)
        | false ↦ λ e k. absurd (let z = ap (is_below cells parent) w in cc)
      ] refl is

  -- where it leads
  where_to : (g p h q : ℕ) → across cells g p ≡ Some (h, q) → is_tree_port cells parent g p ≡ true
      → LeadsToParent graph position g (record { port = p; to = h }) ⊎ (LeadsToParent graph position h (record { port = q; to = g })
      ⊎ (is_usable cells h ≡ false))
  where_to g p h q w is =
      elim (is_usable cells h) as (λ t. is_usable cells h ≡ t
      → LeadsToParent graph position g (record { port = p; to = h }) ⊎ (LeadsToParent graph position h (record { port = q; to = g }) ⊎ (t ≡ false))) [
        | true ↦ λ e. (elim (up_or_down cells position g p h q is w e) [
          | inl u ↦ inl (leads g p h q w u)
          | inr d ↦ inr (inl (leads h q g p (wires_go_both_ways cells g p h q w) d))
        ])
        | false ↦ λ e. inr (inr refl)
      ] refl

  to_words : (g p : ℕ) → InTree (tree_in cells positions) g p → IsTreePort cells position g p
  to_words g p h =
      let is = in_tree cells position parent g p h in
      let q = has_wire g p is (across cells g p) refl in
      record {
        usable = switch_usable facts g (tree_switch cells position parent g p h);
        node = q.0.0;
        port = q.0.1;
        wire = (wire_law cells g p q.0.0 q.0.1).0 q.1;
        leads = where_to g p q.0.0 q.0.1 q.1 is;
      }

  from_words : (g p : ℕ) → IsTreePort cells position g p → InTree (tree_in cells positions) g p
  from_words g p t =
      let w = (wire_law cells g p t.node t.port).1 t.wire in
      listed cells parent g p (t.node, t.port) (usable_switch facts g t.usable) w
      (elim t.leads [
        | inl u ↦ up_passes cells parent g p (leads_back g p t.node u)
        | inr (inl d) ↦ down_passes cells parent g p t.node t.port w (leads_back t.node t.port g d)
        | inr (inr leaf) ↦ out_passes cells parent g p t.node t.port w leaf
      ])

pub tree_law : TreeLaw
tree_law facts positions g p = (to_words facts positions g p, from_words facts positions g p)
