-- Orders that grow from one that agrees with a grown order on its first vertices.
use Rattle.std.proofs.Common.{◌≡◌, ◌⊎◌, ◌∙◌, ◌<◌, ◌≤◌, ◌&&◌, ◌||◌, ◌==◌, ℕ, zero, suc, Bool, true, not, List, [], ◌∷◌, length}
use Rattle.std.proofs.Common.{refl, sym, ap, subst, arith, inl, inr}
use Rattle.std.specs.Prelude.{Contains, map, nat_lt}
use Rattle.std.proofs.lemmas.Bool.{cases_eq, cases_lt, eq-eqb, lt-ltb}
use Rattle.std.proofs.lemmas.List.{ext_get_or}
use Rattle.std.proofs.lemmas.List.FromFn.{get_or-map-range_with_len}
use Rattle.smp_bytes.proofs.Members.{contains_cases, contains_filter, contains_here, contains_later, contains_none}
use Rattle.port_graph.specs.declared.edge.Edge.{Edge}
use Rattle.port_graph.specs.Heads.{LeadToVertices, edges_at, heads}
use Rattle.port_graph.proofs.Indexing.{edges_below}
use Rattle.port_graph.proofs.Lists.{contains_map, contains_mapped}
use Rattle.spread_labels.specs.KeyOrder.{before_by, key_at, key_less}
use Rattle.spread_labels.specs.Orders.{AreEarlier, Beside, IsEarlier, IsGrownOrder, at_position, order, position_of}
use Rattle.spread_labels.specs.declared.key_order.VertexKey.{VertexKey}
use Rattle.spread_labels.proofs.ByPositions.{position_at, position_less}
use Rattle.spread_labels.proofs.Earliest.{keys_in_words}
use Rattle.spread_labels.proofs.Growing.{contains_at, earliest_there, is_grown_order}
use Rattle.spread_labels.proofs.KeyOrder.{keys_tell_apart}
use Rattle.two_orders.specs.Agreement.{AgreementGrows, AgreementStays, AgreesUpTo, AreVertices, GrowsAgain}
use Rattle.two_orders.specs.Growth.{grown_by, key_of, number_at, positions_in}
use Rattle.two_orders.specs.Trees.{all_earliest, earliest_beside, is_earlier, is_in_tree, tree}
use Rattle.two_orders.proofs.TreeEdges.{row, there, tree_is, tree_leads, tree_long}
use Rattle.two_orders.proofs.TreeLabels.{earliest_low}

-- positions as keys ---------------------------------------------------------------------------

key_is : (positions : List ℕ) (a : ℕ) → key_at (map key_of positions) a ≡ key_of (number_at positions a)
key_is [] a = refl
key_is (x ∷ xs) zero = refl
key_is (x ∷ xs) (suc a) = key_is xs a

pub less_is_before : (positions : List ℕ) (a b : ℕ) → number_at positions a < number_at positions b → before_by (map key_of positions) a b ≡ true
less_is_before positions a b less =
    (λ i. key_less (key_is positions a i) (key_is positions b i) || (not (key_less (key_is positions b i) (key_is positions a i)) && nat_lt a b))
    ∙ ap (λ t. t || (not (nat_lt (number_at positions b) (number_at positions a)) && nat_lt a b))
    (lt-ltb (number_at positions a) (number_at positions b) less)

-- what was placed when a vertex of a grown order was ------------------------------------------

module _ (edges : List (List Edge)) (before : ℕ → ℕ → Bool) where
  pub record Chosen (placed vertices : List ℕ) (i j : ℕ) : Type 0 where
    pub all : List ℕ
    pub earlier : IsEarlier edges before all (at_position vertices i) (at_position vertices j)
    pub from : (x : ℕ) → Contains all x → Contains placed x ⊎ ((k : ℕ) × (k < i) × (at_position vertices k ≡ x))
    pub kept : (x : ℕ) → Contains placed x → Contains all x
    pub to : (k : ℕ) → k < i → Contains all (at_position vertices k)

  pub chosen : (vertices placed : List ℕ) → AreEarlier edges before placed vertices → (i j : ℕ) → i < j → j < length vertices → Chosen placed vertices i j
  chosen [] placed are i j less within = absurd (omega arith)
  chosen (s ∷ ss) placed are i zero less within = absurd (omega arith)
  chosen (s ∷ ss) placed are zero (suc j) less within = record {
    all = placed;
    earlier = are.0 (at_position ss j) (contains_at ss j (omega arith));
    from = λ x h. inl h;
    kept = λ x h. h;
    to = λ k low. absurd (omega arith);
  }
  chosen (s ∷ ss) placed are (suc i) (suc j) less within =
      let rest = chosen ss (s ∷ placed) are.1 i j (omega arith) (omega arith) in
      record {
        all = rest.all;
        earlier = rest.earlier;
        from = λ x h. (elim (rest.from x h) [
          | inl k ↦ (elim (contains_cases s x placed k) [
            | inl same ↦ inr (0, omega arith, same)
            | inr own ↦ inl own
          ])
          | inr k ↦ inr (suc k.0, (let low = k.1 in omega (arith, low)), k.2)
        ]);
        kept = λ x h. rest.kept x (contains_later s x placed h);
        to = to rest;
      }
    where
      to : (rest : Chosen (s ∷ placed) ss i j) → (k : ℕ) → k < suc i → Contains rest.all (at_position (s ∷ ss) k)
      to rest zero low = rest.kept s (contains_here s placed)
      to rest (suc k) low = rest.to k (omega arith)

-- two lists of the same vertices --------------------------------------------------------------

module _ (n : ℕ) (P Q : List ℕ) (p : AreVertices n P) (q : AreVertices n Q) where
  -- index i, at which the lists differ for the first time: each has there what the other one has later
  record Differ (i : ℕ) : Type 0 where
    same : (j : ℕ) → j < i → number_at P j ≡ number_at Q j
    l : ℕ
    l_later : i < l
    l_in : l < length P
    l_is : number_at P l ≡ number_at Q i
    m : ℕ
    m_later : i < m
    m_in : m < length Q
    m_is : number_at Q m ≡ number_at P i

  alike_at : (i : ℕ) → i < length P → ((j : ℕ) → j < i → number_at P j ≡ number_at Q j) → (Differ i → ⊥)
      → (number_at P i ≡ number_at Q i) × (i < length Q)
  alike_at i within same never =
      let there = position_less Q (number_at P i) (q.all (number_at P i) (p.vertex i within)) in
      let m = position_of Q (number_at P i) in
      elim (cases_lt m i) [
        | inl low ↦ absurd (p.once i m within low (same m low ∙ there.1))
        | inr high ↦ (elim (cases_eq m i) [
          | inl is ↦ (sym there.1 ∙ ap (number_at Q) is, omega (arith, there.0, is))
          | inr other ↦
              let i_in : i < length Q = omega (arith, there.0, high) in
              let back = position_less P (number_at Q i) (p.all (number_at Q i) (q.vertex i i_in)) in
              let l = position_of P (number_at Q i) in
              (elim (cases_lt l i) [
                | inl low ↦ absurd (q.once i l i_in low (sym (same l low) ∙ back.1))
                | inr above ↦ (elim (cases_eq l i) [
                  | inl is ↦ (sym (ap (number_at P) is) ∙ back.1, i_in)
                  | inr apart ↦ absurd (never (record {
                    same = same;
                    l = l;
                    l_later = grind arith;
                    l_in = back.0;
                    l_is = back.1;
                    m = m;
                    m_later = grind arith;
                    m_in = there.0;
                    m_is = there.1;
                  }))
                ])
              ])
        ])
      ]

  alike : (k : ℕ) → ((i : ℕ) → i < k → Differ i → ⊥) → (c i : ℕ) → i < c → i < k → i < length P → (number_at P i ≡ number_at Q i) × (i < length Q)
  alike k never zero i less low within = absurd (omega arith)
  alike k never (suc c) i less low within =
      alike_at i within (λ j j_less. (alike k never c j (omega (arith, j_less, less)) (omega (arith, j_less, low)) (omega (arith, j_less, within))).0) (never i low)

  agree : (k : ℕ) → ((i : ℕ) → i < k → Differ i → ⊥) → AgreesUpTo P (number_at (positions_in Q n)) k
  agree k never i j low less within =
      let same : (x : ℕ) → x < k → x < length P → (number_at P x ≡ number_at Q x) × (x < length Q) =
      λ x x_low x_in. alike k never (suc x) x (omega arith) x_low x_in in
      let i_in : i < length P = omega (arith, less, within) in
      let own = same i low i_in in
      let at_i : position_of Q (number_at P i) ≡ i = ap (position_of Q) own.0 ∙ position_at Q q.once i own.1 in
      let there = position_less Q (number_at P j) (q.all (number_at P j) (p.vertex j within)) in
      let m = position_of Q (number_at P j) in
      let later : i < m =
      (elim (cases_lt i m) [
        | inl above ↦ above
        | inr below ↦ absurd (p.once j m within (omega (arith, below, less)) ((same m (omega (arith, below, low)) (omega (arith, below, i_in))).0 ∙ there.1))
      ]) in
      omega (arith, later, at_i, number_is (number_at P i) (p.vertex i i_in), number_is (number_at P j) (p.vertex j within))
    where
      number_is : (v : ℕ) → v < n → number_at (positions_in Q n) v ≡ position_of Q v
      number_is v below = get_or-map-range_with_len (position_of Q) 0 n v v 0 below (omega arith)

-- a list that is as long and alike everywhere is the same
same_lists : (n : ℕ) (P Q : List ℕ) → AreVertices n P → AreVertices n Q
    → ((i : ℕ) → i < length P → (number_at P i ≡ number_at Q i) × (i < length Q)) → P ≡ Q
same_lists n P Q p q each = ext_get_or 0 P Q as_long (λ i less. (each i less).0)
  where
    as_long : length P ≡ length Q
    as_long =
        elim (cases_lt (length P) (length Q)) [
          | inl shorter ↦
              let v = number_at Q (length P) in
              let there = position_less P v (p.all v (q.vertex (length P) shorter)) in
              absurd (q.once (length P) (position_of P v) shorter there.0 (sym (each (position_of P v) there.0).0 ∙ there.1))
          | inr no_shorter ↦ (elim (cases_lt (length Q) (length P)) [
            | inl longer ↦ (let own = (each (length Q) longer).1 in absurd (omega (arith, own)))
            | inr no_longer ↦ omega (arith, no_shorter, no_longer)
          ])
        ]

-- a grown order is a list of all vertices -----------------------------------------------------

are_vertices : (edges : List (List Edge)) (vertices : List ℕ) → IsGrownOrder edges vertices → (n : ℕ) → n ≡ length edges → AreVertices n vertices
are_vertices edges vertices is n many = record {
  all = λ s below. is.all s (omega (arith, below, many));
  vertex = λ i within. (let below = is.vertex i within in omega (arith, below, many));
  once = is.once;
}

pub ordered_are_vertices : (edges : List (List Edge)) → LeadToVertices edges → (keys : List VertexKey)
    → AreVertices (length edges) (order edges (before_by keys))
ordered_are_vertices edges lead keys =
    are_vertices edges (order edges (before_by keys)) (is_grown_order edges lead (before_by keys)) (length edges) refl

pub grown_are_vertices : (edges : List (List Edge)) → LeadToVertices edges → (positions : List ℕ) → AreVertices (length edges) (grown_by edges positions)
grown_are_vertices edges lead positions = ordered_are_vertices edges lead (map key_of positions)

-- the tree ------------------------------------------------------------------------------------

module _ (edges : List (List Edge)) (positions : List ℕ) where
  -- a vertex beside an earlier one has an edge in the tree, to one that is no later
  tree_edge : (v : ℕ) (x : Edge) → Contains (edges_at edges v) x → number_at positions x.to < number_at positions v
      → (y : Edge) × Contains (edges_at (tree edges positions) v) y × (number_at positions y.to ≤ number_at positions x.to)
  tree_edge v x h less =
      let below = edges_below edges v x h in
      let first = earliest_beside edges positions v in
      let own = contains_mapped (λ (e : Edge). e.to) (edges_at edges v) x h in
      let low : number_at positions first ≤ number_at positions x.to =
      earliest_low positions v (heads edges v) x.to (contains_later v x.to (heads edges v) own) in
      (elim (contains_cases v first (heads edges v) (earliest_there (is_earlier positions) (heads edges v) v)) [
        | inl same ↦ absurd (omega (arith, low, less, ap (number_at positions) same))
        | inr head ↦
            let y = contains_map (λ (e : Edge). e.to) (edges_at edges v) first head in
            let at : number_at (all_earliest edges positions) v ≡ first =
            get_or-map-range_with_len (earliest_beside edges positions) 0 (length edges) v v 0 below (omega arith) in
            let test : is_in_tree (all_earliest edges positions) v y.0 ≡ true =
            ap (λ b. b || (number_at (all_earliest edges positions) y.0.to == v))
            (eq-eqb (number_at (all_earliest edges positions) v) y.0.to (at ∙ sym y.2)) in
            let kept = contains_filter (is_in_tree (all_earliest edges positions) v) (edges_at edges v) y.0 y.1 test in
            let in_by = subst (λ (es : List Edge). Contains es y.0) (sym (row edges (all_earliest edges positions) v below)) kept in
            let in_tree = subst (λ (es : List (List Edge)). Contains (edges_at es v) y.0) (sym (tree_is edges positions)) in_by in
            (y.0, in_tree, omega (arith, low, ap (number_at positions) y.2))
      ])

  tree_has : (v : ℕ) (x : Edge) → Contains (edges_at (tree edges positions) v) x → Contains (edges_at edges v) x
  tree_has v x h =
      (there edges (all_earliest edges positions) v x (subst (λ (es : List (List Edge)). Contains (edges_at es v) x) (tree_is edges positions) h)).0

-- vertices that are placed in one list are placed in another one, if both begin alike
placed_alike : (P Q all others : List ℕ) (i : ℕ) → ((x : ℕ) → Contains all x → Contains [] x ⊎ ((k : ℕ) × (k < i) × (at_position P k ≡ x)))
    → ((j : ℕ) → j < i → number_at P j ≡ number_at Q j) → ((j : ℕ) → j < i → Contains others (at_position Q j))
    → (x : ℕ) → Contains all x → Contains others x
placed_alike P Q all others i from same to x h =
    elim (from x h) [
      | inl none ↦ absurd (contains_none x none)
      | inr k ↦ subst (λ (y : ℕ). Contains others y) (sym (same k.0 k.1) ∙ k.2) (to k.0 k.1)
    ]

module _ (edges : List (List Edge)) (lead : LeadToVertices edges) (keys : List VertexKey) (told : List ℕ) (k : ℕ)
    (agreed : AgreesUpTo (order edges (before_by keys)) (number_at told) k) where
  abbrev P : List ℕ
  P = order edges (before_by keys)

  abbrev by_plan : ℕ → ℕ → Bool
  by_plan = before_by keys

  p : AreVertices (length edges) P
  p = ordered_are_vertices edges lead keys

  abbrev Q : List ℕ
  Q = grown_by edges told

  q : AreVertices (length edges) Q
  q = grown_are_vertices edges lead told

  abbrev by_told : ℕ → ℕ → Bool
  by_told = before_by (map key_of told)

  in_p : (i j : ℕ) → i < j → j < length P → Chosen edges by_plan [] P i j
  in_p i j less within = chosen edges by_plan P [] (keys_in_words edges by_plan lead (keys_tell_apart keys)) i j less within

  in_q : (i j : ℕ) → i < j → j < length Q → Chosen edges by_told [] Q i j
  in_q i j less within = chosen edges by_told Q [] (keys_in_words edges by_told lead (keys_tell_apart (map key_of told))) i j less within

  never_differ : (i : ℕ) → i < k → Differ (length edges) P Q p q i → ⊥
  never_differ i low d =
      let s = number_at P i in
      let y = number_at P d.l in
      let a = in_p i d.l d.l_later d.l_in in
      let b = in_q i d.m d.m_later d.m_in in
      let turned = subst (λ (x : ℕ × ℕ). IsEarlier edges by_told b.all x.0 x.1) (λ t. (sym d.l_is t, d.m_is t)) b.earlier in
      let before : by_told s y ≡ true = less_is_before told s y (agreed i d.l low d.l_later d.l_in) in
      let there = placed_alike P Q a.all b.all i a.from d.same b.to in
      let back = placed_alike Q P b.all a.all i b.from (λ j less. sym (d.same j less)) a.to in
      let no_edge : Beside edges a.all s → ⊥ =
      λ e. (let not_so = (turned.front (e.0, e.1, there e.0.to e.2)).1 in absurd (cc)) in
      let not_so = turned.alone (λ e. no_edge (a.earlier.front (e.0, e.1, back e.0.to e.2)).0) in
      absurd (cc)

  pub stays : AgreesUpTo (order edges (before_by keys)) (number_at (positions_in (grown_by edges told) (length edges))) k
  stays = agree (length edges) P Q p q k never_differ

  -- with agreement on all vertices it is the same order
  whole : length P ≤ k → P ≡ Q
  whole all =
      same_lists (length edges) P Q p q
      (λ i less. alike (length edges) P Q p q k never_differ (suc i) i (omega arith) (omega (arith, less, all)) less)

  abbrev T : List (List Edge)
  T = tree edges told

  abbrev R : List ℕ
  R = order (tree edges told) (before_by keys)

  r : AreVertices (length edges) R
  r = are_vertices T R (is_grown_order T (tree_leads edges told lead) by_plan) (length edges) (sym (tree_long edges told))

  in_r : (i j : ℕ) → i < j → j < length R → Chosen T by_plan [] R i j
  in_r i j less within = chosen T by_plan R [] (keys_in_words T by_plan (tree_leads edges told lead) (keys_tell_apart keys)) i j less within

  -- a vertex beside one that is placed is beside one in the tree
  in_tree : (i : ℕ) → i < suc k → i < length P → (all others : List ℕ)
      → ((x : ℕ) → Contains all x → Contains [] x ⊎ ((j : ℕ) × (j < i) × (at_position P j ≡ x)))
      → ((j : ℕ) → j < i → Contains others (number_at P j)) → Beside edges all (number_at P i) → Beside T others (number_at P i)
  in_tree i low within all others from to (e, h, c) =
      elim (from e.to c) [
        | inl none ↦ absurd (contains_none e.to none)
        | inr j ↦
            let less : number_at told e.to < number_at told (number_at P i) =
            subst (λ (x : ℕ). number_at told x < number_at told (number_at P i)) j.2 (agreed j.0 i (let l = j.1 in omega (arith, l, low)) j.1 within) in
            let x = tree_edge edges told (number_at P i) e h less in
            let w = position_less P x.0.to (p.all x.0.to (lead (number_at P i) x.0 (tree_has edges told (number_at P i) x.0 x.1))) in
            let at = position_of P x.0.to in
            (elim (cases_lt at i) [
              | inl early ↦ (x.0, x.1, subst (λ (z : ℕ). Contains others z) w.1 (to at early))
              | inr late ↦
                  let later = agreed j.0 at (let l = j.1 in omega (arith, l, low)) (let l = j.1 in omega (arith, l, late)) w.0 in
                  absurd (omega (arith, later, x.2, ap (number_at told) j.2, ap (number_at told) w.1))
            ])
      ]

  never_apart : (i : ℕ) → i < suc k → Differ (length edges) P R p r i → ⊥
  never_apart i low d =
      let s = number_at P i in
      let y = number_at P d.l in
      let a = in_p i d.l d.l_later d.l_in in
      let b = in_r i d.m d.m_later d.m_in in
      let turned = subst (λ (x : ℕ × ℕ). IsEarlier T by_plan b.all x.0 x.1) (λ t. (sym d.l_is t, d.m_is t)) b.earlier in
      let back = placed_alike R P b.all a.all i b.from (λ j less. sym (d.same j less)) a.to in
      let wired : (v : ℕ) → Beside T b.all v → Beside edges a.all v =
      λ v e. (e.0, tree_has edges told v e.0 e.1, back e.0.to e.2) in
      let i_in : i < length P = (let l = d.l_later in let m = d.l_in in omega (arith, l, m)) in
      let to : (j : ℕ) → j < i → Contains b.all (number_at P j) =
      λ j less. subst (λ (z : ℕ). Contains b.all z) (sym (d.same j less)) (b.to j less) in
      let apart : s ≡ y → ⊥ = p.once d.l i d.l_in d.l_later in
      let told_apart = keys_tell_apart keys in
      let no_edge : Beside edges a.all s → ⊥ =
      λ e. (
      let there = turned.front (in_tree i low i_in a.all b.all a.from to e) in
      let not_y = (a.earlier.front (wired y there.0)).1 in
      let is_y = told_apart.total s y apart there.1 in
      absurd (cc)) in
      let not_y = a.earlier.alone no_edge in
      let is_y = told_apart.total s y apart (turned.alone (λ e. no_edge (a.earlier.front (wired y e)).0)) in
      absurd (cc)

  pub grows : AgreesUpTo (order edges (before_by keys)) (number_at (positions_in (order (tree edges told) (before_by keys)) (length edges))) (suc k)
  grows = agree (length edges) P R p r (suc k) never_apart

-- the positions in a list agree with all of it
own_agrees : (n : ℕ) (vertices : List ℕ) → AreVertices n vertices → AgreesUpTo vertices (number_at (positions_in vertices n)) (length vertices)
own_agrees n vertices are i j low less within =
    let at : (k : ℕ) → k < length vertices → number_at (positions_in vertices n) (number_at vertices k) ≡ k =
    λ k k_in.
    get_or-map-range_with_len (position_of vertices) 0 n (number_at vertices k) (number_at vertices k) 0 (are.vertex k k_in) (omega arith)
    ∙ position_at vertices are.once k k_in in
    omega (arith, at i low, at j within, less)

pub grows_again : GrowsAgain
grows_again edges lead keys =
    let P = order edges (before_by keys) in
    let n = length edges in
    sym (whole edges lead keys (positions_in P n) (length P) (own_agrees n P (ordered_are_vertices edges lead keys)) (omega arith))

pub agreement_stays : AgreementStays
agreement_stays edges lead plan told k agreed = stays edges lead (map key_of plan) told k agreed

pub agreement_grows : AgreementGrows
agreement_grows edges lead plan told k agreed = grows edges lead (map key_of plan) told k agreed
