-- Edges up and down as slopes.
use Rattle.std.proofs.Common.{◌≡◌, ◌<◌, ◌+◌, ℕ, zero, suc, List, [], ◌∷◌, refl, sym, ap, ◌∙◌, subst, arith, Bool, true, length}
use Rattle.std.proofs.lemmas.Bool.{ltb-true, lt-ltb}
use Rattle.std.specs.Prelude.{nat_lt, filter, Contains}
use Rattle.smp_bytes.proofs.Members.{contains_filter, contains-from_filter}
use Rattle.port_graph.specs.declared.edge.Edge.{Edge}
use Rattle.port_graph.specs.Heads.{edges_at, heads}
use Rattle.port_graph.specs.NextPorts.{AreSlopes}
use Rattle.port_graph.specs.Routes.{Climbs, Descends}
use Rattle.port_graph.proofs.Lists.{contains_map, contains_mapped}
use Rattle.port_graph.proofs.Indexing.{ups_indexed, downs_indexed}
use Rattle.spread_labels.specs.LabelLaws.{IsSymmetric}
use Rattle.spread_labels.specs.Ways.{Climbs as ClimbsBy, Descends as DescendsBy}
use Rattle.spread_labels.specs.Sides.{rows_from, ups_of, downs_of, slopes_of, SidesLaw}

module _ (test : ℕ → Edge → Bool) where
  row_from : (edges : List (List Edge)) (k i j : ℕ) → k + i ≡ j → edges_at (rows_from test k edges) i ≡ filter (test j) (edges_at edges i)
  row_from [] k i j e = refl
  row_from (es ∷ rows) k zero j e = let same : k ≡ j = omega arith in ap (λ (x : ℕ). filter (test x) es) same
  row_from (es ∷ rows) k (suc i) j e = row_from rows (suc k) i j (omega arith)

  as_many : (edges : List (List Edge)) (k : ℕ) → length (rows_from test k edges) ≡ length edges
  as_many [] k = refl
  as_many (es ∷ rows) k = ap suc (as_many rows (suc k))

  in_row : (edges : List (List Edge)) (a : ℕ) (e : Edge) → Contains (edges_at edges a) e → test a e ≡ true → Contains (edges_at (rows_from test 0 edges) a) e
  in_row edges a e h t =
      subst (λ (xs : List Edge). Contains xs e) (sym (row_from edges 0 a a (omega arith))) (contains_filter (test a) (edges_at edges a) e h t)

  from_row : (edges : List (List Edge)) (a : ℕ) (e : Edge) → Contains (edges_at (rows_from test 0 edges) a) e → Contains (edges_at edges a) e
      × (test a e ≡ true)
  from_row edges a e h = contains-from_filter (test a) (edges_at edges a) e (subst (λ (xs : List Edge). Contains xs e) (row_from edges 0 a a (omega arith)) h)

abbrev is_up : ℕ → Edge → Bool
is_up s e = nat_lt e.to s

abbrev is_down : ℕ → Edge → Bool
is_down s e = nat_lt s e.to

module _ (edges : List (List Edge)) (symmetric : IsSymmetric edges) where
  back : (a : ℕ) (e : Edge) → Contains (edges_at edges a) e → (x : Edge) × Contains (edges_at edges e.to) x × (x.to ≡ a)
  back a e h = contains_map (λ (y : Edge). y.to) (edges_at edges e.to) a (symmetric a e.to (contains_mapped (λ (y : Edge). y.to) (edges_at edges a) e h))

  back_up : (a b : ℕ) → Contains (heads (downs_of edges) a) b → Contains (heads (ups_of edges) b) a
  back_up a b h =
      let e = contains_map (λ (y : Edge). y.to) (edges_at (downs_of edges) a) b h in
      let f = from_row is_down edges a e.0 e.1 in
      let x = back a e.0 f.0 in
      let less : x.0.to < e.0.to = omega (arith, x.2, ltb-true a e.0.to f.1) in
      let there = contains_mapped (λ (y : Edge). y.to) (edges_at (ups_of edges) e.0.to) x.0 (in_row is_up edges e.0.to x.0 x.1 (lt-ltb x.0.to e.0.to less)) in
      subst (λ (y : ℕ). Contains (heads (ups_of edges) b) y) x.2 (subst (λ (y : ℕ). Contains (heads (ups_of edges) y) x.0.to) e.2 there)

  back_down : (a b : ℕ) → Contains (heads (ups_of edges) a) b → Contains (heads (downs_of edges) b) a
  back_down a b h =
      let e = contains_map (λ (y : Edge). y.to) (edges_at (ups_of edges) a) b h in
      let f = from_row is_up edges a e.0 e.1 in
      let x = back a e.0 f.0 in
      let less : e.0.to < x.0.to = omega (arith, x.2, ltb-true e.0.to a f.1) in
      let there = contains_mapped (λ (y : Edge). y.to) (edges_at (downs_of edges) e.0.to) x.0 (in_row is_down edges e.0.to x.0 x.1 (lt-ltb e.0.to x.0.to less))
      in
      subst (λ (y : ℕ). Contains (heads (downs_of edges) b) y) x.2 (subst (λ (y : ℕ). Contains (heads (downs_of edges) y) x.0.to) e.2 there)

  are_slopes : AreSlopes (ups_of edges) (downs_of edges)
  are_slopes = record {
    all = as_many is_down edges 0 ∙ sym (as_many is_up edges 0);
    rise = λ a e h. ltb-true e.to a (from_row is_up edges a e h).1;
    back_up = back_up;
    back_down = back_down;
  }

  climbs : (es : List Edge) (s u : ℕ) → ClimbsBy edges s es u → Climbs (slopes_of edges) s es u
  climbs [] s u c = c
  climbs (e ∷ es) s u c = (
    subst (λ (xs : List Edge). Contains xs e) (sym (ups_indexed (ups_of edges) (downs_of edges) are_slopes s)) (in_row is_up edges s e c.0 (lt-ltb e.to s c.1)),
    climbs es e.to u c.2,
  )

  descends : (es : List Edge) (s u : ℕ) → DescendsBy edges s es u → Descends (slopes_of edges) s es u
  descends [] s u c = c
  descends (e ∷ es) s u c = (
    subst (λ (xs : List Edge). Contains xs e) (sym (downs_indexed (ups_of edges) (downs_of edges) are_slopes s))
        (in_row is_down edges s e c.0 (lt-ltb s e.to c.1)),
    descends es e.to u c.2,
  )

pub sides_in_words : SidesLaw
sides_in_words edges symmetric = record { slopes = are_slopes edges symmetric; climbs = climbs edges symmetric; descends = descends edges symmetric }
