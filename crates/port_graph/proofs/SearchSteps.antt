-- The steps of a breadth-first search, as the code takes them.
use Rattle.std.proofs.Common.{◌≡◌, ◌<◌, ◌+◌, ℕ, zero, suc, List, [], ◌∷◌, ◌++◌, inl, inr, refl, sym, ap, ◌∙◌, subst, arith, cond, length, map, replicate}
use Rattle.std.proofs.lemmas.Bool.{cases_lt}
use Rattle.std.proofs.lemmas.List.{length-set, length-append, length-replicate, get_or-replicate, get_or_past, get_or_default, with_items_is}
use Rattle.std.specs.declared.vec.Vec.{Vec}
use Rattle.std.specs.Vec.{with_items}
use Rattle.std.specs.Prelude.{Option, None, Some, is_some, Contains, All, slice_index_or, slice_set}
use Rattle.smp_bytes.proofs.Members.{contains_here, contains_later}
use Rattle.port_graph.specs.declared.edge.Edge.{Edge}
use Rattle.port_graph.specs.Heads.{edges_at, heads, LeadToVertices}
use Rattle.port_graph.specs.Searches.{Search, reach, reach_all}
use Rattle.port_graph.proofs.Searching.{unknown, unknown_less, IsBetween, taken, all_reached, given_back, begun}

-- at each index what all that the list contains have
pub all_from_contained : {X : Type 0} (P : X → Type 0) (xs : List X) → ((x : X) → Contains xs x → P x) → All P xs
all_from_contained P xs h k d l = h (slice_index_or xs k d) (k, l, get_or_default xs k (slice_index_or xs k d) d l)

-- nothing is known of as many vertices
pub unknown_all : (n : ℕ) → unknown (replicate n None) ≡ n
unknown_all zero = refl
unknown_all (suc n) = ap suc (unknown_all n)

none_at : (n k : ℕ) → ◌≡◌ {A = Option ℕ} (slice_index_or (replicate n None) k None) None
none_at n k =
    elim (cases_lt k n) [
      | inl l ↦ get_or-replicate n k None None l
      | inr m ↦ get_or_past (replicate n None) k None (omega (arith, m, length-replicate {A = Option ℕ} n None))
    ]

-- the start
pub starts : (next : ℕ → List ℕ) (from n : ℕ) (ds : List (Option ℕ)) (q : List (ℕ × ℕ)) → from < n → ds ≡ replicate n None → q ≡ (from, 0) ∷ []
    → IsBetween next from n (slice_set ds from (Some 0), q)
starts next from n ds q below is one =
    begun next from n ds q (ap length is ∙ length-replicate n None) below (λ k. ap (λ xs. slice_index_or xs k None) is ∙ none_at n k) (ap unknown is
    ∙ unknown_all n) one

-- as many as get a distance wait
reach_counts : (d : ℕ) (s : Search) (a : ℕ) → a < length s.0 → unknown (reach d s a).0 + length (reach d s a).1 ≡ unknown s.0 + length s.1
reach_counts d s a below =
    elim (slice_index_or s.0 a None) as (λ o. slice_index_or s.0 a None ≡ o
    → (let t : Search = cond (is_some o) s (slice_set s.0 a (Some d), s.1 ++ (a, d) ∷ []) in unknown t.0 + length t.1) ≡ unknown s.0 + length s.1) [
      | None ↦ λ e. omega (arith, unknown_less s.0 a d below e, length-append s.1 ((a, d) ∷ []))
      | Some f ↦ λ e. refl
    ] refl

reach_keeps_length : (d : ℕ) (s : Search) (a : ℕ) → length (reach d s a).0 ≡ length s.0
reach_keeps_length d s a =
    elim (slice_index_or s.0 a None) as (λ o. (let t : Search = cond (is_some o) s (slice_set s.0 a (Some d), s.1 ++ (a, d) ∷ []) in length t.0) ≡ length s.0) [
      | None ↦ length-set s.0 a (Some d)
      | Some f ↦ refl
    ]

all_counts : (d : ℕ) (s : Search) (left : List Edge) → ((e : Edge) → Contains left e → e.to < length s.0)
    → unknown (reach_all d s left).0 + length (reach_all d s left).1 ≡ unknown s.0 + length s.1
all_counts d s [] below = refl
all_counts d s (x ∷ left) below =
    all_counts d (reach d s x.to) left (λ e h. let b = below e (contains_later x e left h) in omega (arith, b, reach_keeps_length d s x.to))
    ∙ reach_counts d s x.to (below x (contains_here x left))

-- a step that is written over the distances
pub written : {Z : Type 0} (distances : Vec (Option ℕ) Z) (seen new : List (Option ℕ)) (q rest : List (ℕ × ℕ)) (d : ℕ) (left : List Edge) → length new
    ≡ distances.len
    → seen ≡ distances.items → reach_all d (seen, q) left ≡ (new, rest) → reach_all d (distances.items, q) left ≡ ((with_items distances new).items, rest)
written distances seen new q rest d left all are step =
    (λ i. reach_all d (sym are i, q) left) ∙ step ∙ (λ i. (sym (with_items_is distances new all) i, rest))

module _ (edges : List (List Edge)) (from : ℕ) (lead : LeadToVertices edges) (ds : List (Option ℕ)) (before q : List (ℕ × ℕ)) (a d : ℕ)
    (first : before ≡ (a, d) ∷ q) (i : IsBetween (heads edges) from (length edges) (ds, before)) where
  opened : IsBetween (heads edges) from (length edges) (ds, (a, d) ∷ q)
  opened = subst (λ (w : List (ℕ × ℕ)). IsBetween (heads edges) from (length edges) (ds, w)) first i

  -- the distance is below the number of vertices
  pub distance_below : d < length edges
  distance_below = let w = opened in omega (arith, w.search.short a d (w.search.waits a d (contains_here (a, d) q)))

  -- the edges lead to vertices of the graph
  pub lead_within : (left : List Edge) → left ≡ edges_at edges a → (e : Edge) → Contains left e → e.to < length ds
  lead_within left is e h = let b = lead a e (subst (λ (xs : List Edge). Contains xs e) is h) in omega (arith, i.search.all)

  module _ (left : List Edge) (is : left ≡ edges_at edges a) (k : ℕ) (next : k ≡ suc d) (after : Search) (step : reach_all k (ds, q) left ≡ after) where
    -- a vertex more whose edges were followed
    pub between : IsBetween (heads edges) from (length edges) after
    between =
        let n = length edges in
        let start = taken (heads edges) from n a d left ds q (ap (map (λ e. e.to)) (sym is)) (λ e h. omega (arith, lead_within left is e h, i.search.all))
        opened in
        let Is : Search → Type 0 = λ s. IsBetween (heads edges) from n s in
        subst Is (ap (λ m. reach_all m (ds, q) left) (sym next)
        ∙ step) (given_back (heads edges) from n a d _ (all_reached (heads edges) from n a d left (ds, q) start))

    -- fewer wait or have no distance
    pub fewer : unknown after.0 + length after.1 < unknown ds + length before
    fewer = omega (arith, all_counts k (ds, q) left (lead_within left is), ap (λ (s : Search). unknown s.0 + length s.1) step, ap length first)
