-- How far vertices are from the first of their component: a search from it tells of all of them.
use Rattle.std.proofs.Common.{◌≡◌, ◌<◌, ◌+◌, ℕ, List, [], ◌∷◌, inl, inr, refl, sym, ap, ◌∙◌, subst, arith, true, false, Bool, length, replicate}
use Rattle.std.proofs.lemmas.Bool.{cases_eq}
use Rattle.std.proofs.lemmas.List.{get_or-replicate, length-replicate}
use Rattle.std.proofs.lemmas.Option.{none-some}
use Rattle.std.specs.Prelude.{Option, None, Some, Contains, filter, is_some, option_and_then, slice_index_or, unwrap_or}
use Rattle.std.specs.Option.{option_or}
use Rattle.smp_bytes.proofs.Members.{contains_filter, contains-from_filter, contains_none}
use Rattle.port_graph.specs.declared.edge.Edge.{Edge}
use Rattle.port_graph.specs.Heads.{edges_at, heads, AreDistances, LeadToVertices}
use Rattle.port_graph.specs.Walks.{Walk, has_walk}
use Rattle.port_graph.proofs.DistanceLaws.{shortest_found}
use Rattle.port_graph.proofs.Lists.{contains_map}
use Rattle.port_graph.proofs.Paths.{walk_append, walk_reverse}
use Rattle.port_graph.proofs.WalkLemmas.{least_found, least_is, shortest_is, test_from_walk, walk_from_test}
use Rattle.spread_labels.specs.declared.key_order.VertexKey.{VertexKey}
use Rattle.spread_labels.specs.DistanceClass.{distance}
use Rattle.spread_labels.specs.GrowthKeys.{AreFar, distances_from, first_among, first_at, from_first}
use Rattle.spread_labels.specs.KeyOrder.{before_by}
use Rattle.spread_labels.specs.LabelLaws.{IsSymmetric}
use Rattle.spread_labels.specs.Orders.{earliest, numbers_from}
use Rattle.spread_labels.specs.Growth.{earliest_of}
use Rattle.spread_labels.proofs.Growing.{earliest_there, numbers_below, numbers_there}
use Rattle.spread_labels.proofs.Nearer.{alike}
use Rattle.spread_labels.proofs.Numbers.{made_at}
use Rattle.spread_labels.proofs.Tests.{same_filter}

-- of some numbers one is the earliest
some_earliest : (before : ℕ → ℕ → Bool) (xs : List ℕ) (x : ℕ) → Contains xs x → (f : ℕ) × (earliest_of before xs ≡ Some f) × Contains xs f
some_earliest before [] x h = absurd (contains_none x h)
some_earliest before (y ∷ ys) x h = (earliest before y ys, refl, earliest_there before ys y)

module _ (edges : List (List Edge)) (lead : LeadToVertices edges) (symmetric : IsSymmetric edges) where
  within : (x y : ℕ) → Contains (heads edges x) y → y < length edges
  within x y k =
      let e = contains_map (λ (e : Edge). e.to) (edges_at edges x) y k in
      omega (arith, lead x e.0 e.1, e.2)

  there : (a b m : ℕ) → has_walk (heads edges) a b m ≡ true → has_walk (heads edges) b a m ≡ true
  there a b m h = test_from_walk (heads edges) b a m (walk_reverse (heads edges) symmetric m a b (walk_from_test (heads edges) a b m h))

  -- it is as far back
  turned : (a b d : ℕ) → distance edges a b ≡ Some d → distance edges b a ≡ Some d
  turned a b d e =
      let i = least_found 0 (length edges) (has_walk (heads edges) a b) d e in
      least_is 0 (length edges) (has_walk (heads edges) b a) d (record {
        from = i.from;
        bounded = i.bounded;
        passes = there a b d i.passes;
        least = λ m h l. (elim (has_walk (heads edges) b a m) as (λ t. has_walk (heads edges) b a m ≡ t → t ≡ false) [
          | true ↦ λ p. absurd (cc (i.least m h l, there b a m p))
          | false ↦ λ p. refl
        ] refl);
      })

  -- where a walk leads there is a distance
  by_walk : (a b m : ℕ) → a < length edges → Walk (heads edges) a b m → is_some (distance edges a b) ≡ true
  by_walk a b m h w = let d = shortest_found (heads edges) (length edges) within m a b h w in ap is_some d.1

  -- and where there is a distance a walk leads
  a_walk : (a b : ℕ) → is_some (distance edges a b) ≡ true → (d : ℕ) × (distance edges a b ≡ Some d) × Walk (heads edges) a b d
  a_walk a b h =
      elim (distance edges a b) as (λ o. distance edges a b ≡ o → is_some o ≡ true → (d : ℕ) × (o ≡ Some d) × Walk (heads edges) a b d) [
        | None ↦ λ e k. absurd (cc)
        | Some d ↦ λ e k. (d, refl, (shortest_is (heads edges) (length edges) a b d e).walk)
      ] refl h

  -- vertices of one component have distances to the same vertices
  together : (a b k x : ℕ) → a < length edges → b < length edges → Walk (heads edges) a b k → is_some (distance edges a x) ≡ is_some (distance edges b x)
  together a b k x h l w =
      let back = walk_reverse (heads edges) symmetric k a b w in
      alike (is_some (distance edges a x)) (is_some (distance edges b x))
      (λ e. let v = a_walk a x e in by_walk b x (k + v.0) l (walk_append (heads edges) k v.0 b a x back v.2))
      (λ e. let v = a_walk b x e in by_walk a x (k + v.0) h (walk_append (heads edges) k v.0 a b x w v.2))

  module _ (keys : List VertexKey) (long : length keys ≡ length edges) where
    abbrev has_distance : ℕ → ℕ → Bool
    has_distance a x = is_some (slice_index_or (distances_from edges a) x None)

    told : (a x : ℕ) → x < length edges → slice_index_or (distances_from edges a) x None ≡ distance edges a x
    told a x h = made_at (distance edges a) (length edges) x None h

    -- and the same first
    one_first : (a b k : ℕ) → a < length edges → b < length edges → Walk (heads edges) a b k
        → first_among keys (distances_from edges a) ≡ first_among keys (distances_from edges b)
    one_first a b k h l w =
        ap (earliest_of (before_by keys)) (same_filter (has_distance a) (has_distance b) (numbers_from 0 (length keys))
        (λ x c. let below : x < length edges = omega (arith, long, numbers_below (length keys) 0 x c) in
        ap is_some (told a x below) ∙ together a b k x h l w ∙ sym (ap is_some (told b x below))))

    -- there is one, and it has a distance
    a_first : (a : ℕ) → a < length edges → (f : ℕ) × (first_among keys (distances_from edges a) ≡ Some f) × (f < length edges)
        × (is_some (distance edges a f) ≡ true)
    a_first a h =
        let all = numbers_from 0 (length keys) in
        let own : has_distance a a ≡ true = ap is_some (told a a h) ∙ by_walk a a 0 h refl in
        let among = contains_filter (has_distance a) all a (numbers_there (length keys) 0 a (omega arith) (omega (arith, long))) own in
        let f = some_earliest (before_by keys) (filter (has_distance a) all) a among in
        let c = contains-from_filter (has_distance a) all f.0 f.2 in
        let below : f.0 < length edges = omega (arith, long, numbers_below (length keys) 0 f.0 c.0) in
        (f.0, f.1, below, ap is_some (sym (told a f.0 below)) ∙ c.1)

    -- the distance from the first of a vertex's component is that from the first of one's own
    pub tells : (a s d : ℕ) → a < length edges → s < length edges → distance edges (first_at edges keys a) s ≡ Some d → from_first keys (distances_from edges s)
        ≡ d
    tells a s d h l e =
        let f = a_first a h in
        let here : distance edges f.0 s ≡ Some d = ap (λ o. distance edges (unwrap_or o a) s) (sym f.1) ∙ e in
        let to = a_walk a f.0 f.3 in
        let on = a_walk f.0 s (ap is_some here) in
        let walk = walk_append (heads edges) to.0 on.0 a f.0 s to.2 on.2 in
        let first : first_among keys (distances_from edges s) ≡ Some f.0 = sym (one_first a s (to.0 + on.0) h l walk) ∙ f.1 in
        ap (λ o. unwrap_or (option_and_then (λ x. slice_index_or (distances_from edges s) x None) o) 0) first
        ∙ ap (λ o. unwrap_or o 0) (told s f.0 f.2 ∙ turned f.0 s d here)

    -- a vertex has a distance from the first of its component
    pub own_distance : (a : ℕ) → a < length edges → is_some (distance edges (first_at edges keys a) a) ≡ true
    own_distance a h =
        let f = a_first a h in
        let to = a_walk a f.0 f.3 in
        ap (λ o. is_some (distance edges (unwrap_or o a) a)) f.1 ∙ ap is_some (turned a f.0 to.0 to.1)

    -- a search more
    pub far_more : (v : ℕ) (old found new : List (Option ℕ)) → v < length edges → AreDistances edges (first_at edges keys v) found → length new ≡ length old
        → ((k : ℕ) → k < length edges → slice_index_or new k None ≡ option_or (slice_index_or old k None) (slice_index_or found k None))
        → AreFar edges keys v old → AreFar edges keys (v + 1) new
    far_more v old found new h are same filled far = record {
      all = same ∙ far.all;
      right = λ s d l e.
          let now = sym (filled s l) ∙ e in
          elim (slice_index_or old s None) as (λ o. slice_index_or old s None ≡ o → option_or o (slice_index_or found s None) ≡ Some d
          → from_first keys (distances_from edges s) ≡ d) [
            | Some x ↦ λ q k. far.right s d l (q ∙ k)
            | None ↦ λ q k. tells v s d h l (sym (are.shortest s l) ∙ k)
          ] refl now;
      known = λ s l. (elim (cases_eq s v) [
        | inl is ↦ subst (λ (x : ℕ). is_some (slice_index_or new x None) ≡ true) (sym is)
            (ap is_some (filled v h) ∙ either (slice_index_or old v None) (slice_index_or found v None) (ap is_some (are.shortest v h) ∙ own_distance v h))
        | inr other ↦
            let below : s < v = grind arith in
            ap is_some (filled s (omega arith)) ∙ first_some (slice_index_or old s None) (slice_index_or found s None) (far.known s below)
      ]);
    }
      where
        either : (o p : Option ℕ) → is_some p ≡ true → is_some (option_or o p) ≡ true
        either None p e = e
        either (Some x) p e = refl

        first_some : (o p : Option ℕ) → is_some o ≡ true → is_some (option_or o p) ≡ true
        first_some None p e = absurd (cc)
        first_some (Some x) p e = refl

    -- a vertex that is passed over
    pub far_passed : (v : ℕ) (far : List (Option ℕ)) → is_some (slice_index_or far v None) ≡ true → AreFar edges keys v far → AreFar edges keys (v + 1) far
    far_passed v far there are = record {
      all = are.all;
      right = are.right;
      known = λ s l. (elim (cases_eq s v) [
        | inl is ↦ subst (λ (x : ℕ). is_some (slice_index_or far x None) ≡ true) (sym is) there
        | inr other ↦ (let below : s < v = grind arith in are.known s below)
      ]);
    }

    -- at first none is known
    pub none_far : (far : List (Option ℕ)) → far ≡ replicate (length edges) None → AreFar edges keys 0 far
    none_far far is = record {
      all = ap length is ∙ length-replicate (length edges) None;
      right = λ s d l e. absurd (none-some d (sym (ap (λ xs. slice_index_or xs s None) is ∙ get_or-replicate (length edges) s None None l) ∙ e));
      known = λ s l. absurd (omega arith);
    }

-- at last each is known
pub far_is : (edges : List (List Edge)) (keys : List VertexKey) (far : List (Option ℕ)) → AreFar edges keys (length edges) far → (s : ℕ) → s < length edges
    → unwrap_or (slice_index_or far s None) 0 ≡ from_first keys (distances_from edges s)
far_is edges keys far are s h =
    elim (slice_index_or far s None) as (λ o. slice_index_or far s None ≡ o → is_some o ≡ true → unwrap_or o 0 ≡ from_first keys (distances_from edges s)) [
      | None ↦ λ q k. absurd (cc)
      | Some d ↦ λ q k. sym (are.right s d h q)
    ] refl (are.known s h)
