-- Components: walks join the switches of a component, and all of them have one root.
use Rattle.std.proofs.Common.{◌≡◌, ◌+◌, ℕ, zero, suc, List, [], ◌∷◌, refl, sym, ap, ◌∙◌, subst, arith, Bool, true, false, map, length}
use Rattle.std.specs.Prelude.{Option, None, Some, is_some, Contains}
use Rattle.std.specs.List.{find}
use Rattle.smp_bytes.proofs.Members.{contains_here, contains_later}
use Rattle.port_graph.specs.Walks.{has_walk, Walk}
use Rattle.port_graph.proofs.Counts.{length_map}
use Rattle.port_graph.proofs.WalkLemmas.{least_found, least_is, walk_from_test, test_from_walk, shortest_is}
use Rattle.port_graph.proofs.Lists.{found}
use Rattle.port_graph.proofs.Paths.{bounded_walk, keeps_to, walk_append, walk_back, walk_push, walk_reverse, has_least_from}
use Rattle.subnet_view.specs.SwitchEdges.{SwitchEdges}
use Rattle.subnet_view.specs.Graph.{neighbors}
use Rattle.subnet_view.specs.Components.{distance, in_one_component, root_of}
use Rattle.subnet_view.specs.GraphLaws.{IsGraph, IsSwitch}

-- where there is a number, it is one
pub is_some_of : (o : Option ℕ) → is_some o ≡ true → (n : ℕ) × (o ≡ Some n)
is_some_of None e = absurd (cc)
is_some_of (Some n) e = (n, refl)

-- tests that agree on a list find the same in it
pub find_same : (p q : ℕ → Bool) (xs : List ℕ) → ((x : ℕ) → Contains xs x → p x ≡ q x) → find p xs ≡ find q xs
find_same p q [] h = refl
find_same p q (x ∷ xs) h = cc (h x (contains_here x xs), find_same p q xs (λ y k. h y (contains_later x y xs k)))

-- tests of which each follows from the other agree
pub same_tests : (a b : Bool) → (a ≡ true → b ≡ true) → (b ≡ true → a ≡ true) → a ≡ b
same_tests true b f g = sym (f refl)
same_tests false true f g = g refl
same_tests false false f g = refl

module _ (graph : List SwitchEdges) (good : IsGraph graph) where
  abbrev guids : List ℕ
  guids = map (λ c. c.guid) graph

  abbrev next : ℕ → List ℕ
  next = neighbors graph

  -- a walk of any length makes two switches one component
  pub walk_joins : (n a b : ℕ) → IsSwitch graph a → Walk next a b n → (m : ℕ) × (distance graph a b ≡ Some m)
  walk_joins n a b h w =
      let i = bounded_walk next (length guids) guids n a b (omega arith) (keeps_to next guids good.leads_to_switch n a b h w) in
      has_least_from 0 (length graph) (has_walk next a b) i.0 (omega arith) (omega (arith, i.1, length_map (λ (c : SwitchEdges). c.guid) graph))
      (test_from_walk next a b i.0 i.2)

  -- a distance is the length of a walk
  pub walk_of : (a b m : ℕ) → distance graph a b ≡ Some m → Walk next a b m
  walk_of a b m e = (shortest_is next (length graph) a b m e).walk

  -- what has a distance is in one component
  pub joined : (a b m : ℕ) → distance graph a b ≡ Some m → in_one_component graph a b ≡ true
  joined a b m e = ap is_some e

  -- one is in another's component where the other is in its
  pub component_symm : (a b : ℕ) → IsSwitch graph b → in_one_component graph a b ≡ true → in_one_component graph b a ≡ true
  component_symm a b h e =
      let d = is_some_of (distance graph a b) e in
      let w = walk_joins d.0 b a h (walk_reverse next good.both_ways d.0 a b (walk_of a b d.0 d.1)) in
      joined b a w.0 w.1

  -- one is in the component of what is in another's
  pub component_trans : (a b c : ℕ) → IsSwitch graph a → in_one_component graph a b ≡ true → in_one_component graph b c ≡ true
      → in_one_component graph a c ≡ true
  component_trans a b c h e k =
      let d = is_some_of (distance graph a b) e in
      let f = is_some_of (distance graph b c) k in
      let w = walk_joins (d.0 + f.0) a c h (walk_append next d.0 f.0 a b c (walk_of a b d.0 d.1) (walk_of b c f.0 f.1)) in
      joined a c w.0 w.1

  -- a switch is in its own component
  pub component_itself : (a : ℕ) → IsSwitch graph a → in_one_component graph a a ≡ true
  component_itself a h = let w = walk_joins 0 a a h refl in joined a a w.0 w.1

  -- all of a component have one root
  pub same_root : (s t : ℕ) → IsSwitch graph s → IsSwitch graph t → in_one_component graph s t ≡ true → root_of graph s ≡ root_of graph t
  same_root s t hs ht e =
      find_same (in_one_component graph s) (in_one_component graph t) guids
      (λ x k. same_tests (in_one_component graph s x) (in_one_component graph t x)
      (λ p. component_trans t s x ht (component_symm s t ht e) p)
      (λ p. component_trans s t x hs e p))

  -- its root, and the distance from it
  pub record Rooted (s : ℕ) : Type 0 where
    pub root : ℕ
    pub is_root : root_of graph s ≡ Some root
    pub is_switch : IsSwitch graph root
    pub rank : ℕ
    pub is_rank : distance graph root s ≡ Some rank

  pub rooted : (s : ℕ) → IsSwitch graph s → Rooted s
  rooted s h =
      let f = found (in_one_component graph s) guids s h (component_itself s h) in
      let d = is_some_of (distance graph f.0 s) (component_symm s f.0 f.2 f.3) in
      record { root = f.0; is_root = f.1; is_switch = f.2; rank = d.0; is_rank = d.1 }

  -- the switch before the last on a shortest walk
  pub prior : (r t n : ℕ) → distance graph r t ≡ Some (suc n) → (u : ℕ) × (distance graph r u ≡ Some n) × Contains (next u) t
  prior r t n e =
      let i = least_found 0 (length graph) (has_walk next r t) (suc n) e in
      let s = shortest_is next (length graph) r t (suc n) e in
      let b = walk_back next n r t s.walk in (
        b.0,
        least_is 0 (length graph) (has_walk next r b.0) n
            (record {
              from = omega arith;
              bounded = omega (arith, i.bounded);
              passes = test_from_walk next r b.0 n b.1;
              least = λ m h l. (elim (has_walk next r b.0 m) as (λ t'. has_walk next r b.0 m ≡ t' → t' ≡ false) [
                | true ↦ λ p. absurd (omega (arith, s.least (suc m) (walk_push next m r b.0 t (walk_from_test next r b.0 m p) b.2)))
                | false ↦ λ p. refl
              ] refl);
            }),
        b.2,
      )

  -- what has a wire to a switch is one
  pub is_switch_before : (u t : ℕ) → Contains (next u) t → IsSwitch graph u
  is_switch_before u t h = good.leads_to_switch t u (good.both_ways u t h)

  -- and has its root
  pub root_before : (u t r : ℕ) → IsSwitch graph t → Contains (next u) t → root_of graph t ≡ Some r → root_of graph u ≡ Some r
  root_before u t r ht h e =
      let w = walk_joins 1 u t (is_switch_before u t h) (t, h, refl) in
      same_root u t (is_switch_before u t h) ht (joined u t w.0 w.1) ∙ e

  -- a walk from a switch ends at one
  pub walk_ends : (n a b : ℕ) → IsSwitch graph a → Walk (neighbors graph) a b n → IsSwitch graph b
  walk_ends zero a b h e = subst (λ (x : ℕ). IsSwitch graph x) e h
  walk_ends (suc n) a b h (c, s, w) = walk_ends n c b (good.leads_to_switch a c s) w

  -- a walk to a switch begins at one
  pub walk_begins : (n a b : ℕ) → IsSwitch graph b → Walk (neighbors graph) a b n → IsSwitch graph a
  walk_begins zero a b h e = subst (λ (x : ℕ). IsSwitch graph x) (sym e) h
  walk_begins (suc n) a b h (c, s, w) = good.leads_to_switch c a (good.both_ways a c s)
