-- Each switch has the rank that the words say, and the order by rank and GUID is total.
use Rattle.std.proofs.Common.{◌≡◌, ◌⊎◌, ℕ, inl, inr, sym, ap, ◌∙◌, subst, arith, true, false, map, length}
use Rattle.std.proofs.lemmas.Bool.{cases_order, false_from_ne_true, true≢false}
use Rattle.std.specs.Prelude.{Option, Some, MatchOption, unwrap_or, List, Contains}
use Rattle.port_graph.specs.Walks.{IsShortest}
use Rattle.port_graph.proofs.WalkLemmas.{shortest_is}
use Rattle.subnet_view.specs.SwitchEdges.{SwitchEdges}
use Rattle.subnet_view.specs.Graph.{edges_at, neighbors}
use Rattle.subnet_view.specs.Components.{distance, in_one_component, root_of}
use Rattle.subnet_view.specs.GraphLaws.{IsGraph, IsSwitch}
use Rattle.subnet_view.proofs.Rising.{find_least, numbers_rise}
use Rattle.subnet_view.proofs.EdgeLists.{has_end}
use Rattle.subnet_view.proofs.Components.{is_some_of, walk_joins, walk_of, walk_ends, joined, rooted}
use Rattle.updown_routes.specs.Ranks.{rank_of, is_before}
use Rattle.updown_routes.specs.RankLaws.{IsRoot, HasRank, RankLaw, BeforeLaw, SlopeLaw}
use Rattle.updown_routes.proofs.Before.{rank, LexBelow, lesser, tied, lex_below, below_lex, before_trans, not_before_itself, ups_are, downs_are, ups_have, downs_have}
use Rattle.updown_routes.proofs.ComponentCosts.{rank_is}

-- shortest walks have one length
pub one_shortest : (next : ℕ → List ℕ) (a b m n : ℕ) → IsShortest next a b m → IsShortest next a b n → m ≡ n
one_shortest next a b m n i j = omega (arith, i.least n j.walk, j.least m i.walk)

one_root : (graph : List SwitchEdges) (a r s : ℕ) → IsRoot graph a r → IsRoot graph a s → r ≡ s
one_root graph a r s i j = omega (arith, i.least s j.reached.0 j.reached.1, j.least r i.reached.0 i.reached.1)

-- a switch has one rank
pub one_rank : (graph : List SwitchEdges) (a m n : ℕ) → HasRank graph a m → HasRank graph a n → m ≡ n
one_rank graph a m n (r, i, p) (s, j, q) =
    one_shortest (neighbors graph) s a m n (subst (λ (x : ℕ). IsShortest (neighbors graph) x a m) (one_root graph a r s i j) p) q

-- of two pairs with different second numbers one is below the other
pub lex_total : (r a s b : ℕ) → (a ≡ b → ⊥) → LexBelow r a s b ⊎ LexBelow s b r a
lex_total r a s b apart =
    elim (cases_order r s) [
      | inl e ↦ (elim (cases_order a b) [
        | inl i ↦ absurd (apart i)
        | inr (inl l) ↦ inl (tied e l)
        | inr (inr l) ↦ inr (tied (sym e) l)
      ])
      | inr (inl l) ↦ inl (lesser l)
      | inr (inr l) ↦ inr (lesser l)
    ]

module _ (graph : List SwitchEdges) where
  -- of two switches one is before the other, and not both
  pub before_total : (a b : ℕ) → (a ≡ b → ⊥) → is_before graph a b ≡ false → is_before graph b a ≡ true
  before_total a b apart e =
      elim (lex_total (rank graph a) a (rank graph b) b apart) [
        | inl l ↦ absurd (true≢false (sym (below_lex (rank graph a) a (rank graph b) b l) ∙ e))
        | inr l ↦ below_lex (rank graph b) b (rank graph a) a l
      ]

  -- of two switches at most one is before the other
  pub before_asymm : (a b : ℕ) → is_before graph a b ≡ true → is_before graph b a ≡ false
  before_asymm a b h = false_from_ne_true (is_before graph b a) (λ k. true≢false (sym (before_trans graph a b a h k) ∙ not_before_itself graph a))

module _ (graph : List SwitchEdges) (good : IsGraph graph) where
  is_root : (a r : ℕ) → IsSwitch graph a → root_of graph a ≡ Some r → IsRoot graph a r
  is_root a r h e =
      let guids : List ℕ = map (λ (c : SwitchEdges). c.guid) graph in
      let f = find_least (λ (n : ℕ). n) (in_one_component graph a) guids r (numbers_rise guids good.rising) e in
      let d = is_some_of (distance graph a r) f.passes in
      record {
        reached = (d.0, walk_of graph good a r d.0 d.1);
        least = λ b n w. let j = walk_joins graph good n a b h w in f.least b (walk_ends graph good n a b h w) (joined graph good a b j.0 j.1);
      }

  -- each switch has a rank, and it is the one in words
  pub has_rank : (a : ℕ) → IsSwitch graph a → (n : ℕ) × (rank_of graph a ≡ Some n) × HasRank graph a n
  has_rank a h =
      let r = rooted graph good a h in (
        r.rank,
        rank_is graph good a r.root r.rank r.is_root r.is_rank,
        (r.root, is_root a r.root h r.is_root, shortest_is (neighbors graph) (length graph) r.root a r.rank r.is_rank),
      )

  ranked : (a m : ℕ) → IsSwitch graph a → HasRank graph a m → rank graph a ≡ m
  ranked a m h k = let r = has_rank a h in ap (λ o. unwrap_or o 0) r.1 ∙ one_rank graph a r.0 m r.2 k

-- the rank is the one in words
pub rank_law : RankLaw
rank_law graph good a h = let r = has_rank graph good a h in subst (λ (o : Option ℕ). MatchOption o ⊥ (HasRank graph a)) (sym r.1) r.2

-- before is so in words where it is by the test
pub before_law : BeforeLaw
before_law graph good a b ha hb = (
  λ e m n p q. (elim (lex_below (rank graph a) a (rank graph b) b e) [
    | lesser l ↦ inl (omega (arith, ranked graph good a m ha p, ranked graph good b n hb q))
    | tied i l ↦ inr (sym (ranked graph good a m ha p) ∙ i ∙ ranked graph good b n hb q, l)
  ]),
  λ f.
      let r = has_rank graph good a ha in
      let s = has_rank graph good b hb in
      let ra = ranked graph good a r.0 ha r.2 in
      let rb = ranked graph good b s.0 hb s.2 in
      (elim (f r.0 s.0 r.2 s.2) [
        | inl l ↦ below_lex (rank graph a) a (rank graph b) b (lesser (omega (arith, ra, rb)))
        | inr (i, l) ↦ below_lex (rank graph a) a (rank graph b) b (tied (ra ∙ i ∙ sym rb) l)
      ]),
)

-- up and down are so in words where they are by the test
pub slope_law : SlopeLaw
slope_law graph good a e ha =
    let to_switch : Contains (edges_at graph a) e → IsSwitch graph e.to = λ h. good.leads_to_switch a e.to (has_end (edges_at graph a) e h) in (
      (
        λ h. let u = ups_are graph graph a e h in (u.0, (before_law graph good e.to a (to_switch u.0) ha).0 u.1),
        λ u. ups_have graph graph a e u.0 ((before_law graph good e.to a (to_switch u.0) ha).1 u.1),
      ),
      (
        λ h. let u = downs_are graph graph a e h in (u.0, (before_law graph good a e.to ha (to_switch u.0)).0 u.1),
        λ u. downs_have graph graph a e u.0 ((before_law graph good a e.to ha (to_switch u.0)).1 u.1),
      ),
    )
