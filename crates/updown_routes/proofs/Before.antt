-- The order of switches, and the position of a switch in it, which falls along the wires that lead up.
use Rattle.std.proofs.Common.{◌≡◌, ◌≤◌, ◌<◌, ℕ, List, [], ◌∷◌, refl, sym, ap, ◌∙◌, subst, arith, Bool, true, false, cond, ◌==◌, ◌||◌, ◌&&◌, map, length}
use Rattle.std.proofs.lemmas.Bool.{ltb-true, lt-ltb, eqb-true, eq-eqb}
use Rattle.std.specs.Prelude.{nat_lt, filter, Contains, unwrap_or}
use Rattle.smp_bytes.proofs.Members.{contains_filter, contains-from_filter}
use Rattle.port_graph.specs.declared.edge.Edge.{Edge}
use Rattle.port_graph.proofs.Counts.{filtered_less, filtered_all, length_map}
use Rattle.port_graph.specs.Slopes.{ups_at, downs_at}
use Rattle.subnet_view.specs.SwitchEdges.{SwitchEdges}
use Rattle.subnet_view.specs.Graph.{edges_at}
use Rattle.subnet_view.specs.GraphLaws.{IsGraph}
use Rattle.subnet_view.proofs.EdgeLists.{has_end}
use Rattle.updown_routes.specs.Ranks.{is_before, rank_of, slope_of, slopes_of}

-- the order ------------------------------------------------------------------------

-- by the first number, and then by the second
abbrev pub lex : ℕ → ℕ → ℕ → ℕ → Bool
lex r a s b = nat_lt r s || (r == s && nat_lt a b)

-- lesser in the first number, or equal there and lesser in the second
pub data LexBelow (r a s b : ℕ) : Type 0 where
  lesser : r < s → LexBelow r a s b
  tied : r ≡ s → a < b → LexBelow r a s b

-- what the test says is so
pub lex_below : (r a s b : ℕ) → lex r a s b ≡ true → LexBelow r a s b
lex_below r a s b e =
    elim (nat_lt r s) as (λ t. nat_lt r s ≡ t → (t || (r == s && nat_lt a b)) ≡ true → LexBelow r a s b) [
      | true ↦ λ p k. lesser (ltb-true r s p)
      | false ↦ λ p k. (elim (r == s) as (λ t. (r == s) ≡ t → (t && nat_lt a b) ≡ true → LexBelow r a s b) [
        | true ↦ λ q l. tied (eqb-true r s q) (ltb-true a b l)
        | false ↦ λ q l. absurd (cc)
      ] refl k)
    ] refl e

or_second : (a : Bool) → (a || true) ≡ true
or_second true = refl
or_second false = refl

-- what is so the test says
pub below_lex : (r a s b : ℕ) → LexBelow r a s b → lex r a s b ≡ true
below_lex r a s b (lesser h) = ap (λ t. t || (r == s && nat_lt a b)) (lt-ltb r s h)
below_lex r a s b (tied e h) =
    ap (λ t. nat_lt r s || (t && nat_lt a b)) (eq-eqb r s e) ∙ ap (λ t. nat_lt r s || t) (lt-ltb a b h) ∙ or_second (nat_lt r s)

-- what is below what is below is below
pub lex_below_trans : (r a s b t c : ℕ) → LexBelow r a s b → LexBelow s b t c → LexBelow r a t c
lex_below_trans r a s b t c (lesser h) (lesser k) = lesser (omega arith)
lex_below_trans r a s b t c (lesser h) (tied e k) = lesser (omega arith)
lex_below_trans r a s b t c (tied e h) (lesser k) = lesser (omega arith)
lex_below_trans r a s b t c (tied e h) (tied f k) = tied (e ∙ f) (omega arith)

-- nothing is below itself
pub never_below : (r a : ℕ) → LexBelow r a r a → ⊥
never_below r a (lesser h) = omega arith
never_below r a (tied e h) = omega arith

module _ (graph : List SwitchEdges) where
  -- a switch's rank, and 0 of what has none
  abbrev pub rank : ℕ → ℕ
  rank a = unwrap_or (rank_of graph a) 0

  -- a switch before one that is before another is before it
  pub before_trans : (a b c : ℕ) → is_before graph a b ≡ true → is_before graph b c ≡ true → is_before graph a c ≡ true
  before_trans a b c h k = below_lex (rank a) a (rank c) c
      (lex_below_trans (rank a) a (rank b) b (rank c) c (lex_below (rank a) a (rank b) b h) (lex_below (rank b) b (rank c) c k))

  -- no switch is before itself
  pub not_before_itself : (a : ℕ) → is_before graph a a ≡ false
  not_before_itself a =
      elim (is_before graph a a) as (λ t. is_before graph a a ≡ t → t ≡ false) [
        | true ↦ λ p. absurd (never_below (rank a) a (lex_below (rank a) a (rank a) a p))
        | false ↦ λ p. refl
      ] refl

  -- how many switches come before
  abbrev pub height : ℕ → ℕ
  height s = length (filter (λ a. is_before graph a s) (map (λ c. c.guid) graph))

  -- the wires up are those to switches before it
  pub ups_filter : (cs : List SwitchEdges) (s : ℕ) → ups_at (map (slope_of graph) cs) s ≡ filter (λ e. is_before graph e.to s) (edges_at cs s)
  ups_filter [] s = refl
  ups_filter (c ∷ cs) s =
      elim (c.guid == s) as
      (λ t. (c.guid == s) ≡ t → cond t (filter (λ e. is_before graph e.to c.guid) c.edges) (ups_at (map (slope_of graph) cs) s)
      ≡ filter (λ e. is_before graph e.to s) (cond t c.edges (edges_at cs s))) [
        | true ↦ λ p. ap (λ g. filter (λ e. is_before graph e.to g) c.edges) (eqb-true c.guid s p)
        | false ↦ λ p. ups_filter cs s
      ] refl

  -- the wires down are those to switches after it
  pub downs_filter : (cs : List SwitchEdges) (s : ℕ) → downs_at (map (slope_of graph) cs) s ≡ filter (λ e. is_before graph s e.to) (edges_at cs s)
  downs_filter [] s = refl
  downs_filter (c ∷ cs) s =
      elim (c.guid == s) as
      (λ t. (c.guid == s) ≡ t → cond t (filter (λ e. is_before graph c.guid e.to) c.edges) (downs_at (map (slope_of graph) cs) s)
      ≡ filter (λ e. is_before graph s e.to) (cond t c.edges (edges_at cs s))) [
        | true ↦ λ p. ap (λ g. filter (λ e. is_before graph g e.to) c.edges) (eqb-true c.guid s p)
        | false ↦ λ p. downs_filter cs s
      ] refl

  -- a wire up is one of its wires, to a switch before it
  pub ups_are : (cs : List SwitchEdges) (s : ℕ) (e : Edge) → Contains (ups_at (map (slope_of graph) cs) s) e
      → Contains (edges_at cs s) e × (is_before graph e.to s ≡ true)
  ups_are cs s e h =
      contains-from_filter (λ (x : Edge). is_before graph x.to s) (edges_at cs s) e (subst (λ (es : List Edge). Contains es e) (ups_filter cs s) h)

  -- a wire down is one of its wires, to a switch after it
  pub downs_are : (cs : List SwitchEdges) (s : ℕ) (e : Edge) → Contains (downs_at (map (slope_of graph) cs) s) e
      → Contains (edges_at cs s) e × (is_before graph s e.to ≡ true)
  downs_are cs s e h =
      contains-from_filter (λ (x : Edge). is_before graph s x.to) (edges_at cs s) e (subst (λ (es : List Edge). Contains es e) (downs_filter cs s) h)

  -- a wire to a switch before it is a wire up
  pub ups_have : (cs : List SwitchEdges) (s : ℕ) (e : Edge) → Contains (edges_at cs s) e → is_before graph e.to s ≡ true
      → Contains (ups_at (map (slope_of graph) cs) s) e
  ups_have cs s e h b =
      subst (λ (es : List Edge). Contains es e) (sym (ups_filter cs s)) (contains_filter (λ (x : Edge). is_before graph x.to s) (edges_at cs s) e h b)

  -- a wire to a switch after it is a wire down
  pub downs_have : (cs : List SwitchEdges) (s : ℕ) (e : Edge) → Contains (edges_at cs s) e → is_before graph s e.to ≡ true
      → Contains (downs_at (map (slope_of graph) cs) s) e
  downs_have cs s e h b =
      subst (λ (es : List Edge). Contains es e) (sym (downs_filter cs s)) (contains_filter (λ (x : Edge). is_before graph s x.to) (edges_at cs s) e h b)

  -- a wire up leads to a switch that fewer come before
  pub height_falls : IsGraph graph → (s : ℕ) (e : Edge) → Contains (ups_at (slopes_of graph) s) e → height e.to < height s
  height_falls good s e h =
      let u = ups_are graph s e h in
      filtered_less (λ a. is_before graph a e.to) (λ a. is_before graph a s) (λ a k. before_trans a e.to s k u.1)
      (map (λ c. c.guid) graph) e.to (good.leads_to_switch s e.to (has_end (edges_at graph s) e u.0)) (not_before_itself e.to) u.1

  -- no more come before than there are
  pub height_bounded : (s : ℕ) → height s ≤ length (slopes_of graph)
  height_bounded s =
      let all = filtered_all (λ a. is_before graph a s) (map (λ c. c.guid) graph) in
      omega (arith, all, length_map (λ (c : SwitchEdges). c.guid) graph, length_map (slope_of graph) graph)
