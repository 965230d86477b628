-- The edges to a cost one less are those that gave the mark.
use Rattle.std.proofs.Common.{◌≡◌, ◌<◌, ◌⊎◌, ◌==◌, ◌&&◌, ◌||◌, ℕ, zero, suc, List, [], ◌∷◌}
use Rattle.std.proofs.Common.{refl, sym, ap, ◌∙◌, subst, arith, true, false, Bool, cond, length}
use Rattle.std.proofs.lemmas.Bool.{eq-eqb, eqb-true, and_parts}
use Rattle.std.proofs.lemmas.Option.{same_Some}
use Rattle.std.specs.Prelude.{Option, None, Some, nat_lt, Contains, filter}
use Rattle.smp_bytes.proofs.Members.{contains_filter, contains-from_filter}
use Rattle.port_graph.specs.declared.edge.Edge.{Edge}
use Rattle.port_graph.specs.Heads.{edges_at, LeadToVertices}
use Rattle.spread_labels.specs.declared.label.Label.TheVariants.{Down}
use Rattle.spread_labels.specs.declared.label.Mark.{Mark}
use Rattle.spread_labels.specs.Labels.{candidates, candidates_by, gives, givers_before, is_down, marks, marks_after}
use Rattle.spread_labels.specs.LabelLaws.{Gives}
use Rattle.spread_labels.specs.RoundMarks.{AreMarksAfter}
use Rattle.spread_labels.specs.CandidatesByMarks.{CandidatesAreNearer, is_nearer, is_nearer_by}
use Rattle.spread_labels.proofs.Rounds.{gave, gave_all, given_known, known_gives}
use Rattle.spread_labels.proofs.Tests.{same_filter}

-- tests that pass alike are one
pub alike : (a b : Bool) → (a ≡ true → b ≡ true) → (b ≡ true → a ≡ true) → a ≡ b
alike true b to from = sym (to refl)
alike false true to from = from refl
alike false false to from = refl

pub none_pass : {X : Type 0} (p : X → Bool) (xs : List X) → ((x : X) → p x ≡ false) → filter p xs ≡ []
none_pass p [] fails = refl
none_pass p (x ∷ xs) fails = (λ i. cond (fails x i) (x ∷ filter p xs) (filter p xs)) ∙ none_pass p xs fails

-- what an edge to a cost one less leads to
pub nearer_known : (s : ℕ) (e : Edge) (m : Mark) (o : Option Mark) → is_nearer_by s e (Some m) o ≡ true
    → (to : Mark) × (o ≡ Some to) × (suc to.cost ≡ m.cost) × ((nat_lt e.to s || is_down to.label) ≡ true)
nearer_known s e m None h = absurd (cc)
nearer_known s e m (Some to) h =
    let both = and_parts (suc to.cost == m.cost) (nat_lt e.to s || is_down to.label) h in
    (to, refl, eqb-true (suc to.cost) m.cost both.0, both.1)

pub not_nearer : (s : ℕ) (e : Edge) (o : Option Mark) → is_nearer_by s e None o ≡ false
not_nearer s e None = refl
not_nearer s e (Some m) = refl

leads : (s : ℕ) (e : Edge) (m : Mark) → (nat_lt e.to s || is_down m.label) ≡ true → (e.to < s) ⊎ (m.label ≡ Down)
leads s e m h =
    let way = given_known s e (Some m) h in
    subst (λ (x : Mark). (e.to < s) ⊎ (x.label ≡ Down)) (sym (same_Some m way.0 way.1)) way.2

module _ (edges : List (List Edge)) (t : ℕ) (all : List (Option Mark)) (lead : LeadToVertices edges) (a : AreMarksAfter edges t (length edges) all) where
  nearer_gives : (s : ℕ) (m : Mark) (r : ℕ) → marks edges t s ≡ Some m → m.cost ≡ suc r → (e : Edge) → Contains (edges_at edges s) e
      → is_nearer_by s e (Some m) (marks edges t e.to) ≡ true → gives (marks_after edges t r) s e ≡ true
  nearer_gives s m r is c e h k =
      let w = nearer_known s e m (marks edges t e.to) k in
      let there : Gives edges (marks edges t) s e r = record {
        edge = h;
        label = w.0.label;
        labelled = w.1 ∙ ap (λ n. Some (record { cost = n; label = w.0.label })) (omega (arith, w.2, c));
        up_or_down = leads s e w.0 w.3;
      } in
      (contains-from_filter (gives (marks_after edges t r) s) (edges_at edges s) e (gave_all edges t (length edges) s r e there)).1

  gives_nearer : (s : ℕ) (m : Mark) (r : ℕ) → marks edges t s ≡ Some m → m.cost ≡ suc r → (e : Edge) → Contains (edges_at edges s) e
      → gives (marks_after edges t r) s e ≡ true → is_nearer_by s e (Some m) (marks edges t e.to) ≡ true
  gives_nearer s m r is c e h k =
      let g = gave edges t (length edges) s m r is c e (contains_filter (gives (marks_after edges t r) s) (edges_at edges s) e h k) in
      let to : Mark = record { cost = r; label = g.label } in
      let same : (suc r == m.cost) ≡ true = eq-eqb (suc r) m.cost (sym c) in
      ap (is_nearer_by s e (Some m)) g.labelled ∙ ap (λ b. b && (nat_lt e.to s || is_down g.label)) same ∙ known_gives s e to g.up_or_down

  nearer_at : (s : ℕ) (o : Option Mark) → marks edges t s ≡ o → filter (λ e. is_nearer_by s e o (marks edges t e.to)) (edges_at edges s)
      ≡ candidates_by edges t s o
  nearer_at s None is = none_pass (λ e. is_nearer_by s e None (marks edges t e.to)) (edges_at edges s) (λ e. not_nearer s e (marks edges t e.to))
  nearer_at s (Some m) is = by_cost m.cost refl
    where
      by_cost : (k : ℕ) → m.cost ≡ k → filter (λ e. is_nearer_by s e (Some m) (marks edges t e.to)) (edges_at edges s) ≡ givers_before edges t s k
      by_cost zero c = none_pass (λ e. is_nearer_by s e (Some m) (marks edges t e.to)) (edges_at edges s) (λ e. at_no_cost e (marks edges t e.to))
        where
          at_no_cost : (e : Edge) (o : Option Mark) → is_nearer_by s e (Some m) o ≡ false
          at_no_cost e o =
              elim (is_nearer_by s e (Some m) o) as (λ b. is_nearer_by s e (Some m) o ≡ b → b ≡ false) [
                | true ↦ λ h. let w = nearer_known s e m o h in absurd (omega (arith, w.2, c))
                | false ↦ λ h. refl
              ] refl
      by_cost (suc r) c =
          same_filter (λ e. is_nearer_by s e (Some m) (marks edges t e.to)) (gives (marks_after edges t r) s) (edges_at edges s)
          (λ e h. alike (is_nearer_by s e (Some m) (marks edges t e.to)) (gives (marks_after edges t r) s e) (nearer_gives s m r is c e h)
          (gives_nearer s m r is c e h))

  pub nearer_are_candidates : (s : ℕ) → s < length edges → filter (is_nearer s all) (edges_at edges s) ≡ candidates edges t s
  nearer_are_candidates s l =
      same_filter (is_nearer s all) (λ e. is_nearer_by s e (marks edges t s) (marks edges t e.to)) (edges_at edges s)
      (λ e h i. is_nearer_by s e (a.each s l i) (a.each e.to (lead s e h) i))
      ∙ nearer_at s (marks edges t s) refl

pub candidates_are_nearer : CandidatesAreNearer
candidates_are_nearer edges t all lead start a s l = nearer_are_candidates edges t all lead a s l
