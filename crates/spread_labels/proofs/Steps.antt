-- The candidates of a vertex are the edges that give from a cost one less.
use Rattle.std.proofs.Common.{◌≡◌, ◌≤◌, ◌<◌, ◌≢◌, ◌⊎◌, ℕ, zero, suc, List, inl, inr, refl, sym, ap, ◌∙◌, subst, arith, length}
use Rattle.std.proofs.lemmas.Bool.{cases_order}
use Rattle.std.proofs.lemmas.Option.{same_Some}
use Rattle.std.specs.Prelude.{Some, Contains}
use Rattle.smp_bytes.proofs.Members.{contains_none}
use Rattle.port_graph.specs.declared.edge.Edge.{Edge}
use Rattle.spread_labels.specs.declared.label.Label.TheVariants.{Down}
use Rattle.spread_labels.specs.declared.label.Mark.{Mark}
use Rattle.spread_labels.specs.Labels.{marks, givers_before, candidates_by, candidates}
use Rattle.spread_labels.specs.LabelLaws.{Gives, IsGiven, IsStep, CandidatesLaw}
use Rattle.spread_labels.proofs.Rounds.{gave, gave_all, given, no_cost_at}

module _ (edges : List (List Edge)) (t s : ℕ) (m : Mark) (e : marks edges t s ≡ Some m) where
  are_before : (r : ℕ) → m.cost ≡ r → candidates edges t s ≡ givers_before edges t s r
  are_before r c = ap (candidates_by edges t s) e ∙ ap (givers_before edges t s) c

  step_of : (x : Edge) (r : ℕ) → m.cost ≡ suc r → Gives edges (marks edges t) s x r → IsStep edges t s m x
  step_of x r c g = record {
    edge = g.edge;
    to = record { cost = r; label = g.label };
    labelled = g.labelled;
    nearer = c;
    up_or_down = which g.up_or_down;
    from_down = λ l. let d = i.when_down l x g in below d g.up_or_down;
  }
    where
      i : IsGiven edges (marks edges t) s r m.label
      i = given edges t (length edges) s m r e c

      apart : s ≡ x.to → ⊥
      apart same =
          let n : Mark = record { cost = r; label = g.label } in
          let k : m ≡ n = same_Some m n (sym e ∙ ap (marks edges t) same ∙ g.labelled) in
          let z : m.cost ≡ r = ap (λ (y : Mark). y.cost) k in
          omega arith

      which : (x.to < s) ⊎ (g.label ≡ Down) → (x.to < s) ⊎ ((s < x.to) × (g.label ≡ Down))
      which (inl up) = inl up
      which (inr down) =
          elim (cases_order s x.to) [
            | inl same ↦ absurd (apart same)
            | inr (inl less) ↦ inr (less, down)
            | inr (inr more) ↦ inl more
          ]

      below : s ≤ x.to → (x.to < s) ⊎ (g.label ≡ Down) → (s < x.to) × (g.label ≡ Down)
      below h (inl up) = absurd (omega arith)
      below h (inr down) =
          elim (cases_order s x.to) [
            | inl same ↦ absurd (apart same)
            | inr (inl less) ↦ (less, down)
            | inr (inr more) ↦ absurd (omega arith)
          ]

  some : (r : ℕ) → m.cost ≡ r → s ≢ t → (x : Edge) × Contains (candidates edges t s) x
  some zero c apart = absurd (apart (no_cost_at edges t (length edges) s m e c))
  some (suc r) c apart =
      let i = given edges t (length edges) s m r e c in
      (i.edge, subst (λ (xs : List Edge). Contains xs i.edge) (sym (are_before (suc r) c)) (gave_all edges t (length edges) s r i.edge i.given))

  steps : (r : ℕ) → m.cost ≡ r → (x : Edge) → Contains (candidates edges t s) x → IsStep edges t s m x
  steps zero c x h = absurd (contains_none x (subst (λ (xs : List Edge). Contains xs x) (are_before zero c) h))
  steps (suc r) c x h = step_of x r c (gave edges t (length edges) s m r e c x (subst (λ (xs : List Edge). Contains xs x) (are_before (suc r) c) h))

  pub step_at : (x : Edge) → Contains (candidates edges t s) x → IsStep edges t s m x
  step_at x h = steps m.cost refl x h

pub candidates_in_words : CandidatesLaw
candidates_in_words edges t s m e = record {
  some = some edges t s m e m.cost refl;
  steps = step_at edges t s m e;
  all = λ x r c g. subst (λ (xs : List Edge). Contains xs x) (sym (are_before edges t s m e (suc r) c)) (gave_all edges t (length edges) s r x g);
}
