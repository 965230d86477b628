-- Where candidates lead: up to vertices that go up, and otherwise down.
use Rattle.std.proofs.Common.{◌≡◌, ◌<◌, ℕ, List, Bool, refl, sym, ap, ◌∙◌, subst, arith, true, false, inl, inr}
use Rattle.std.proofs.lemmas.Bool.{lt-ltb, ltb-true}
use Rattle.std.specs.Prelude.{Contains, Option, None, Some, nat_lt}
use Rattle.smp_bytes.proofs.Members.{contains_none}
use Rattle.port_graph.specs.declared.edge.Edge.{Edge}
use Rattle.port_graph.proofs.WalkLemmas.{list_any_at, list_any_found}
use Rattle.spread_labels.specs.declared.label.Label.TheVariants.{Down}
use Rattle.spread_labels.specs.declared.label.Mark.{Mark}
use Rattle.spread_labels.specs.Labels.{candidates, candidates_by, leads_up, marks}
use Rattle.spread_labels.specs.LabelLaws.{IsStep}
use Rattle.spread_labels.proofs.Steps.{candidates_in_words}

module _ (graph : List (List Edge)) (t : ℕ) where
  -- whether a candidate of the vertex leads up
  abbrev goes_up : ℕ → Bool
  goes_up s = leads_up s (candidates graph t s)

  marked_by : (s : ℕ) (e : Edge) (o : Option Mark) → Contains (candidates_by graph t s o) e → (m : Mark) × (o ≡ Some m)
  marked_by s e None h = absurd (contains_none e h)
  marked_by s e (Some m) h = (m, refl)

  step : (s : ℕ) (e : Edge) → Contains (candidates graph t s) e → (m : Mark) × IsStep graph t s m e
  step s e h =
      let m = marked_by s e (marks graph t s) h in
      (m.0, (candidates_in_words graph t s m.0 m.1).steps e h)

  not_down : (s : ℕ) (m : Mark) → goes_up s ≡ true → marks graph t s ≡ Some m → m.label ≡ Down → ⊥
  not_down s m up is down =
      let e = list_any_found (λ (x : Edge). nat_lt x.to s) (candidates graph t s) up in
      let leads = ((candidates_in_words graph t s m is).steps e.0 e.1).from_down down in
      omega (arith, leads.0, ltb-true e.0.to s e.2)

  -- what leads to a vertex that goes up leads up
  pub comes_up : (r s : ℕ) (e : Edge) → Contains (candidates graph t r) e → e.to ≡ s → goes_up s ≡ true → s < r
  comes_up r s e h is up =
      let x = (step r e h).1 in
      elim x.up_or_down [
        | inl less ↦ subst (λ (k : ℕ). k < r) is less
        | inr down ↦ absurd (not_down s x.to up (ap (marks graph t) (sym is) ∙ x.labelled) down.1)
      ]

  goes : (r : ℕ) (e : Edge) → Contains (candidates graph t r) e → e.to < r → goes_up r ≡ true
  goes r e h less = list_any_at (λ (x : Edge). nat_lt x.to r) (candidates graph t r) e h (lt-ltb e.to r less)

  -- what leads from a vertex that does not go up leads down
  pub leads_down : (r : ℕ) (e : Edge) → Contains (candidates graph t r) e → goes_up r ≡ false → r < e.to
  leads_down r e h other =
      elim (step r e h).1.up_or_down [
        | inl less ↦ absurd (cc (goes r e h less, other))
        | inr down ↦ down.0
      ]
