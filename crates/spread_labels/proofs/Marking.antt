-- What follows from the characterisation of labels: from each vertex that has one a walk leads to the target; where the graph
-- is grown each vertex of the target's component has one.
use Rattle.std.proofs.Common.{◌≡◌, ◌<◌, ◌≢◌, ◌+◌, ℕ, zero, suc, List, inl, inr, refl, sym, ap, ◌∙◌, subst, arith}
use Rattle.std.proofs.lemmas.Bool.{cases_eq, cases_order}
use Rattle.std.proofs.lemmas.Option.{same_Some}
use Rattle.std.specs.Prelude.{None, Some}
use Rattle.port_graph.specs.declared.edge.Edge.{Edge}
use Rattle.port_graph.specs.Walks.{Walk}
use Rattle.port_graph.specs.Heads.{edges_at, heads}
use Rattle.port_graph.proofs.Lists.{contains_map, contains_mapped}
use Rattle.port_graph.proofs.Paths.{walk_append, walk_reverse}
use Rattle.spread_labels.specs.declared.label.Label.TheVariants.{Up, Down}
use Rattle.spread_labels.specs.declared.label.Mark.{Mark}
use Rattle.spread_labels.specs.Labels.{Marks}
use Rattle.spread_labels.specs.LabelLaws.{Gives, IsGiven, AreMarks, IsSymmetric, IsGrown}

module _ (edges : List (List Edge)) (t : ℕ) (marks : Marks) (are : AreMarks edges t marks) where
  pub not_target : (s : ℕ) (m : Mark) (r : ℕ) → marks s ≡ Some m → m.cost ≡ suc r → s ≢ t
  not_target s m r e c same =
      let start : Mark = record { cost = 0; label = Down } in
      let q : m ≡ start = same_Some m start (sym e ∙ ap marks same ∙ are.target) in
      let z : m.cost ≡ 0 = ap (λ (x : Mark). x.cost) q in
      omega arith

  pub at_target : (s : ℕ) (m : Mark) → marks s ≡ Some m → m.cost ≡ 0 → s ≡ t
  at_target s m e c =
      elim (cases_eq s t) [
        | inl same ↦ same
        | inr other ↦ let o = are.other s m other e in absurd (omega (arith, o.1))
      ]

  pub given_by : (s : ℕ) (m : Mark) (r : ℕ) → marks s ≡ Some m → m.cost ≡ suc r → IsGiven edges marks s r m.label
  given_by s m r e c =
      let o = are.other s m (not_target s m r e c) e in
      let same : o.0 ≡ r = omega (arith, o.1) in
      subst (λ (k : ℕ). IsGiven edges marks s k m.label) same o.2

  -- a walk over as many edges as the cost
  pub walk_of : (k s : ℕ) (m : Mark) → marks s ≡ Some m → m.cost ≡ k → Walk (heads edges) s t k
  walk_of zero s m e c = at_target s m e c
  walk_of (suc k) s m e c =
      let g = given_by s m k e c in
      let there = contains_mapped (λ (x : Edge). x.to) (edges_at edges s) g.edge g.given.edge in
      (g.edge.to, there, walk_of k g.edge.to (record { cost = k; label = g.given.label }) g.given.labelled refl)

  -- labelled Down
  abbrev IsDown : ℕ → Type 0
  IsDown s = (k : ℕ) × (marks s ≡ Some (record { cost = k; label = Down }))

  abbrev pub Labelled : ℕ → Type 0
  Labelled s = (m : Mark) × (marks s ≡ Some m)

  -- before a vertex labelled Up stands one labelled Down
  down_before : (c p : ℕ) → marks p ≡ Some (record { cost = c; label = Up }) → (d : ℕ) × (d < p) × IsDown d
  down_before zero p e =
      let up : Mark = record { cost = 0; label = Up } in
      let start : Mark = record { cost = 0; label = Down } in
      let q : up ≡ start = same_Some up start (sym e ∙ ap marks (at_target p up e refl) ∙ are.target) in
      let l : Up ≡ Down = ap (λ (x : Mark). x.label) q in
      absurd (cc)
  down_before (suc c) p e =
      let g = given_by p (record { cost = suc c; label = Up }) c e refl in
      let less : g.edge.to < p = g.when_up refl in
      elim g.given.label as (λ l. marks g.edge.to ≡ Some (record { cost = c; label = l }) → (d : ℕ) × (d < p) × IsDown d) [
        | Up ↦ λ k. let i = down_before c g.edge.to k in (i.0, omega (arith, i.1), i.2)
        | Down ↦ λ k. (g.edge.to, less, (c, k))
      ] g.given.labelled

  -- where an edge gives there is a label
  pub gains : (s : ℕ) (e : Edge) (c : ℕ) → Gives edges marks s e c → Labelled s
  gains s e c g =
      elim (marks s) as (λ o. marks s ≡ o → (m : Mark) × (o ≡ Some m)) [
        | None ↦ λ k. absurd (are.without s k e c g)
        | Some m ↦ λ k. (m, refl)
      ] refl

  module _ (symmetric : IsSymmetric edges) (grown : IsGrown edges) where
    -- by a vertex labelled Down, where all lesser ones of the component are labelled
    by_down : (bound s k d : ℕ) → d < bound → IsDown d → Walk (heads edges) s t k
        → ((p j : ℕ) → p < s → Walk (heads edges) p t j → Labelled p)
        → Labelled s
    by_down zero s k d h down w lesser = absurd (omega arith)
    by_down (suc bound) s k d h down w lesser =
        let back = walk_reverse (heads edges) symmetric down.0 d t (walk_of down.0 d (record { cost = down.0; label = Down }) down.1 refl) in
        let over = walk_append (heads edges) k down.0 s t d w back in
        elim (cases_order s d) [
          | inl same ↦ (record { cost = down.0; label = Down }, ap marks same ∙ down.1)
          | inr (inl less) ↦
              let g = grown d s (k + down.0) (walk_reverse (heads edges) symmetric (k + down.0) s d over) less in
              let x = contains_map (λ (y : Edge). y.to) (edges_at edges g.0.to) d
              (symmetric d g.0.to (contains_mapped (λ (y : Edge). y.to) (edges_at edges d) g.0 g.1)) in
              let p = gains g.0.to x.0 down.0 (record { edge = x.1; label = Down; labelled = ap marks x.2 ∙ down.1; up_or_down = inr refl }) in
              let nearer : g.0.to < d = g.2 in
              elim p.0.label as (λ l. marks g.0.to ≡ Some (record { cost = p.0.cost; label = l }) → Labelled s) [
                | Up ↦ λ q. let b = down_before p.0.cost g.0.to q in by_down bound s k b.0 (omega (arith, b.1)) b.2 w lesser
                | Down ↦ λ q. by_down bound s k g.0.to (omega arith) (p.0.cost, q) w lesser
              ] p.1
          | inr (inr more) ↦
              let g = grown s d (k + down.0) over more in
              let there = contains_mapped (λ (y : Edge). y.to) (edges_at edges s) g.0 g.1 in
              let p = lesser g.0.to (suc k) g.2 (s, symmetric s g.0.to there, w) in
              gains s g.0 p.0.cost (record { edge = g.1; label = p.0.label; labelled = p.1; up_or_down = inl g.2 })
        ]

    all_below : (bound s k : ℕ) → s < bound → Walk (heads edges) s t k → Labelled s
    all_below zero s k h w = absurd (omega arith)
    all_below (suc bound) s k h w = by_down (suc t) s k t (omega arith) (0, are.target) w (λ p j l v. all_below bound p j (omega arith) v)

    -- each vertex of the component is labelled
    pub reaches : (s k : ℕ) → Walk (heads edges) s t k → Labelled s
    reaches s k w = all_below (suc s) s k (omega arith) w
