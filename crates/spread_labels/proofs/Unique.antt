-- Two labellings towards one target are the same, by the costs in turn.
use Rattle.std.proofs.Common.{◌≡◌, ◌≤◌, ℕ, zero, suc, List, refl, sym, ap, ◌∙◌, subst, arith}
use Rattle.std.proofs.lemmas.Option.{none-some}
use Rattle.std.specs.Prelude.{None, Some}
use Rattle.port_graph.specs.declared.edge.Edge.{Edge}
use Rattle.spread_labels.specs.declared.label.Label.{Label}
use Rattle.spread_labels.specs.declared.label.Label.TheVariants.{Up, Down}
use Rattle.spread_labels.specs.declared.label.Mark.{Mark}
use Rattle.spread_labels.specs.Labels.{Marks}
use Rattle.spread_labels.specs.LabelLaws.{Gives, IsGiven, AreMarks, UniqueLaw}
use Rattle.spread_labels.proofs.Marking.{not_target, at_target, given_by, gains}

-- what one says up to a cost the other says
abbrev Within : ℕ → Marks → Marks → Type 0
Within k one other = (s : ℕ) (m : Mark) → one s ≡ Some m → m.cost ≤ k → other s ≡ Some m

module _ (edges : List (List Edge)) (t : ℕ) where
  moved : (k : ℕ) (one other : Marks) → Within k one other → (s : ℕ) (e : Edge) (c : ℕ) → c ≤ k → Gives edges one s e c → Gives edges other s e c
  moved k one other within s e c h g = record {
    edge = g.edge;
    label = g.label;
    labelled = within e.to (record { cost = c; label = g.label }) g.labelled h;
    up_or_down = g.up_or_down;
  }

  start_same : (one other : Marks) → AreMarks edges t one → AreMarks edges t other → (s : ℕ) (m : Mark) → one s ≡ Some m → m.cost ≡ 0 → other s ≡ Some m
  start_same one other a b s m e c =
      let same : s ≡ t = at_target edges t one a s m e c in
      ap other same ∙ b.target ∙ sym a.target ∙ sym (ap one same) ∙ e

  same_label : (one other : Marks) (s r : ℕ) (l k : Label) → IsGiven edges one s r l → IsGiven edges other s r k
      → ((e : Edge) → Gives edges one s e r → Gives edges other s e r)
      → ((e : Edge) → Gives edges other s e r → Gives edges one s e r)
      → k ≡ l
  same_label one other s r Up Up g h there back = refl
  same_label one other s r Down Down g h there back = refl
  same_label one other s r Up Down g h there back = absurd (omega (arith, g.when_up refl, h.when_down refl g.edge (there g.edge g.given)))
  same_label one other s r Down Up g h there back = absurd (omega (arith, h.when_up refl, g.when_down refl h.edge (back h.edge h.given)))

  step : (k : ℕ) (one other : Marks) → AreMarks edges t one → AreMarks edges t other → Within k one other → Within k other one
      → (s : ℕ) (m : Mark) (r : ℕ) → one s ≡ Some m → m.cost ≡ suc r → r ≤ k → other s ≡ Some m
  step k one other a b there back s m r e c h =
      let g = given_by edges t one a s m r e c in
      let p = gains edges t other b s g.edge r (moved k one other there s g.edge r h g.given) in
      let o = b.other s p.0 (not_target edges t one a s m r e c) p.1 in
      let le : o.0 ≤ r = o.2.least g.edge r (moved k one other there s g.edge r h g.given) in
      let ge : r ≤ o.0 = g.least o.2.edge o.0 (moved k other one back s o.2.edge o.0 (omega arith) o.2.given) in
      let same : o.0 ≡ r = omega arith in
      let i : IsGiven edges other s r p.0.label = subst (λ (x : ℕ). IsGiven edges other s x p.0.label) same o.2 in
      let label : p.0.label ≡ m.label =
      same_label one other s r m.label p.0.label g i (λ x y. moved k one other there s x r h y) (λ x y. moved k other one back s x r h y) in
      let cost : p.0.cost ≡ m.cost = omega (arith, o.1) in
      p.1
      ∙ ap (λ (x : ℕ). let n : Mark = record { cost = x; label = p.0.label } in Some n) cost
      ∙ ap (λ (x : Label). let n : Mark = record { cost = m.cost; label = x } in Some n) label

  next : (k : ℕ) (one other : Marks) → AreMarks edges t one → AreMarks edges t other → Within k one other → Within k other one → Within (suc k) one other
  next k one other a b there back s m e h = by m.cost refl
    where
      by : (c : ℕ) → m.cost ≡ c → other s ≡ Some m
      by zero c = start_same one other a b s m e c
      by (suc r) c = step k one other a b there back s m r e c (omega arith)

  both : (k : ℕ) (one other : Marks) → AreMarks edges t one → AreMarks edges t other → Within k one other × Within k other one
  both zero one other a b = (
    λ s m e h. start_same one other a b s m e (omega arith),
    λ s m e h. start_same other one b a s m e (omega arith),
  )
  both (suc k) one other a b =
      let i = both k one other a b in
      (next k one other a b i.0 i.1, next k other one b a i.1 i.0)

pub unique_in_words : UniqueLaw
unique_in_words edges t one other a b s =
    elim (one s) as (λ o. one s ≡ o → o ≡ other s) [
      | Some m ↦ λ e. sym ((both edges t m.cost one other a b).0 s m e (omega arith))
      | None ↦ λ e. (elim (other s) as (λ o. other s ≡ o → None ≡ o) [
        | None ↦ λ k. refl
        | Some m ↦ λ k. absurd (none-some m (sym e ∙ (both edges t m.cost one other a b).1 s m k (omega arith)))
      ] refl)
    ] refl
