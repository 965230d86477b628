-- Costs are less than the number of vertices: below each cost stand all lesser ones, each at a vertex of its own.
use Rattle.std.proofs.Common.{◌≡◌, ◌<◌, ℕ, zero, suc, refl, ap, ◌∙◌, arith, Bool, true, false, length}
use Rattle.std.proofs.lemmas.Bool.{ltb-true, lt-ltb, le-ltb}
use Rattle.std.specs.Prelude.{Option, None, Some, filter, nat_lt}
use Rattle.port_graph.proofs.Counts.{filtered_less, filtered_all}
use Rattle.port_graph.proofs.DistanceLaws.{all_numbers, among_numbers, numbers}
use Rattle.spread_labels.specs.declared.label.Mark.{Mark}
use Rattle.spread_labels.specs.Labels.{Marks}

abbrev is_below : ℕ → Option Mark → Bool
is_below k None = false
is_below k (Some m) = nat_lt m.cost k

below_more : (k : ℕ) (o : Option Mark) → is_below k o ≡ true → is_below (suc k) o ≡ true
below_more k None e = absurd (cc)
below_more k (Some m) e = lt-ltb m.cost (suc k) (omega (arith, ltb-true m.cost k e))

-- a vertex of cost one less
abbrev pub Before : Marks → ℕ → ℕ → Type 0
Before marks n cost = (x : ℕ) × (m : Mark) × (marks x ≡ Some m) × (m.cost ≡ cost) × (x < n)

module _ (marks : Marks) (n : ℕ) (before : (s : ℕ) (m : Mark) (r : ℕ) → marks s ≡ Some m → m.cost ≡ suc r → Before marks n r) where
  abbrev below : ℕ → ℕ
  below k = length (filter (λ s. is_below k (marks s)) (numbers n))

  one_more : (k s : ℕ) (m : Mark) → marks s ≡ Some m → m.cost ≡ k → s < n → below k < below (suc k)
  one_more k s m e c h =
      filtered_less (λ x. is_below k (marks x)) (λ x. is_below (suc k) (marks x)) (λ x. below_more k (marks x)) (numbers n) s (among_numbers n s h)
      (ap (is_below k) e ∙ le-ltb m.cost k (omega arith)) (ap (is_below (suc k)) e ∙ lt-ltb m.cost (suc k) (omega arith))

  as_many : (k s : ℕ) (m : Mark) → marks s ≡ Some m → m.cost ≡ k → s < n → k < below (suc k)
  as_many zero s m e c h = omega (arith, one_more zero s m e c h)
  as_many (suc k) s m e c h =
      let b = before s m k e c in
      omega (arith, as_many k b.0 b.1 b.2 b.3 b.4, one_more (suc k) s m e c h)

  pub cost_below : (s : ℕ) (m : Mark) → marks s ≡ Some m → s < n → m.cost < n
  cost_below s m e h =
      omega (arith, as_many m.cost s m e refl h, filtered_all (λ x. is_below (suc m.cost) (marks x)) (numbers n), all_numbers n)
