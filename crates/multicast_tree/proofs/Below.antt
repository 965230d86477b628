-- Which switches are below others in a forest.
use Rattle.std.proofs.Common.{◌≡◌, ◌≤◌, ◌+◌, ℕ, zero, suc, ◌⊎◌, inl, inr, sym, ap, ◌∙◌, subst, arith, Option}
use Rattle.std.proofs.lemmas.Option.{same_Some}
use Rattle.std.specs.Prelude.{Some}
use Rattle.multicast_tree.specs.Copies.{Copying}
use Rattle.multicast_tree.specs.Forest.{IsWithinForest}

module _ (by : Copying) (parent : ℕ → Option ℕ) (position : ℕ → ℕ) where
  -- the `n`-th parent of `x` is `v`
  abbrev pub Climbs : ℕ → ℕ → ℕ → Type 0
  Climbs zero x v = x ≡ v
  Climbs (suc n) x v = (p : ℕ) × (h : ℕ) × (q : ℕ) × (parent x ≡ Some p) × (by.across x p ≡ Some (h, q)) × Climbs n h v

  -- `v` is `x` or on its chain of parents
  abbrev pub Below : ℕ → ℕ → Type 0
  Below x v = (n : ℕ) × Climbs n x v

  pub joined : (n m x v w : ℕ) → Climbs n x v → Climbs m v w → Below x w
  joined zero m x v w e c = (m, subst (λ (y : ℕ). Climbs m y w) (sym e) c)
  joined (suc n) m x v w (p, h, q, ep, eq, c) d = let r = joined n m h v w c d in (suc r.0, (p, h, q, ep, eq, r.1))

  pub below_trans : (x v w : ℕ) → Below x v → Below v w → Below x w
  below_trans x v w (n, c) (m, d) = joined n m x v w c d

  module _ (t : IsWithinForest by parent position) where
    pub climbs_position : (n x v : ℕ) → Climbs n x v → position v + n ≤ position x
    climbs_position zero x v e = let k = ap position e in omega arith
    climbs_position (suc n) x v (p, h, q, ep, eq, c) = let i = climbs_position n h v c in let l = t.rises x p h q ep eq in omega arith

    pub below_position : (x v : ℕ) → Below x v → position v ≤ position x
    below_position x v (n, c) = let l = climbs_position n x v c in omega arith

  -- two steps up from one switch lead by one port to one port
  pub one_parent : (x p h q p' h' q' : ℕ) → parent x ≡ Some p → by.across x p ≡ Some (h, q) → parent x ≡ Some p' → by.across x p' ≡ Some (h', q')
      → h ≡ h'
  one_parent x p h q p' h' q' e w e' w' =
      let k : p ≡ p' = same_Some p p' (sym e ∙ e') in
      ap (λ (r : ℕ × ℕ). r.0) (same_Some (h, q) (h', q') (sym w ∙ ap (by.across x) k ∙ w'))

  -- of two switches on one chain of parents, one is below the other
  pub on_one_chain : (n m x v w : ℕ) → Climbs n x v → Climbs m x w → Below v w ⊎ Below w v
  on_one_chain zero m x v w e d = inl (m, subst (λ (y : ℕ). Climbs m y w) e d)
  on_one_chain (suc n) zero x v w c e = inr (suc n, subst (λ (y : ℕ). Climbs (suc n) y v) e c)
  on_one_chain (suc n) (suc m) x v w (p, h, q, ep, eq, c) (p', h', q', ep', eq', d) =
      let k = one_parent x p h q p' h' q' ep eq ep' eq' in
      on_one_chain n m h v w c (subst (λ (y : ℕ). Climbs m y w) (sym k) d)
