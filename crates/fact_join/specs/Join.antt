-- Laws of the order of cells and of their join. If `same` answers true exactly for equal values, `joined_by` gives the
-- least cell above two cells.
use Rattle.std.proofs.Common.{◌≡◌, ◌<◌, ◌≤◌, Bool, true, false, inl, inr, refl, sym, ap, ◌∙◌, subst, arith, cond}
use Rattle.std.specs.Prelude.{nat_lt}
use Rattle.std.specs.Cmp.{IsEquivalence}
use Rattle.std.proofs.lemmas.Bool.{ltb-true, ltb-false}
use Rattle.fact_join.specs.declared.cell.Cell.{Cell}
use Rattle.fact_join.specs.declared.cell.Cell.TheVariants.{Known, Disputed}
use Rattle.fact_join.specs.Cell.{generation_of, IsDisputed, IsBelow, joined_alike, joined_by}

-- the order --------------------------------------------------------------------

-- each cell is below itself
pub below_itself : {V : Type 0} (a : Cell V) → IsBelow a a
below_itself a = inr (inl refl)

-- if `a` is below `b`, its generation is at most that of `b`
pub below-le : {V : Type 0} (a b : Cell V) → IsBelow a b → generation_of a ≤ generation_of b
below-le a b (inl h) = omega arith
below-le a b (inr (inl e)) = omega (arith, ap generation_of e)
below-le a b (inr (inr h)) = omega arith

-- a disputed cell is determined by its generation
disputed_is : {V : Type 0} (a : Cell V) → IsDisputed a → a ≡ Disputed (generation_of a)
disputed_is (Known g x) h = absurd h
disputed_is (Disputed g) h = refl

-- two disputed cells of the same generation are equal
both_disputed : {V : Type 0} (a b : Cell V) → generation_of a ≡ generation_of b → IsDisputed a → IsDisputed b → a ≡ b
both_disputed a b e p q = disputed_is a p ∙ ap Disputed e ∙ sym (disputed_is b q)

-- two cells, each below the other, are equal
pub below_antisymm : {V : Type 0} (a b : Cell V) → IsBelow a b → IsBelow b a → a ≡ b
below_antisymm a b (inl h) k = absurd (omega (arith, below-le b a k))
below_antisymm a b (inr (inl e)) k = e
below_antisymm a b (inr (inr h)) (inl k) = absurd (omega arith)
below_antisymm a b (inr (inr h)) (inr (inl e)) = sym e
below_antisymm a b (inr (inr h)) (inr (inr k)) = both_disputed a b h.0 k.1 h.1

-- if `a` is below `b`, and `b` below `c`, then `a` is below `c`
pub below_trans : {V : Type 0} (a b c : Cell V) → IsBelow a b → IsBelow b c → IsBelow a c
below_trans a b c (inl h) k = inl (omega (arith, below-le b c k))
below_trans a b c (inr (inl e)) k = let P : Cell _ → Type 0 = λ x. IsBelow x c in subst P (sym e) k
below_trans a b c (inr (inr h)) (inl k) = inl (omega arith)
below_trans a b c (inr (inr h)) (inr (inl e)) = let P : Cell _ → Type 0 = λ x. IsBelow a x in subst P e (inr (inr h))
below_trans a b c (inr (inr h)) (inr (inr k)) = inr (inr (h.0 ∙ k.0, k.1))

-- the join ---------------------------------------------------------------------

-- the three cases of a join: one of the two cells is newer, and the join is that cell; or both have the same
-- generation, and the join is `joined_alike`
pub data JoinCase {V : Type 0} (same : V → V → Bool) (a b : Cell V) : Type 0 where
  first_newer : generation_of b < generation_of a → joined_by same a b ≡ a → JoinCase same a b
  second_newer : generation_of a < generation_of b → joined_by same a b ≡ b → JoinCase same a b
  alike : generation_of a ≡ generation_of b → joined_by same a b ≡ joined_alike same a b → JoinCase same a b

-- any two cells are in one of the cases of `JoinCase`
pub join_case : {V : Type 0} (same : V → V → Bool) (a b : Cell V) → JoinCase same a b
join_case same a b =
    elim (nat_lt (generation_of b) (generation_of a)) as (λ t. nat_lt (generation_of b) (generation_of a) ≡ t
    → JoinCase same a b) [
      | true ↦ λ p. first_newer (ltb-true _ _ p)
          (ap (λ t. cond t a (cond (nat_lt (generation_of a) (generation_of b)) b (joined_alike same a b))) p)
      | false ↦ λ p. (elim (nat_lt (generation_of a) (generation_of b)) as
          (λ t. nat_lt (generation_of a) (generation_of b) ≡ t → JoinCase same a b) [
            | true ↦ λ q. second_newer (ltb-true _ _ q)
                (ap (λ t. cond t a (cond (nat_lt (generation_of a) (generation_of b)) b (joined_alike same a b))) p
                ∙ ap (λ t. cond t b (joined_alike same a b)) q)
            | false ↦ λ q. alike (omega (arith, ltb-false _ _ p, ltb-false _ _ q))
                (ap (λ t. cond t a (cond (nat_lt (generation_of a) (generation_of b)) b (joined_alike same a b))) p
                ∙ ap (λ t. cond t b (joined_alike same a b)) q)
          ] refl)
    ] refl

module _ {V : Type 0} (same : V → V → Bool) (exact : (x y : V) → same x y ≡ true → x ≡ y) (itself : (x : V) → same x x
    ≡ true) where
  -- `joined_alike` of two cells is above the first, whatever their generations
  alike_above_first : (a b : Cell V) → IsBelow a (joined_alike same a b)
  alike_above_first (Known g x) (Known h y) =
      elim (same x y) as (λ t. IsBelow (Known g x) (cond t (Known g x) (Disputed g)))
      [ true ↦ inr (inl refl) | false ↦ inr (inr (refl, tt)) ]
  alike_above_first (Known g x) (Disputed h) = inr (inr (refl, tt))
  alike_above_first (Disputed g) b = inr (inl refl)

  -- `joined_alike` of two cells of the same generation is above the second
  alike_above_second : (a b : Cell V) → generation_of a ≡ generation_of b → IsBelow b (joined_alike same a b)
  alike_above_second (Known g x) (Known h y) e =
      elim (same x y) as (λ t. same x y ≡ t → IsBelow (Known h y) (cond t (Known g x) (Disputed g))) [
        | true ↦ λ q. inr (inl (cc (exact x y q)))
        | false ↦ λ q. inr (inr (sym e, tt))
      ] refl
  alike_above_second (Known g x) (Disputed h) e = inr (inr (sym e, tt))
  alike_above_second (Disputed g) b e = inr (inr (sym e, tt))

  -- `joined_alike` of a cell and itself is the cell
  alike_itself : (a : Cell V) → joined_alike same a a ≡ a
  alike_itself (Known g x) = ap (λ t. cond t (Known g x) (Disputed g)) (itself x)
  alike_itself (Disputed g) = refl

  -- `joined_alike` of two cells has the generation of the first
  generation-alike : (a b : Cell V) → generation_of (joined_alike same a b) ≡ generation_of a
  generation-alike (Known g x) (Known h y) =
      elim (same x y) as (λ t. generation_of (cond t (Known g x) (Disputed g)) ≡ g) [ true ↦ refl | false ↦ refl ]
  generation-alike (Known g x) (Disputed h) = refl
  generation-alike (Disputed g) b = refl

  -- `joined_alike` of two cells of the same generation is below each cell `z` that is above both
  alike_least : (a b z : Cell V) → generation_of a ≡ generation_of b → IsBelow a z → IsBelow b z
      → IsBelow (joined_alike same a b) z
  alike_least a b z e (inl h) k = inl (omega (arith, generation-alike a b))
  alike_least a b z e (inr (inr h)) k = inr (inr (generation-alike a b ∙ h.0, h.1))
  alike_least a b z e (inr (inl p)) (inl k) = absurd (omega (arith, ap generation_of p))
  alike_least a b z e (inr (inl p)) (inr (inr k)) = inr (inr (generation-alike a b ∙ e ∙ k.0, k.1))
  alike_least a b z e (inr (inl p)) (inr (inl q)) =
      inr (inl (ap (λ x. joined_alike same x b) p ∙ ap (joined_alike same z) q ∙ alike_itself z))

  -- the join of two cells is above the first
  pub joined_above_first : (a b : Cell V) → IsBelow a (joined_by same a b)
  joined_above_first a b = let P : Cell V → Type 0 = λ x. IsBelow a x in
      elim (join_case same a b) [
        | first_newer h e ↦ subst P (sym e) (below_itself a)
        | second_newer h e ↦ subst P (sym e) (inl h)
        | alike h e ↦ subst P (sym e) (alike_above_first a b)
      ]

  -- the join of two cells is above the second
  pub joined_above_second : (a b : Cell V) → IsBelow b (joined_by same a b)
  joined_above_second a b = let P : Cell V → Type 0 = λ x. IsBelow b x in
      elim (join_case same a b) [
        | first_newer h e ↦ subst P (sym e) (inl h)
        | second_newer h e ↦ subst P (sym e) (below_itself b)
        | alike h e ↦ subst P (sym e) (alike_above_second a b h)
      ]

  -- the join of two cells is below each cell `z` that is above both
  pub joined_least : (a b z : Cell V) → IsBelow a z → IsBelow b z → IsBelow (joined_by same a b) z
  joined_least a b z p q = let P : Cell V → Type 0 = λ x. IsBelow x z in
      elim (join_case same a b) [
        | first_newer h e ↦ subst P (sym e) p
        | second_newer h e ↦ subst P (sym e) q
        | alike h e ↦ subst P (sym e) (alike_least a b z h p q)
      ]

-- an equivalence `same` answers true for each value and the value itself
pub equal_itself : {V : Type 0} {same : V → V → Bool} → IsEquivalence same → (x : V) → same x x ≡ true
equal_itself laws x = laws.refl x
