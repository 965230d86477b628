-- The tests of values and of cells are exact: they answer true exactly when the two are equal.
use Rattle.std.proofs.Common.{◌≡◌, ℕ, refl, sym, ap, ◌∙◌, Bool, true, false, ◌==◌}
use Rattle.std.proofs.lemmas.Bool.{and_parts, eqb-true, eq-eqb}
use Rattle.std.specs.Cmp.{IsEquivalence, both_ways}
use Rattle.smp_bytes.specs.declared.node_type.NodeType.{NodeType}
use Rattle.smp_bytes.specs.declared.node_type.NodeType.TheVariants.{ChannelAdapter, Switch, Router}
use Rattle.fact_join.specs.declared.cell.Cell.{Cell}
use Rattle.fact_join.specs.declared.cell.Cell.TheVariants.{Known, Disputed}
use Rattle.reply_facts.specs.declared.value.Value.{Value}
use Rattle.reply_facts.specs.declared.value.Value.TheVariants.{Kind, Guid, Peer, Up, Lid, Count}
use Rattle.reply_facts.specs.Value.{is_same_type, is_same_flag, is_same_value, is_same_cell}

-- if `is_same_type` calls two types equal, they are equal
same_type_exact : (a b : NodeType) → is_same_type a b ≡ true → a ≡ b
same_type_exact ChannelAdapter ChannelAdapter e = refl
same_type_exact Switch Switch e = refl
same_type_exact Router Router e = refl
same_type_exact _ _ e = absurd (cc)

-- if `is_same_flag` calls two flags equal, they are equal
same_flag_exact : (a b : Bool) → is_same_flag a b ≡ true → a ≡ b
same_flag_exact true true e = refl
same_flag_exact false false e = refl
same_flag_exact _ _ e = absurd (cc)

-- if `is_same_value` calls two values equal, they are equal
pub same_value_exact : (a b : Value) → is_same_value a b ≡ true → a ≡ b
same_value_exact (Kind a m) (Kind b n) e = let p =
    and_parts (is_same_type a b) (m == n) e in cc (same_type_exact a b p.0, eqb-true m n p.1)
same_value_exact (Guid a) (Guid b) e = ap Guid (eqb-true a b e)
same_value_exact (Peer a m) (Peer b n) e = let p =
    and_parts (a == b) (m == n) e in cc (eqb-true a b p.0, eqb-true m n p.1)
same_value_exact (Up a) (Up b) e = ap Up (same_flag_exact a b e)
same_value_exact (Lid a) (Lid b) e = ap Lid (eqb-true a b e)
same_value_exact (Count a) (Count b) e = ap Count (eqb-true a b e)
same_value_exact _ _ e = absurd (cc)

-- `==` calls a number equal to itself
same_number : (g : ℕ) → (g == g) ≡ true
same_number g = eq-eqb g g refl

-- `is_same_type` calls a type equal to itself
same_type_itself : (a : NodeType) → is_same_type a a ≡ true
same_type_itself ChannelAdapter = refl
same_type_itself Switch = refl
same_type_itself Router = refl

-- `is_same_value` calls a value equal to itself
pub same_value_itself : (a : Value) → is_same_value a a ≡ true
same_value_itself (Kind a m) = cc (same_type_itself a, same_number m)
same_value_itself (Guid a) = same_number a
same_value_itself (Peer a m) = cc (same_number a, same_number m)
same_value_itself (Up true) = refl
same_value_itself (Up false) = refl
same_value_itself (Lid a) = same_number a
same_value_itself (Count a) = same_number a

-- a test `same` that answers true exactly when two values are equal is an equivalence
exact_equiv : {V : Type 0} (same : V → V → Bool) → ((x y : V) → same x y ≡ true → x ≡ y) → ((x : V) → same x x ≡ true)
    → IsEquivalence same
exact_equiv same exact itself =
    record {
      refl = itself;
      symm = λ x y. both_ways (same x y) (same y x) (λ e. ap (λ z. same z x) (sym (exact x y e))
          ∙ itself x) (λ e. ap (λ z. same z y) (sym (exact y x e))
          ∙ itself y);
      congr = λ x y z e. ap (λ w. same w z) (exact x y e);
    }

-- `is_same_value` is an equivalence
pub same_value_equiv : IsEquivalence is_same_value
same_value_equiv = exact_equiv is_same_value same_value_exact same_value_itself

-- if `is_same_cell` calls two cells equal, they are equal
pub same_cell_exact : (a b : Cell Value) → is_same_cell a b ≡ true → a ≡ b
same_cell_exact (Known g x) (Known h y) e = let p =
    and_parts (g == h) (is_same_value x y) e in cc (eqb-true g h p.0, same_value_exact x y p.1)
same_cell_exact (Disputed g) (Disputed h) e = ap Disputed (eqb-true g h e)
same_cell_exact _ _ e = absurd (cc)

-- `is_same_cell` calls a cell equal to itself
pub same_cell_itself : (a : Cell Value) → is_same_cell a a ≡ true
same_cell_itself (Known g x) = cc (same_number g, same_value_itself x)
same_cell_itself (Disputed g) = same_number g
