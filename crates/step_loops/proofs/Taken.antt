-- The channels that packets for a LID take in turn across two columns, vertex by vertex.
use Rattle.std.proofs.Common.{◌≡◌, ℕ, List, [], length, refl, sym, ◌∙◌, subst, inl, inr, ◌⊎◌, Result, Ok, Err}
use Rattle.std.specs.Prelude.{OnOk, Option}
use Rattle.port_graph.specs.declared.edge.Edge.{Edge}
use Rattle.audit_channels.specs.ChannelOrders.{Follows}
use Rattle.audit_channels.specs.Column.{IsWithAcross, IsWithColumn, TakesAmong}
use Rattle.audit_channels.proofs.Columns.{within}
use Rattle.next_tables.specs.Mixtures.{TakesBy, TakesInStep}
use Rattle.step_loops.specs.StepOrder.{IsAddedInStep, IsWithStep}

-- at one of all vertices, or at any
of_all : (before now : List (Option Edge)) (a b : ℕ) → TakesBy before now a b → TakesAmong (length before) before now a b
of_all before now a b t = (t.0, within before t.0 t.1.first t.1.leaves, t.1)

of_any : (before now : List (Option Edge)) (a b : ℕ) → TakesAmong (length before) before now a b → TakesBy before now a b
of_any before now a b t = (t.0, t.2)

-- a property of a value, if there is one
pub on_ok : {T E : Type 0} (P Q : Type 0) (r : Result T E) → OnOk r P → (P → Q) → OnOk r Q
on_ok P Q (Ok x) h f = f h
on_ok P Q (Err e) h f = tt

-- the four kinds, one after the other
pub all_kinds : (old one two three new : List (List ℕ)) (held next : List (Option Edge)) → IsWithAcross old held held one → IsWithAcross one held next two
    → IsWithAcross two next held three → IsWithAcross three next next new → IsWithStep old held next new
all_kinds old one two three new held next h k m n = record {
  as_many = n.as_many ∙ m.as_many ∙ k.as_many ∙ h.as_many;
  follows = λ a b. (there a b, back a b);
}
  where
    first : (a b : ℕ) → Follows one a b → Follows old a b ⊎ TakesInStep held next a b
    first a b f = elim ((h.follows a b).0 f) [ inl o ↦ inl o | inr t ↦ inr (inl (of_any held held a b t)) ]

    second : (a b : ℕ) → Follows two a b → Follows old a b ⊎ TakesInStep held next a b
    second a b f = elim ((k.follows a b).0 f) [ inl o ↦ first a b o | inr t ↦ inr (inr (inl (of_any held next a b t))) ]

    third : (a b : ℕ) → Follows three a b → Follows old a b ⊎ TakesInStep held next a b
    third a b f = elim ((m.follows a b).0 f) [ inl o ↦ second a b o | inr t ↦ inr (inr (inr (inl (of_any next held a b t)))) ]

    there : (a b : ℕ) → Follows new a b → Follows old a b ⊎ TakesInStep held next a b
    there a b f = elim ((n.follows a b).0 f) [ inl o ↦ third a b o | inr t ↦ inr (inr (inr (inr (of_any next next a b t)))) ]

    from_three : (a b : ℕ) → Follows three a b → Follows new a b
    from_three a b f = (n.follows a b).1 (inl f)

    from_two : (a b : ℕ) → Follows two a b → Follows new a b
    from_two a b f = from_three a b ((m.follows a b).1 (inl f))

    from_one : (a b : ℕ) → Follows one a b → Follows new a b
    from_one a b f = from_two a b ((k.follows a b).1 (inl f))

    back : (a b : ℕ) → Follows old a b ⊎ TakesInStep held next a b → Follows new a b
    back a b (inl f) = from_one a b ((h.follows a b).1 (inl f))
    back a b (inr (inl t)) = from_one a b ((h.follows a b).1 (inr (of_all held held a b t)))
    back a b (inr (inr (inl t))) = from_two a b ((k.follows a b).1 (inr (of_all held next a b t)))
    back a b (inr (inr (inr (inl t)))) = from_three a b ((m.follows a b).1 (inr (of_all next held a b t)))
    back a b (inr (inr (inr (inr t)))) = (n.follows a b).1 (inr (of_all next next a b t))

-- if both tables have the same edges, one kind is all
pub one_kind : (old new : List (List ℕ)) (held next : List (Option Edge)) → held ≡ next → IsWithColumn old held new → IsWithStep old held next new
one_kind old new held next same h =
    subst (λ (column : List (Option Edge)). IsWithStep old held column new) same (record { as_many = h.as_many; follows = λ a b. (there a b, back a b) })
  where
    there : (a b : ℕ) → Follows new a b → Follows old a b ⊎ TakesInStep held held a b
    there a b f = elim ((h.follows a b).0 f) [ inl o ↦ inl o | inr t ↦ inr (inl (of_any held held a b t)) ]

    taken : (a b : ℕ) → TakesBy held held a b → Follows new a b
    taken a b t = (h.follows a b).1 (inr (of_all held held a b t))

    back : (a b : ℕ) → Follows old a b ⊎ TakesInStep held held a b → Follows new a b
    back a b (inl f) = (h.follows a b).1 (inl f)
    back a b (inr (inl t)) = taken a b t
    back a b (inr (inr (inl t))) = taken a b t
    back a b (inr (inr (inr (inl t)))) = taken a b t
    back a b (inr (inr (inr (inr t)))) = taken a b t

-- columns that have been added, and again
pub none_added : (waits : List (List ℕ)) → IsAddedInStep [] [] waits
none_added waits a b t = absurd (nothing t)
  where
    none : TakesBy [] [] a b → ⊥
    none t = let leaves = t.1.leaves in cc

    nothing : TakesInStep [] [] a b → ⊥
    nothing (inl t) = none t
    nothing (inr (inl t)) = none t
    nothing (inr (inr (inl t))) = none t
    nothing (inr (inr (inr t))) = none t

pub is_added : (old new : List (List ℕ)) (held next : List (Option Edge)) → IsWithStep old held next new → IsAddedInStep held next new
is_added old new held next h a b t = (h.follows a b).1 (inr t)

pub again : (waits : List (List ℕ)) (held next held_before next_before : List (Option Edge)) → held ≡ held_before → next ≡ next_before
    → IsAddedInStep held_before next_before waits → IsWithStep waits held next waits
again waits held next held_before next_before e f added = record { as_many = refl; follows = λ a b. ((λ g. inl g), back a b) }
  where
    there : IsAddedInStep held next waits
    there =
        subst (λ (c : List (Option Edge)). IsAddedInStep c next waits) (sym e)
        (subst (λ (c : List (Option Edge)). IsAddedInStep held_before c waits) (sym f) added)

    back : (a b : ℕ) → Follows waits a b ⊎ TakesInStep held next a b → Follows waits a b
    back a b (inl g) = g
    back a b (inr t) = there a b t
