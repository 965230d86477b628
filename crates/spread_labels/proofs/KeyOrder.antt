-- Keys order vertices strictly, and tell any two apart.
use Rattle.std.proofs.Common.{◌≡◌, ◌≢◌, ◌<◌, ◌⊎◌, ◌&&◌, ◌||◌, ◌==◌, not, ℕ, List, inl, inr, refl, sym, ap, ◌∙◌, arith, true, false, Bool}
use Rattle.std.proofs.lemmas.Bool.{and_parts, cases_lt, eq-eqb, eqb-true, lt-ltb, ltb-true, or_cases}
use Rattle.std.specs.Prelude.{nat_lt}
use Rattle.spread_labels.specs.declared.key_order.VertexKey.{VertexKey}
use Rattle.spread_labels.specs.KeyOrder.{KeysTellApart, before_by, key_at, key_less}

-- the test in words: the distance class is less, or equal with the distance less
abbrev Less : VertexKey → VertexKey → Type 0
Less k l = (k.distance_class < l.distance_class) ⊎ ((k.distance_class ≡ l.distance_class) × (k.distance < l.distance))

less : (k l : VertexKey) → key_less k l ≡ true → Less k l
less k l h =
    elim (or_cases (nat_lt k.distance_class l.distance_class) ((k.distance_class == l.distance_class) && nat_lt k.distance l.distance) h) [
      | inl distance_class ↦ inl (ltb-true k.distance_class l.distance_class distance_class)
      | inr both ↦
          let parts = and_parts (k.distance_class == l.distance_class) (nat_lt k.distance l.distance) both in
          inr (eqb-true k.distance_class l.distance_class parts.0, ltb-true k.distance l.distance parts.1)
    ]

tested : (k l : VertexKey) → Less k l → key_less k l ≡ true
tested k l (inl distance_class) =
    ap (λ b. b || ((k.distance_class == l.distance_class) && nat_lt k.distance l.distance)) (lt-ltb k.distance_class l.distance_class distance_class)
tested k l (inr both) =
    (λ i. nat_lt k.distance_class l.distance_class || (eq-eqb k.distance_class l.distance_class both.0 i && lt-ltb k.distance l.distance both.1 i))
    ∙ or_true (nat_lt k.distance_class l.distance_class)
  where
    or_true : (b : Bool) → (b || true) ≡ true
    or_true true = refl
    or_true false = refl

decide : (b : Bool) → (b ≡ true → ⊥) → b ≡ false
decide true h = absurd (h refl)
decide false h = refl

-- the test of vertices in words
abbrev Before : List VertexKey → ℕ → ℕ → Type 0
Before keys a b = Less (key_at keys a) (key_at keys b) ⊎ ((Less (key_at keys b) (key_at keys a) → ⊥) × (a < b))

before : (keys : List VertexKey) (a b : ℕ) → before_by keys a b ≡ true → Before keys a b
before keys a b h =
    let k = key_at keys a in
    let l = key_at keys b in
    elim (or_cases (key_less k l) (not (key_less l k) && nat_lt a b) h) [
      | inl is ↦ inl (less k l is)
      | inr both ↦
          let parts = and_parts (not (key_less l k)) (nat_lt a b) both in
          inr (λ other. let t : not true ≡ true = ap not (sym (tested l k other)) ∙ parts.0 in absurd (cc), ltb-true a b parts.1)
    ]

is_before : (keys : List VertexKey) (a b : ℕ) → Before keys a b → before_by keys a b ≡ true
is_before keys a b (inl is) = ap (λ t. t || (not (key_less (key_at keys b) (key_at keys a)) && nat_lt a b)) (tested (key_at keys a) (key_at keys b) is)
is_before keys a b (inr both) =
    let k = key_at keys a in
    let l = key_at keys b in
    let other : key_less l k ≡ false = decide (key_less l k) (λ t. both.0 (less l k t)) in
    (λ i. key_less k l || (not (other i) && lt-ltb a b both.1 i)) ∙ or_true (key_less k l)
  where
    or_true : (b : Bool) → (b || true) ≡ true
    or_true true = refl
    or_true false = refl

-- of any two keys one is less, or they are equal
compare : (k l : VertexKey) → Less k l ⊎ (Less l k ⊎ ((k.distance_class ≡ l.distance_class) × (k.distance ≡ l.distance)))
compare k l =
    elim (cases_lt k.distance_class l.distance_class) [
      | inl x ↦ inl (inl x)
      | inr y ↦ (elim (cases_lt l.distance_class k.distance_class) [
        | inl x ↦ inr (inl (inl x))
        | inr z ↦
            let same : k.distance_class ≡ l.distance_class = omega (arith, y, z) in
            (elim (cases_lt k.distance l.distance) [
              | inl x ↦ inl (inr (same, x))
              | inr u ↦ (elim (cases_lt l.distance k.distance) [
                | inl x ↦ inr (inl (inr (sym same, x)))
                | inr v ↦ inr (inr (same, omega (arith, u, v)))
              ])
            ])
      ])
    ]

-- distance class, distance and vertex, the first that differ
data InTurn (k l : VertexKey) (a b : ℕ) : Type 0 where
  by_distance_class : k.distance_class < l.distance_class → InTurn k l a b
  by_distance : k.distance_class ≡ l.distance_class → k.distance < l.distance → InTurn k l a b
  by_vertex : k.distance_class ≡ l.distance_class → k.distance ≡ l.distance → a < b → InTurn k l a b

in_turn : (keys : List VertexKey) (a b : ℕ) → Before keys a b → InTurn (key_at keys a) (key_at keys b) a b
in_turn keys a b (inl (inl x)) = by_distance_class x
in_turn keys a b (inl (inr x)) = by_distance x.0 x.1
in_turn keys a b (inr x) =
    elim (compare (key_at keys a) (key_at keys b)) [
      | inl (inl y) ↦ by_distance_class y
      | inl (inr y) ↦ by_distance y.0 y.1
      | inr (inl y) ↦ absurd (x.0 y)
      | inr (inr y) ↦ by_vertex y.0 y.1 x.1
    ]

from_turn : (keys : List VertexKey) (a b : ℕ) → InTurn (key_at keys a) (key_at keys b) a b → Before keys a b
from_turn keys a b (by_distance_class x) = inl (inl x)
from_turn keys a b (by_distance x y) = inl (inr (x, y))
from_turn keys a b (by_vertex x y z) = inr (not_less, z)
  where
    not_less : Less (key_at keys b) (key_at keys a) → ⊥
    not_less (inl u) = absurd (omega (arith, x, u))
    not_less (inr u) = absurd (omega (arith, y, u.1))

turns : (k l m : VertexKey) (a b c : ℕ) → InTurn k l a b → InTurn l m b c → InTurn k m a c
turns k l m a b c (by_distance_class x) (by_distance_class y) = by_distance_class (omega (arith, x, y))
turns k l m a b c (by_distance_class x) (by_distance y z) = by_distance_class (omega (arith, x, y))
turns k l m a b c (by_distance_class x) (by_vertex y z u) = by_distance_class (omega (arith, x, y))
turns k l m a b c (by_distance x v) (by_distance_class y) = by_distance_class (omega (arith, x, y))
turns k l m a b c (by_distance x v) (by_distance y z) = by_distance (x ∙ y) (omega (arith, v, z))
turns k l m a b c (by_distance x v) (by_vertex y z u) = by_distance (x ∙ y) (omega (arith, v, z))
turns k l m a b c (by_vertex x v w) (by_distance_class y) = by_distance_class (omega (arith, x, y))
turns k l m a b c (by_vertex x v w) (by_distance y z) = by_distance (x ∙ y) (omega (arith, v, z))
turns k l m a b c (by_vertex x v w) (by_vertex y z u) = by_vertex (x ∙ y) (v ∙ z) (omega (arith, w, u))

itself : (k : VertexKey) (a : ℕ) → InTurn k k a a → ⊥
itself k a (by_distance_class x) = absurd (omega (arith, x))
itself k a (by_distance x y) = absurd (omega (arith, y))
itself k a (by_vertex x y z) = absurd (omega (arith, z))

one_is_before : (keys : List VertexKey) (a b : ℕ) → a ≢ b → (before_by keys a b ≡ true → ⊥) → Before keys b a
one_is_before keys a b apart never =
    elim (compare (key_at keys a) (key_at keys b)) [
      | inl x ↦ absurd (never (is_before keys a b (inl x)))
      | inr (inl x) ↦ inl x
      | inr (inr x) ↦ (elim (cases_lt b a) [
        | inl y ↦ from_turn keys b a (by_vertex (sym x.0) (sym x.1) y)
        | inr y ↦ absurd (never (is_before keys a b (from_turn keys a b (by_vertex x.0 x.1 (grind arith)))))
      ])
    ]

pub keys_tell_apart : KeysTellApart
keys_tell_apart keys = record {
  not_itself = λ a. decide (before_by keys a a) (λ h. itself (key_at keys a) a (in_turn keys a a (before keys a a h)));
  trans = λ a b c x y.
      is_before keys a c
      (from_turn keys a c (turns (key_at keys a) (key_at keys b) (key_at keys c) a b c (in_turn keys a b (before keys a b x))
      (in_turn keys b c (before keys b c y))));
  total = λ a b apart not_so. is_before keys b a (one_is_before keys a b apart (λ h. let t : true ≡ false = sym h ∙ not_so in absurd (cc)));
}
