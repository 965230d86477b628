-- The entries of a map in the order of their keys: what is found among them, and which key comes next.
use Rattle.std.proofs.Common.{◌≡◌, List, [], ◌∷◌, refl, sym, ap, ◌∙◌, subst, inl, inr, Bool, true, false, cond, ◌&&◌}
use Rattle.std.specs.Prelude.{T, Some, Contains}
use Rattle.std.specs.declared.cmp.Ordering.{Ordering}
use Rattle.std.specs.declared.cmp.Ordering.TheVariants.{Less, Equal, Greater}
use Rattle.std.specs.Ordering.{is_lt, is_eq, eq_by_cmp, ordering_reverse}
use Rattle.std.specs.FinMap.{get, entries, entries_sorted, get-entries}
use Rattle.std.specs.FinMap.Entries as sorted
use Rattle.fact_join.specs.declared.cell.Cell.{Cell}
use Rattle.reply_facts.specs.declared.key.Key.{Key}
use Rattle.reply_facts.specs.declared.value.Value.{Value}
use Rattle.reply_facts.specs.Key.{key_cmp}
use Rattle.fact_store.specs.Seen.{CellMap}
use Rattle.reply_facts.proofs.Keys.{key_total}
use Rattle.smp_bytes.proofs.Members.{contains_here, contains_later, contains_cases, contains_none}
use Rattle.fact_store.proofs.MapMerges.{the_same}
use Rattle.fact_store.proofs.Seen.{pair_is, is_of_itself}

-- keys in order ------------------------------------------------------------------------

-- both hold, so the first does
pub first_true : (a b : Bool) → T (a && b) → T a
first_true true b h = tt
first_true false b h = absurd h

-- both hold, so the second does
pub second_true : (a b : Bool) → T (a && b) → T b
second_true true b h = h
second_true false b h = absurd h

-- an answer that tests as less is less
pub is_less : (o : Ordering) → T (is_lt o) → o ≡ Less
is_less Less h = refl
is_less Equal h = absurd h
is_less Greater h = absurd h

-- the same, of a test that is true
pub less_from_test : (o : Ordering) → is_lt o ≡ true → o ≡ Less
less_from_test Less e = refl
less_from_test Equal e = absurd (cc)
less_from_test Greater e = absurd (cc)

-- a key that comes first is above all that follow
pub below_at : (x : Key) (es : List (Key × Cell Value)) → T (sorted.below_all key_cmp x es) → (e : Key × Cell Value) → Contains es e → key_cmp x e.0 ≡ Less
below_at x [] h e k = absurd (contains_none e k)
below_at x (f ∷ es) h e k =
    elim (contains_cases f e es k) [
      | inl i ↦ subst (λ (z : Key × Cell Value). key_cmp x z.0 ≡ Less) i (is_less _ (first_true _ _ h))
      | inr r ↦ below_at x es (second_true _ _ h) e r
    ]

-- what is below is above the other way round
pub greater_back : (a b : Key) → key_cmp a b ≡ Less → key_cmp b a ≡ Greater
greater_back a b e = key_total.antisymm b a ∙ ap ordering_reverse e

-- what is found at a key -----------------------------------------------------------------

-- what is found at a key is there
found_contained : (es : List (Key × Cell Value)) (q : Key) (c : Cell Value) → sorted.find key_cmp q es ≡ Some c → Contains es (q, c)
found_contained [] q c e = absurd (cc)
found_contained (x ∷ es) q c e =
    elim (eq_by_cmp key_cmp q x.0) as (λ t. eq_by_cmp key_cmp q x.0 ≡ t → cond t (Some x.1) (sorted.find key_cmp q es) ≡ Some c → Contains (x ∷ es) (q, c)) [
      | true ↦ λ p i. subst (λ (z : Key × Cell Value). Contains (z ∷ es) (q, c)) (sym (pair_is q x c p (the_same x.1 c i))) (contains_here (q, c) es)
      | false ↦ λ p i. contains_later x (q, c) es (found_contained es q c i)
    ] refl e

-- what is there in a list in order is found
contained_found : (es : List (Key × Cell Value)) → T (sorted.is_sorted key_cmp es) → (q : Key) (c : Cell Value) → Contains es (q, c) → sorted.find key_cmp q es
    ≡ Some c
contained_found [] h q c k = absurd (contains_none (q, c) k)
contained_found (x ∷ es) h q c k =
    elim (contains_cases x (q, c) es k) [
      | inl i ↦ subst (λ (z : Key × Cell Value). sorted.find key_cmp q (z ∷ es)
          ≡ Some c) (sym i) (ap (λ t. cond t (Some c) (sorted.find key_cmp q es)) (is_of_itself q c))
      | inr r ↦
          ap (λ o. cond (is_eq o) (Some x.1) (sorted.find key_cmp q es)) (greater_back x.0 q (below_at x.0 es (first_true _ _ h) (q, c) r))
          ∙ contained_found es (second_true _ _ h) q c r
    ]

-- what facts have at a key is one of their entries
pub get_contained : (x : CellMap) (q : Key) (c : Cell Value) → get x q ≡ Some c → Contains (entries x) (q, c)
get_contained x q c e = found_contained (entries x) q c (sym (get-entries x q) ∙ e)

-- each entry of facts is what they have at its key
pub contained_get : (x : CellMap) (q : Key) (c : Cell Value) → Contains (entries x) (q, c) → get x q ≡ Some c
contained_get x q c h = get-entries x q ∙ contained_found (entries x) (entries_sorted x) q c h

-- the next key -----------------------------------------------------------------------------

-- the keys by their index --------------------------------------------------------------------
