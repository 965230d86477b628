-- Cells in the order of their keys: as entries of their map, with a cell inserted, and with a cell changed.
use Rattle.std.proofs.Common.{◌≡◌, ℕ, zero, suc, ◌<◌, ◌≤◌, List, [], ◌∷◌, ◌++◌, length, set, refl, sym, ap, ◌∙◌, subst, arith, Bool, true, false, ◌&&◌}
use Rattle.std.proofs.lemmas.Option.{get_or_from_slice_get, slice_get_within, slice_get-get_or}
use Rattle.std.proofs.lemmas.List.{append_assoc}
use Rattle.std.proofs.Common.{inl, inr}
use Rattle.std.proofs.lemmas.Bool.{cases_lt}
use Rattle.std.specs.Prelude.{T, Option, None, Some, Contains, slice_get, insert}
use Rattle.std.specs.declared.cmp.Ordering.{Ordering}
use Rattle.std.specs.declared.cmp.Ordering.TheVariants.{Less, Greater}
use Rattle.std.specs.Cmp.{tied_itself}
use Rattle.std.specs.Ordering.{is_lt, ordering_reverse}
use Rattle.std.specs.FinMap.{get, entries, from_entries}
use Rattle.std.specs.FinMap.Entries as sorted
use Rattle.fact_join.specs.declared.cell.Cell.{Cell}
use Rattle.reply_facts.specs.declared.key.Key.{Key}
use Rattle.reply_facts.specs.declared.value.Value.{Value}
use Rattle.fact_store.specs.Cells.{IsIndexFor}
use Rattle.reply_facts.specs.Key.{key_cmp}
use Rattle.fact_store.specs.Seen.{seen}
use Rattle.fact_store.proofs.Entries.{put_all, entries-from_entries}
use Rattle.reply_facts.proofs.Keys.{key_total}
use Rattle.fact_store.proofs.Orders.{first_true, second_true, is_less, below_at, get_contained}
use Rattle.fact_store.proofs.SeenLaws.{seen_of_its_cells}

-- both hold
both_true : (a b : Bool) → T a → T b → T (a && b)
both_true true b g h = h
both_true false b g h = absurd g

-- a test that holds is true
pub shown : (b : Bool) → T b → b ≡ true
shown true h = refl
shown false h = absurd h

-- and the other way round
pub held : (b : Bool) → b ≡ true → T b
held b e = subst T (sym e) tt

-- a test of what is less
is_lt_less : (o : Ordering) → o ≡ Less → T (is_lt o)
is_lt_less o e = subst (λ (r : Ordering). T (is_lt r)) (sym e) tt

-- what is above is below the other way round
pub less_back : (a b : Key) → key_cmp a b ≡ Greater → key_cmp b a ≡ Less
less_back a b e = key_total.antisymm b a ∙ ap ordering_reverse e

-- the entries of their map ------------------------------------------------------------------

-- a cell whose key is below all others is put first
put_least : (e : Key × Cell Value) (es : List (Key × Cell Value)) → T (sorted.below_all key_cmp e.0 es) → sorted.put key_cmp e.0 e.1 es ≡ e ∷ es
put_least e [] h = refl
put_least e (f ∷ es) h = ap (λ o. sorted.by_order o (e ∷ f ∷ es) ((f.0, e.1) ∷ es) (f ∷ sorted.put key_cmp e.0 e.1 es)) (is_less _ (first_true _ _ h))

-- so rising cells stay as they are
put_all-rising : (es : List (Key × Cell Value)) → T (sorted.is_sorted key_cmp es) → put_all es ≡ es
put_all-rising [] h = refl
put_all-rising (e ∷ es) h = ap (sorted.put key_cmp e.0 e.1) (put_all-rising es (second_true _ _ h)) ∙ put_least e es (first_true _ _ h)

-- they are the entries of their map
pub entries-rising : (es : List (Key × Cell Value)) → T (sorted.is_sorted key_cmp es) → entries (seen es) ≡ es
entries-rising es h =
    let made : entries (from_entries {R = key_cmp} es) ≡ es = entries-from_entries es ∙ put_all-rising es h in
    ap entries (ap seen (sym made) ∙ seen_of_its_cells (from_entries es)) ∙ made

-- by their index -----------------------------------------------------------------------------

-- what stands at an index is there
pub contains_at : (es : List (Key × Cell Value)) (i : ℕ) (e : Key × Cell Value) → slice_get es i ≡ Some e → Contains es e
contains_at es i e h = (i, slice_get_within es i e h, get_or_from_slice_get es i e e h)

-- what is there stands at an index
pub at_contains : (es : List (Key × Cell Value)) (e : Key × Cell Value) (h : Contains es e) → slice_get es h.0 ≡ Some e
at_contains es e h = slice_get-get_or es h.0 e h.1 ∙ ap Some h.2

-- the keys rise with the indices
pub rising_indices : (es : List (Key × Cell Value)) → T (sorted.is_sorted key_cmp es) → (i j : ℕ) (e f : Key × Cell Value) → i < j → slice_get es i ≡ Some e
    → slice_get es j ≡ Some f → key_cmp e.0 f.0 ≡ Less
rising_indices [] h i j e f l p q = absurd (cc)
rising_indices (x ∷ es) h zero zero e f l p q = absurd (omega arith)
rising_indices (x ∷ es) h zero (suc j) e f l p q =
    subst (λ (z : Key × Cell Value). key_cmp z.0 f.0 ≡ Less) (some_is x e p) (below_at x.0 es (first_true _ _ h) f (contains_at es j f q))
  where
    some_is : (a b : Key × Cell Value) → Some a ≡ Some b → a ≡ b
    some_is a b e = cc
rising_indices (x ∷ es) h (suc i) zero e f l p q = absurd (omega arith)
rising_indices (x ∷ es) h (suc i) (suc j) e f l p q = rising_indices es (second_true _ _ h) i j e f (omega arith) p q

-- one put in ---------------------------------------------------------------------------------

-- a key below all that stands anywhere
below_each : (k : Key) (es : List (Key × Cell Value)) → ((j : ℕ) (e : Key × Cell Value) → slice_get es j ≡ Some e → key_cmp e.0 k ≡ Greater)
    → T (sorted.below_all key_cmp k es)
below_each k [] f = tt
below_each k (x ∷ es) f = both_true _ _ (is_lt_less _ (less_back x.0 k (f 0 x refl))) (below_each k es (λ j e h. f (suc j) e h))

-- a key below all is below all and one more
below_more : (k : Key) (es : List (Key × Cell Value)) (i : ℕ) (e : Key × Cell Value) → T (sorted.below_all key_cmp k es) → key_cmp k e.0 ≡ Less
    → T (sorted.below_all key_cmp k (insert es i e))
below_more k [] zero e h l = both_true _ _ (is_lt_less _ l) tt
below_more k [] (suc i) e h l = both_true _ _ (is_lt_less _ l) tt
below_more k (x ∷ es) zero e h l = both_true _ _ (is_lt_less _ l) h
below_more k (x ∷ es) (suc i) e h l = both_true _ _ (first_true _ _ h) (below_more k es i e (second_true _ _ h) l)

-- a key between those before the index and those from it on
pub rising-insert : (es : List (Key × Cell Value)) (i : ℕ) (k : Key) (c : Cell Value) → T (sorted.is_sorted key_cmp es) → i ≤ length es
    → ((j : ℕ) (e : Key × Cell Value) → j < i → slice_get es j ≡ Some e → key_cmp e.0 k ≡ Less)
    → ((j : ℕ) (e : Key × Cell Value) → i ≤ j → slice_get es j ≡ Some e → key_cmp e.0 k ≡ Greater) → T (sorted.is_sorted key_cmp (insert es i (k, c)))
rising-insert es zero k c h l f g = both_true _ _ (below_each k es (λ j e p. g j e (omega arith) p)) h
rising-insert [] (suc i) k c h l f g = absurd (omega arith)
rising-insert (x ∷ es) (suc i) k c h l f g =
    both_true _ _ (below_more x.0 es i (k, c) (first_true _ _ h) (f 0 x (omega arith) refl))
    (rising-insert es i k c (second_true _ _ h) (omega arith) (λ j e p q. f (suc j) e (omega arith) q) (λ j e p q. g (suc j) e (omega arith) q))

-- where a search ends
pub ends_at : (es : List (Key × Cell Value)) (i : ℕ) (k : Key) → T (sorted.is_sorted key_cmp es) → i ≤ length es
    → ((j : ℕ) (e : Key × Cell Value) → j < i → slice_get es j ≡ Some e → key_cmp e.0 k ≡ Less)
    → ((j : ℕ) (e : Key × Cell Value) → i ≤ j → slice_get es j ≡ Some e → key_cmp e.0 k ≡ Greater) → IsIndexFor k es i
ends_at es i k h l f g =
    record {
      within = l;
      absent = elim (get (seen es) k) as (λ (o : Option (Cell Value)). get (seen es) k ≡ o → o ≡ None) [
        | None ↦ λ e. refl
        | Some c ↦ λ e. absurd (nowhere c (subst (λ (s : List (Key × Cell Value)). Contains s (k, c)) (entries-rising es h) (get_contained (seen es) k c e)))
      ] refl;
      rising = λ c. shown _ (rising-insert es i k c h l f g);
    }
  where
    nowhere : (c : Cell Value) → Contains es (k, c) → ⊥
    nowhere c n =
        elim (cases_lt n.0 i) [
          | inl b ↦ absurd (cc (f n.0 (k, c) b (at_contains es (k, c) n), tied_itself key_total k))
          | inr a ↦ absurd (cc (g n.0 (k, c) a (at_contains es (k, c) n), tied_itself key_total k))
        ]

-- one changed ----------------------------------------------------------------------------------

-- only keys are compared
below_all-set : (x k : Key) (c d : Cell Value) (es : List (Key × Cell Value)) (i : ℕ) → slice_get es i ≡ Some (k, c) → T (sorted.below_all key_cmp x es)
    → T (sorted.below_all key_cmp x (set es i (k, d)))
below_all-set x k c d [] i e h = tt
below_all-set x k c d (f ∷ es) zero e h = subst (λ (z : Key × Cell Value). T (is_lt (key_cmp x z.0) && sorted.below_all key_cmp x es)) (some_is f (k, c) e) h
  where
    some_is : (a b : Key × Cell Value) → Some a ≡ Some b → a ≡ b
    some_is a b e = cc
below_all-set x k c d (f ∷ es) (suc i) e h = both_true _ _ (first_true _ _ h) (below_all-set x k c d es i e (second_true _ _ h))

-- so another cell at a key keeps the order
pub rising-set : (k : Key) (c d : Cell Value) (es : List (Key × Cell Value)) (i : ℕ) → slice_get es i ≡ Some (k, c) → T (sorted.is_sorted key_cmp es)
    → T (sorted.is_sorted key_cmp (set es i (k, d)))
rising-set k c d [] i e h = tt
rising-set k c d (f ∷ es) zero e h = subst (λ (z : Key × Cell Value). T (sorted.below_all key_cmp z.0 es && sorted.is_sorted key_cmp es)) (some_is f (k, c) e) h
  where
    some_is : (a b : Key × Cell Value) → Some a ≡ Some b → a ≡ b
    some_is a b e = cc
rising-set k c d (f ∷ es) (suc i) e h = both_true _ _ (below_all-set f.0 k c d es i e (first_true _ _ h)) (rising-set k c d es i e (second_true _ _ h))

-- two lists in step ------------------------------------------------------------------------------

-- what is below all of two lists is below all of both
below_both : (x : Key) (s t : List (Key × Cell Value)) → T (sorted.below_all key_cmp x s) → T (sorted.below_all key_cmp x t)
    → T (sorted.below_all key_cmp x (s ++ t))
below_both x [] t g h = h
below_both x (e ∷ s) t g h = both_true _ _ (first_true _ _ g) (below_both x s t (second_true _ _ g) h)

-- what is below all of both is below all of the first
below_first : (x : Key) (s t : List (Key × Cell Value)) → T (sorted.below_all key_cmp x (s ++ t)) → T (sorted.below_all key_cmp x s)
below_first x [] t h = tt
below_first x (e ∷ s) t h = both_true _ _ (first_true _ _ h) (below_first x s t (second_true _ _ h))

-- and of the second
below_second : (x : Key) (s t : List (Key × Cell Value)) → T (sorted.below_all key_cmp x (s ++ t)) → T (sorted.below_all key_cmp x t)
below_second x [] t h = h
below_second x (e ∷ s) t h = below_second x s t (second_true _ _ h)

-- a lesser key is below all that another is below
below_lesser : (x y : Key) (es : List (Key × Cell Value)) → key_cmp x y ≡ Less → T (sorted.below_all key_cmp y es) → T (sorted.below_all key_cmp x es)
below_lesser x y [] l h = tt
below_lesser x y (e ∷ es) l h =
    both_true _ _ (is_lt_less _ (key_total.trans x y e.0 l (is_less _ (first_true _ _ h)))) (below_lesser x y es l (second_true _ _ h))

-- the lesser of two goes first
rising_between : (b s t : List (Key × Cell Value)) (x y : Key × Cell Value) → T (sorted.is_sorted key_cmp (b ++ x ∷ s))
    → T (sorted.is_sorted key_cmp (b ++ y ∷ t)) → key_cmp x.0 y.0 ≡ Less → T (sorted.is_sorted key_cmp (b ++ (x ∷ (y ∷ t))))
rising_between [] s t x y g h l = both_true _ _ (both_true _ _ (is_lt_less _ l) (below_lesser x.0 y.0 t l (first_true _ _ h))) h
rising_between (e ∷ b) s t x y g h l =
    both_true _ _
    (below_both e.0 b (x
    ∷ (y ∷ t)) (below_first e.0 b (x ∷ s) (first_true _ _ g)) (both_true _ _ (first_true _ _ (below_second e.0 b (x ∷ s) (first_true _ _ g)))
    (below_second e.0 b (y ∷ t) (first_true _ _ h))))
    (rising_between b s t x y (second_true _ _ g) (second_true _ _ h) l)

-- the order with the lesser one moved over
pub rising-step : (b s t : List (Key × Cell Value)) (x y : Key × Cell Value) → T (sorted.is_sorted key_cmp (b ++ x ∷ s))
    → T (sorted.is_sorted key_cmp (b ++ y ∷ t)) → key_cmp x.0 y.0 ≡ Less → T (sorted.is_sorted key_cmp ((b ++ x ∷ []) ++ y ∷ t))
rising-step b s t x y g h l =
    subst (λ (z : List (Key × Cell Value)). T (sorted.is_sorted key_cmp z)) (sym (append_assoc b (x ∷ []) (y ∷ t))) (rising_between b s t x y g h l)

-- the order with a cell of the same key
rising_other : (b s : List (Key × Cell Value)) (k : Key) (c d : Cell Value) → T (sorted.is_sorted key_cmp (b ++ (k, c) ∷ s))
    → T (sorted.is_sorted key_cmp (b ++ (k, d) ∷ s))
rising_other [] s k c d h = h
rising_other (e ∷ b) s k c d h =
    both_true _ _ (below_both e.0 b ((k, d) ∷ s) (below_first e.0 b ((k, c) ∷ s) (first_true _ _ h)) (below_second e.0 b ((k, c) ∷ s) (first_true _ _ h)))
    (rising_other b s k c d (second_true _ _ h))

-- moved over
pub rising-move : (b s : List (Key × Cell Value)) (x : Key × Cell Value) (d : Cell Value) → T (sorted.is_sorted key_cmp (b ++ x ∷ s))
    → T (sorted.is_sorted key_cmp ((b ++ (x.0, d) ∷ []) ++ s))
rising-move b s x d h =
    subst (λ (z : List (Key × Cell Value)). T (sorted.is_sorted key_cmp z)) (sym (append_assoc b ((x.0, d) ∷ []) s)) (rising_other b s x.0 x.1 d h)
