-- Cells below a floor, and maps without them.
use Rattle.std.proofs.Common.{◌≡◌, ◌≤◌, ◌<◌, ℕ, T, List, [], ◌∷◌, refl, sym, ap, ◌∙◌, subst, arith, true, false, cond, inl, inr}
use Rattle.std.proofs.lemmas.Bool.{cases_lt, le-leb, leb-true}
use Rattle.std.specs.Cmp.{both_ways}
use Rattle.std.specs.Prelude.{Option, None, Some, MatchOption, max}
use Rattle.std.specs.Ordering.{eq_by_cmp, is_eq}
use Rattle.std.specs.FinMap.{find, get, entries, entries_sorted, get-entries, same_entries_map, same_map}
use Rattle.std.specs.FinMap.Entries.{below_all, is_sorted}
use Rattle.fact_join.specs.declared.cell.Cell.{Cell}
use Rattle.fact_join.specs.declared.cell.Cell.TheVariants.{Known, Disputed}
use Rattle.fact_join.specs.Cell.{generation_of, IsBelow}
use Rattle.fact_join.specs.Join.{below_antisymm, below_itself, below-le, joined_above_first, joined_above_second, joined_least}
use Rattle.reply_facts.specs.declared.key.Key.{Key}
use Rattle.reply_facts.specs.declared.value.Value.{Value}
use Rattle.fact_store.specs.Floor.{dropped, entries-dropped, is_kept, kept, kept_there}
use Rattle.reply_facts.specs.Key.{key_cmp}
use Rattle.fact_store.specs.Merge.{join, merge_maps}
use Rattle.fact_store.specs.Seen.{CellMap, seen, WasSighted, IsNewest, IsCellIn}
use Rattle.reply_facts.specs.Value.{is_same_value}
use Rattle.reply_facts.specs.Values.{same_value_exact, same_value_itself}
use Rattle.reply_facts.proofs.Keys.{key_total, key_exact, equal_from_test}
use Rattle.fact_store.proofs.MapMerges.{get-merge_maps, joined_there, merge_maps_is_commutative, the_same}
use Rattle.fact_store.proofs.Orders.{first_true, second_true, is_less}
use Rattle.fact_store.proofs.SeenLaws.{newest_in, seen_is_unique, seen_law}
use Rattle.smp_bytes.proofs.Members.{contains_filter, contains-from_filter}

-- one cell -------------------------------------------------------------------------------

-- a cell that is as new as one that is kept is kept
pub kept_newer : (floor : ℕ) (c d : Cell Value) → generation_of c ≤ generation_of d → is_kept floor c ≡ true → is_kept floor d ≡ true
kept_newer floor c d h e = le-leb floor (max 1 (generation_of d)) (omega (arith, h, leb-true floor (max 1 (generation_of c)) e))

-- a cell that is kept is so at each lesser floor
pub kept_lower : (f m : ℕ) (c : Cell Value) → f ≤ m → is_kept m c ≡ true → is_kept f c ≡ true
kept_lower f m c h e = le-leb f (max 1 (generation_of c)) (omega (arith, h, leb-true m (max 1 (generation_of c)) e))

-- floor 0 is floor 1
pub kept_from_one : (floor : ℕ) (c : Cell Value) → is_kept (max 1 floor) c ≡ is_kept floor c
kept_from_one floor c =
    both_ways (is_kept (max 1 floor) c) (is_kept floor c) (kept_lower floor (max 1 floor) c (omega arith))
    (λ e. le-leb (max 1 floor) (max 1 (generation_of c)) (omega (arith, leb-true floor (max 1 (generation_of c)) e)))

-- a join is as new as the newer of the two
generation-join : (c d : Cell Value) → generation_of (join c d) ≡ max (generation_of c) (generation_of d)
generation-join c d =
    let top : Cell Value = Disputed (max (generation_of c) (generation_of d)) in
    omega (
      arith,
      below-le c (join c d) (joined_above_first is_same_value same_value_exact same_value_itself c d),
      below-le d (join c d) (joined_above_second is_same_value same_value_exact same_value_itself c d),
      below-le (join c d) top (joined_least is_same_value same_value_exact same_value_itself c d top (up c (omega arith)) (up d (omega arith))),
    )
  where
    up : (x : Cell Value) → generation_of x ≤ max (generation_of c) (generation_of d) → IsBelow x (Disputed (max (generation_of c) (generation_of d)))
    up x h = elim (cases_lt (generation_of x) (max (generation_of c) (generation_of d))) [ inl l ↦ inl l | inr l ↦ inr (inr (omega arith, tt)) ]

-- a cell that may be missing -------------------------------------------------------------

-- what is kept there was there, and is kept
pub kept_is : (floor : ℕ) (o : Option (Cell Value)) (c : Cell Value) → kept_there floor o ≡ Some c → (o ≡ Some c) × (is_kept floor c ≡ true)
kept_is floor None c e = absurd (cc)
kept_is floor (Some d) c e =
    elim (is_kept floor d) as (λ t. is_kept floor d ≡ t → cond t (Some d) None ≡ Some c → (Some d ≡ Some c) × (is_kept floor c ≡ true)) [
      | true ↦ λ p i. (i, ap (is_kept floor) (sym (the_same d c i)) ∙ p)
      | false ↦ λ p i. absurd (cc)
    ] refl e

-- what is there and kept is kept there
pub is_kept_there : (floor : ℕ) (o : Option (Cell Value)) (c : Cell Value) → o ≡ Some c → is_kept floor c ≡ true → kept_there floor o ≡ Some c
is_kept_there floor o c e k = ap (kept_there floor) e ∙ ap (λ t. cond t (Some c) None) k

-- dropped at a floor, and then at a greater one
kept_twice : (f m : ℕ) (o : Option (Cell Value)) → f ≤ m → kept_there m (kept_there f o) ≡ kept_there m o
kept_twice f m None h = refl
kept_twice f m (Some c) h =
    elim (is_kept f c) as (λ t. is_kept f c ≡ t → kept_there m (cond t (Some c) None) ≡ cond (is_kept m c) (Some c) None) [
      | true ↦ λ p. refl
      | false ↦ λ p. sym (ap (λ t. cond t (Some c) None) (not_kept p))
    ] refl
  where
    not_kept : is_kept f c ≡ false → is_kept m c ≡ false
    not_kept p = both_ways (is_kept m c) false (λ e. sym p ∙ kept_lower f m c h e) (λ e. absurd (cc))

-- an older cell joined to one, where the older one is below a lesser floor
older_joined : (m : ℕ) (c d : Cell Value) → is_kept m c ≡ false → kept_there m (Some (join c d)) ≡ kept_there m (Some d)
older_joined m c d p =
    elim (is_kept m d) as (λ t. is_kept m d ≡ t → kept_there m (Some (join c d)) ≡ cond t (Some d) None) [
      | true ↦ λ q. is_kept_there m (Some (join c d)) d (ap Some (newer_is (older q))) q
      | false ↦ λ q. ap (λ t. cond t (Some (join c d)) None) (neither q)
    ] refl
  where
    older : is_kept m d ≡ true → generation_of c < generation_of d
    older q = elim (cases_lt (generation_of c) (generation_of d)) [ inl l ↦ l | inr l ↦ absurd (cc (kept_newer m d c l q)) ]

    newer_is : generation_of c < generation_of d → join c d ≡ d
    newer_is l =
        below_antisymm (join c d) d (joined_least is_same_value same_value_exact same_value_itself c d d (inl l) (below_itself d))
        (joined_above_second is_same_value same_value_exact same_value_itself c d)

    neither : is_kept m d ≡ false → is_kept m (join c d) ≡ false
    neither q =
        both_ways (is_kept m (join c d)) false (λ e. elim (cases_lt (generation_of c) (generation_of d)) [
          | inl l ↦ sym q ∙ kept_newer m (join c d) d (omega (arith, generation-join c d)) e
          | inr l ↦ sym p ∙ kept_newer m (join c d) c (omega (arith, generation-join c d)) e
        ]) (λ e. absurd (cc))

-- what is below a lesser floor tells nothing
kept_joined : (f m : ℕ) (o p : Option (Cell Value)) → f ≤ m → kept_there m (joined_there (kept_there f o) p) ≡ kept_there m (joined_there o p)
kept_joined f m None p h = refl
kept_joined f m (Some c) p h =
    elim (is_kept f c) as (λ t. is_kept f c ≡ t → kept_there m (joined_there (cond t (Some c) None) p) ≡ kept_there m (joined_there (Some c) p)) [
      | true ↦ λ q. refl
      | false ↦ λ q. without p (not_kept q)
    ] refl
  where
    not_kept : is_kept f c ≡ false → is_kept m c ≡ false
    not_kept q = both_ways (is_kept m c) false (λ e. sym q ∙ kept_lower f m c h e) (λ e. absurd (cc))

    without : (p : Option (Cell Value)) → is_kept m c ≡ false → kept_there m p ≡ kept_there m (joined_there (Some c) p)
    without None q = sym (ap (λ t. cond t (Some c) None) q)
    without (Some d) q = sym (older_joined m c d q)

-- maps -----------------------------------------------------------------------------------

-- a key below all is not found
find_below : (q : Key) (es : List (Key × Cell Value)) → T (below_all key_cmp q es) → find key_cmp q es ≡ None
find_below q [] h = refl
find_below q (e ∷ es) h = ap (λ o. cond (is_eq o) (Some e.1) (find key_cmp q es)) (is_less _ (first_true _ _ h)) ∙ find_below q es (second_true _ _ h)

-- what is found among those kept
find-kept : (floor : ℕ) (q : Key) (es : List (Key × Cell Value)) → T (is_sorted key_cmp es) → find key_cmp q (kept floor es)
    ≡ kept_there floor (find key_cmp q es)
find-kept floor q [] h = refl
find-kept floor q (e ∷ es) h =
    let rest = find-kept floor q es (second_true _ _ h) in
    elim (eq_by_cmp key_cmp q e.0) as (λ t. eq_by_cmp key_cmp q e.0 ≡ t → find key_cmp q (cond (is_kept floor e.1) (e ∷ kept floor es) (kept floor es))
    ≡ kept_there floor (cond t (Some e.1) (find key_cmp q es))) [
      | true ↦ λ p. elim (is_kept floor e.1) as (λ k. find key_cmp q (cond k (e ∷ kept floor es) (kept floor es)) ≡ cond k (Some e.1) None) [
        | true ↦ ap (λ t. cond t (Some e.1) (find key_cmp q (kept floor es))) p
        | false ↦ rest ∙ ap (kept_there floor)
            (find_below q es (subst (λ (k : Key). T (below_all key_cmp k es)) (sym (key_exact q e.0 (equal_from_test _ p))) (first_true _ _ h)))
      ]
      | false ↦ λ p. elim (is_kept floor e.1) as (λ k. find key_cmp q (cond k (e ∷ kept floor es) (kept floor es)) ≡ kept_there floor (find key_cmp q es)) [
        | true ↦ ap (λ t. cond t (Some e.1) (find key_cmp q (kept floor es))) p ∙ rest
        | false ↦ rest
      ]
    ] refl

-- what is left at a key
pub get-dropped : (floor : ℕ) (x : CellMap) (q : Key) → get (dropped floor x) q ≡ kept_there floor (get x q)
get-dropped floor x q =
    get-entries (dropped floor x) q ∙ ap (find key_cmp q) (entries-dropped floor x) ∙ find-kept floor q (entries x) (entries_sorted x)
    ∙ ap (kept_there floor) (sym (get-entries x q))

-- dropped at a floor, and then at a greater one
pub dropped_twice : (f m : ℕ) (x : CellMap) → f ≤ m → dropped m (dropped f x) ≡ dropped m x
dropped_twice f m x h = same_map key_total key_exact (dropped m (dropped f x)) (dropped m x)
    (λ q. get-dropped m (dropped f x) q ∙ ap (kept_there m) (get-dropped f x q) ∙ kept_twice f m (get x q) h ∙ sym (get-dropped m x q))

-- what is below a lesser floor need not be merged
pub dropped_first : (f m : ℕ) (x y : CellMap) → f ≤ m → dropped m (merge_maps (dropped f x) y) ≡ dropped m (merge_maps x y)
dropped_first f m x y h = same_map key_total key_exact (dropped m (merge_maps (dropped f x) y)) (dropped m (merge_maps x y))
    (λ q.
    get-dropped m (merge_maps (dropped f x) y) q
    ∙ ap (kept_there m) (get-merge_maps (dropped f x) y q ∙ ap (λ o. joined_there o (get y q)) (get-dropped f x q))
    ∙ kept_joined f m (get x q) (get y q) h
    ∙ ap (kept_there m) (sym (get-merge_maps x y q))
    ∙ sym (get-dropped m (merge_maps x y) q))

-- from neither side
pub dropped_both : (f h m : ℕ) (x y : CellMap) → f ≤ m → h ≤ m → dropped m (merge_maps (dropped f x) (dropped h y)) ≡ dropped m (merge_maps x y)
dropped_both f h m x y l k =
    dropped_first f m x (dropped h y) l ∙ ap (dropped m) (merge_maps_is_commutative x (dropped h y)) ∙ dropped_first h m y x k
    ∙ ap (dropped m) (merge_maps_is_commutative y x)

-- where all is kept, nothing is dropped
pub dropped_none : (floor : ℕ) (x : CellMap) → kept floor (entries x) ≡ entries x → dropped floor x ≡ x
dropped_none floor x e = same_entries_map (dropped floor x) x (entries-dropped floor x ∙ e)

-- what those sightings say that are kept -----------------------------------------------------

module _ (f : ℕ) (q : Key) (s : List (Key × Cell Value)) where
  -- a sighting that is kept was there
  kept_sighted : (c : Cell Value) → WasSighted q (kept f s) c → WasSighted q s c × (is_kept f c ≡ true)
  kept_sighted c h = contains-from_filter (λ x. is_kept f x.1) s (q, c) h

  -- one that was there and is kept
  sighted_kept : (c : Cell Value) → WasSighted q s c → is_kept f c ≡ true → WasSighted q (kept f s) c
  sighted_kept c h k = contains_filter (λ x. is_kept f x.1) s (q, c) h k

  -- the newest is that of those kept, where it is kept
  newest_kept : (c : Cell Value) → IsNewest q s (generation_of c) → is_kept f c ≡ true → IsNewest q (kept f s) (generation_of c)
  newest_kept c n k =
      record {
        sighted = (n.sighted.0, sighted_kept n.sighted.0 n.sighted.1 (kept_newer f c n.sighted.0 (omega (arith, n.sighted.2)) k), n.sighted.2);
        greatest = λ d h. n.greatest d (kept_sighted d h).0;
      }

  -- what the newest say is what those kept say
  cell_kept : (c : Cell Value) → IsCellIn q s c → is_kept f c ≡ true → IsCellIn q (kept f s) c
  cell_kept (Known g v) i k = (newest_kept (Known g v) i.0 k, λ c h e. i.1 c (kept_sighted c h).0 e)
  cell_kept (Disputed g) i k =
      (newest_kept (Disputed g) i.0 k, λ v all. i.1 v (λ c h e. all c (sighted_kept c h (kept_newer f (Disputed g) c (omega (arith, e)) k)) e))

  -- so at a key those kept say what is kept
  law_kept : (o : Option (Cell Value)) → MatchOption o ((c : Cell Value) → WasSighted q s c → ⊥) (IsCellIn q s)
      → MatchOption (kept_there f o) ((c : Cell Value) → WasSighted q (kept f s) c → ⊥) (IsCellIn q (kept f s))
  law_kept None n = λ c h. n c (kept_sighted c h).0
  law_kept (Some c) i =
      elim (is_kept f c) as (λ t. is_kept f c ≡ t → MatchOption (cond t (Some c) None) ((d : Cell Value) → WasSighted q (kept f s) d
      → ⊥) (IsCellIn q (kept f s))) [
        | true ↦ λ p. cell_kept c i p
        | false ↦ λ p d h. let k = kept_sighted d h in cc (p, kept_newer f d c ((newest_in q s c i).greatest d k.0) k.1)
      ] refl

-- the map without what is below the floor is that of the sightings that are not
pub seen_kept : (f : ℕ) (s : List (Key × Cell Value)) → dropped f (seen s) ≡ seen (kept f s)
seen_kept f s =
    seen_is_unique (kept f s) (dropped f (seen s)) (seen (kept f s))
    (record {
      cells =
          λ q. subst (λ (o : Option (Cell Value)). MatchOption o ((c : Cell Value) → WasSighted q (kept f s) c → ⊥) (IsCellIn q (kept f s)))
          (sym (get-dropped f (seen s) q)) (law_kept f q s (get (seen s) q) ((seen_law s).cells q));
    })
    (seen_law (kept f s))

-- those above a floor are those above 1 at least
pub kept_at_one : (floor : ℕ) (s : List (Key × Cell Value)) → kept (max 1 floor) s ≡ kept floor s
kept_at_one floor [] = refl
kept_at_one floor (e ∷ s) = ap (λ t. cond t (e ∷ kept (max 1 floor) s) (kept (max 1 floor) s)) (kept_from_one floor e.1)
    ∙ ap (λ (r : List (Key × Cell Value)). cond (is_kept floor e.1) (e ∷ r) r) (kept_at_one floor s)
