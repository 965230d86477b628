-- The map of sightings is the least above all of them, and so depends on membership alone. The map of two lists
-- together is the merge of their maps.
use Rattle.std.proofs.Common.{◌≡◌, ◌≤◌, ◌<◌, ℕ, List, [], ◌∷◌, ◌++◌, ◌⊎◌, inl, inr, refl, sym, ap, ◌∙◌, subst, arith, Bool, true, false, cond, ◌==◌, ◌||◌, map}
use Rattle.std.proofs.lemmas.Bool.{eqb-true, eq-eqb, ltb-true, ltb-false}
use Rattle.std.proofs.lemmas.List.Elements.{Contains-append_left, Contains-append_right, Contains-append_cases}
use Rattle.std.specs.Prelude.{nat_lt, None, Some, Contains, filter}
use Rattle.std.specs.List.{list_all, list_any}
use Rattle.std.specs.Cmp.{tied_itself}
use Rattle.std.specs.Ordering.{is_eq}
use Rattle.std.specs.FinMap.{find, get, get-from_entries}
use Rattle.fact_join.specs.declared.cell.Cell.{Cell}
use Rattle.fact_join.specs.declared.cell.Cell.TheVariants.{Known, Disputed}
use Rattle.fact_join.specs.Cell.{generation_of, IsDisputed, IsBelow}
use Rattle.fact_join.specs.Join.{below_trans}
use Rattle.reply_facts.specs.declared.key.Key.{Key}
use Rattle.reply_facts.specs.declared.value.Value.{Value}
use Rattle.reply_facts.specs.Key.{key_cmp}
use Rattle.reply_facts.specs.Value.{is_same_cell}
use Rattle.fact_store.specs.Seen.{CellMap, is_of, cells_sighted, newest_of, agreement, cell_at, seen, HaveSameMembers}
use Rattle.fact_store.specs.Merge.{merge_maps}
use Rattle.reply_facts.proofs.Keys.{key_total, key_exact, equal_from_test}
use Rattle.smp_bytes.proofs.Members.{contains_here, contains_later, contains_cases, contains_none, contains_filter, contains-from_filter, list_all_true, list_all_at}
use Rattle.fact_store.proofs.MapMerges.{IsBelowMap, the_same, maps_antisymm, merge_maps_law}
use Rattle.reply_facts.specs.Values.{same_cell_exact, same_cell_itself}

-- cells of one generation ----------------------------------------------------------

-- all cells are of this generation
unfoldable pub AreAt : ℕ → List (Cell Value) → Type 0
AreAt g cells = (c : Cell Value) → Contains cells c → generation_of c ≡ g

-- what cells of a generation say is of that generation
pub generation-agreement : (g : ℕ) (a : Cell Value) (cells : List (Cell Value)) → generation_of a ≡ g → generation_of (agreement g (a ∷ cells)) ≡ g
generation-agreement g a cells e = elim (list_all (is_same_cell a) cells) as (λ t. generation_of (cond t a (Disputed g)) ≡ g) [ true ↦ e | false ↦ refl ]

-- what they say is above each of them
agreement_above : (g : ℕ) (a : Cell Value) (cells : List (Cell Value)) → AreAt g (a ∷ cells) → (c : Cell Value) → Contains (a ∷ cells) c
    → IsBelow c (agreement g (a ∷ cells))
unfolding AreAt
agreement_above g a cells at c h =
    elim (list_all (is_same_cell a) cells) as (λ t. list_all (is_same_cell a) cells ≡ t → IsBelow c (cond t a (Disputed g))) [
      | true ↦ λ p. (elim (contains_cases a c cells h) [
        | inl e ↦ inr (inl (sym e))
        | inr k ↦ inr (inl (sym (same_cell_exact a c (list_all_at (is_same_cell a) cells p c k))))
      ])
      | false ↦ λ p. inr (inr (at c h, tt))
    ] refl

-- a known cell that is not newer than z is z, where z is above it and of its generation
pub known_is : (g : ℕ) (v : Value) (c z : Cell Value) → generation_of c ≡ g → z ≡ Known g v → IsBelow c z → c ≡ z
known_is g v c z e k (inl h) = absurd (omega (arith, ap generation_of k))
known_is g v c z e k (inr (inl h)) = h
known_is g v c z e k (inr (inr h)) = absurd (subst (λ (x : Cell Value). IsDisputed x) k h.1)

-- where a value is above all, they say that value
agreement_least_known : (g : ℕ) (v : Value) (a : Cell Value) (cells : List (Cell Value)) (z : Cell Value) → AreAt g (a ∷ cells) → z ≡ Known g v
    → ((c : Cell Value) → Contains (a ∷ cells) c → IsBelow c z) → agreement g (a ∷ cells) ≡ z
unfolding AreAt
agreement_least_known g v a cells z at k f =
    let is_z : (c : Cell Value) → Contains (a ∷ cells) c → c ≡ z = λ c h. known_is g v c z (at c h) k (f c h) in
    let a_is : a ≡ z = is_z a (contains_here a cells) in
    let all : list_all (is_same_cell a) cells ≡ true =
    list_all_true (is_same_cell a) cells (λ c h. ap (is_same_cell a) (is_z c (contains_later a c cells h) ∙ sym a_is) ∙ same_cell_itself a) in
    ap (λ t. cond t a (Disputed g)) all ∙ a_is

-- what they say is below all that is above them
agreement_least : (g : ℕ) (a : Cell Value) (cells : List (Cell Value)) (z : Cell Value) → AreAt g (a ∷ cells)
    → ((c : Cell Value) → Contains (a ∷ cells) c → IsBelow c z) → IsBelow (agreement g (a ∷ cells)) z
unfolding AreAt
agreement_least g a cells z at f =
    let ga : generation_of a ≡ g = at a (contains_here a cells) in
    let gr = generation-agreement g a cells ga in
    elim (f a (contains_here a cells)) [
      | inl h ↦ inl (omega arith)
      | inr (inr h) ↦ inr (inr (gr ∙ sym ga ∙ h.0, h.1))
      | inr (inl e) ↦ (elim z as (λ y. z ≡ y → IsBelow (agreement g (a ∷ cells)) z) [
        | Known m v ↦ λ k.
            inr (inl (agreement_least_known g v a cells z at (k ∙ ap (λ n. Known n v) (sym (ap generation_of k) ∙ sym (ap generation_of e) ∙ ga)) f))
        | Disputed m ↦ λ k. inr (inr (gr ∙ sym ga ∙ ap generation_of e, subst (λ (x : Cell Value). IsDisputed x) (sym k) tt))
      ] refl)
    ]

-- cells of any generation ------------------------------------------------------------

-- what cells say together
abbrev pub summary : List (Cell Value) → Cell Value
summary cells = agreement (newest_of cells) (filter (λ c. generation_of c == newest_of cells) cells)

-- no cell is newer than the newest
pub newest_above : (cells : List (Cell Value)) (c : Cell Value) → Contains cells c → generation_of c ≤ newest_of cells
newest_above [] c h = absurd (contains_none c h)
newest_above (a ∷ cells) c h =
    elim (contains_cases a c cells h) [
      | inl e ↦ omega (arith, ap generation_of e)
      | inr k ↦ omega (arith, newest_above cells c k)
    ]

-- of two numbers one is at most the other
le_cases : (m n : ℕ) → (n ≤ m) ⊎ (m ≤ n)
le_cases m n = elim (nat_lt m n) as (λ t. nat_lt m n ≡ t → (n ≤ m)
    ⊎ (m ≤ n)) [ true ↦ λ p. inr (omega (arith, ltb-true m n p)) | false ↦ λ p. inl (ltb-false m n p) ] refl

-- some cell has the newest generation
pub newest_there : (a : Cell Value) (cells : List (Cell Value)) → (c : Cell Value) × Contains (a ∷ cells) c × (generation_of c ≡ newest_of (a ∷ cells))
newest_there a [] = (a, contains_here a [], omega arith)
newest_there a (b ∷ cells) =
    let i = newest_there b cells in
    elim (le_cases (generation_of a) (newest_of (b ∷ cells))) [
      | inl h ↦ (a, contains_here a (b ∷ cells), omega arith)
      | inr h ↦ (i.0, contains_later a i.0 (b ∷ cells) i.1, omega (arith, i.2))
    ]

-- whether a cell is of this generation
abbrev pub is_at : ℕ → Cell Value → Bool
is_at g c = generation_of c == g

-- cells that were kept for their generation have it
pub filtered_at : (g : ℕ) (cells at : List (Cell Value)) → at ≡ filter (is_at g) cells → AreAt g at
unfolding AreAt
filtered_at g cells at e c h = eqb-true _ _ (contains-from_filter (is_at g) cells c (subst (λ (xs : List (Cell Value)). Contains xs c) e h)).1

-- a cell of another generation is older
not_at : (g : ℕ) (c : Cell Value) → generation_of c ≤ g → (generation_of c == g) ≡ false → generation_of c < g
not_at g c h e =
    elim (nat_lt (generation_of c) g) as (λ t. nat_lt (generation_of c) g ≡ t → generation_of c < g) [
      | true ↦ λ p. ltb-true _ _ p
      | false ↦ λ p. let k : generation_of c ≡ g = omega (arith, ltb-false _ _ p) in absurd (cc (eq-eqb (generation_of c) g k))
    ] refl

-- what the newest cells say is above every cell
agreed_above : (g : ℕ) (cells at : List (Cell Value)) → at ≡ filter (is_at g) cells → (w : Cell Value) → Contains at w → (c : Cell Value) → Contains cells c
    → generation_of c ≤ g → IsBelow c (agreement g at)
unfolding AreAt
agreed_above g cells [] e w k c h l = absurd (contains_none w k)
agreed_above g cells (a ∷ rest) e w k c h l =
    let at = filtered_at g cells (a ∷ rest) e in
    let gr = generation-agreement g a rest (at a (contains_here a rest)) in
    elim (generation_of c == g) as (λ t. (generation_of c == g) ≡ t → IsBelow c (agreement g (a ∷ rest))) [
      | true ↦ λ p. agreement_above g a rest at c (subst (λ (xs : List (Cell Value)). Contains xs c) (sym e) (contains_filter (is_at g) cells c h p))
      | false ↦ λ p. inl (omega (arith, gr, not_at g c l p))
    ] refl

-- and below all that is above every cell
agreed_least : (g : ℕ) (cells at : List (Cell Value)) → at ≡ filter (is_at g) cells → (w : Cell Value) → Contains at w → (z : Cell Value)
    → ((c : Cell Value) → Contains cells c → IsBelow c z) → IsBelow (agreement g at) z
agreed_least g cells [] e w k z f = absurd (contains_none w k)
agreed_least g cells (a ∷ rest) e w k z f =
    agreement_least g a rest z (filtered_at g cells (a ∷ rest) e)
    (λ c h. f c (contains-from_filter (is_at g) cells c (subst (λ (xs : List (Cell Value)). Contains xs c) e h)).0)

-- some cell of the newest generation
pub newest_kept : (cells : List (Cell Value)) (c : Cell Value) → Contains cells c → (w : Cell Value) × Contains (filter (is_at (newest_of cells)) cells) w
newest_kept [] c h = absurd (contains_none c h)
newest_kept (a ∷ cells) c h =
    let n = newest_there a cells in
    (n.0, contains_filter (is_at (newest_of (a ∷ cells))) (a ∷ cells) n.0 n.1 (eq-eqb _ _ n.2))

-- what cells say is above each of them
pub summary_above : (cells : List (Cell Value)) (c : Cell Value) → Contains cells c → IsBelow c (summary cells)
summary_above cells c h =
    let w = newest_kept cells c h in
    agreed_above (newest_of cells) cells (filter (is_at (newest_of cells)) cells) refl w.0 w.1 c h (newest_above cells c h)

-- and below all that is above them
pub summary_least : (cells : List (Cell Value)) (w z : Cell Value) → Contains cells w → ((c : Cell Value) → Contains cells c → IsBelow c z)
    → IsBelow (summary cells) z
summary_least cells w z h f =
    let k = newest_kept cells w h in
    agreed_least (newest_of cells) cells (filter (is_at (newest_of cells)) cells) refl k.0 k.1 z f

-- the map at a key ------------------------------------------------------------------

-- a key ties with itself
pub is_of_itself : (q : Key) (c : Cell Value) → is_of q (q, c) ≡ true
is_of_itself q c = ap is_eq (tied_itself key_total q)

-- a sighting of the key is among its cells
pub sighted_in_cells : (q : Key) (s : List (Key × Cell Value)) (c : Cell Value) → Contains s (q, c) → Contains (cells_sighted q s) c
sighted_in_cells q [] c h = absurd (contains_none (q, c) h)
sighted_in_cells q (x ∷ s) c h =
    elim (is_of q x) as (λ t. is_of q x ≡ t → Contains (map (λ y. y.1) (cond t (x ∷ filter (is_of q) s) (filter (is_of q) s))) c) [
      | true ↦ λ p. (elim (contains_cases x (q, c) s h) [
        | inl e ↦ subst (λ (z : Cell Value). Contains (z ∷ cells_sighted q s) c) (sym (ap (λ y. y.1) e)) (contains_here c (cells_sighted q s))
        | inr k ↦ contains_later x.1 c (cells_sighted q s) (sighted_in_cells q s c k)
      ])
      | false ↦ λ p. (elim (contains_cases x (q, c) s h) [
        | inl e ↦ absurd (cc (ap (is_of q) e, is_of_itself q c))
        | inr k ↦ sighted_in_cells q s c k
      ])
    ] refl

-- a sighting is told by its key and its cell
pub pair_is : (q : Key) (x : Key × Cell Value) (c : Cell Value) → is_of q x ≡ true → x.1 ≡ c → x ≡ (q, c)
pair_is q x c p e = let k : q ≡ x.0 = key_exact q x.0 (equal_from_test _ p) in λ i. (sym k i, e i)

-- a cell of the key was sighted
pub sighted_from_cells : (q : Key) (s : List (Key × Cell Value)) (c : Cell Value) → Contains (cells_sighted q s) c → Contains s (q, c)
sighted_from_cells q [] c h = absurd (contains_none c h)
sighted_from_cells q (x ∷ s) c h =
    elim (is_of q x) as (λ t. is_of q x ≡ t → Contains (map (λ y. y.1) (cond t (x ∷ filter (is_of q) s) (filter (is_of q) s))) c → Contains (x ∷ s) (q, c)) [
      | true ↦ λ p k. (elim (contains_cases x.1 c (cells_sighted q s) k) [
        | inl e ↦ subst (λ (z : Key × Cell Value). Contains (z ∷ s) (q, c)) (sym (pair_is q x c p e)) (contains_here (q, c) s)
        | inr r ↦ contains_later x (q, c) s (sighted_from_cells q s c r)
      ])
      | false ↦ λ p k. contains_later x (q, c) s (sighted_from_cells q s c k)
    ] refl h

-- what is found among cells made by a function of the key
find-cells : (f : Key → Cell Value) (xs : List (Key × Cell Value)) (q : Key) → find key_cmp q (map (λ x. (x.0, f x.0)) xs)
    ≡ cond (list_any (is_of q) xs) (Some (f q)) None
find-cells f [] q = refl
find-cells f (x ∷ xs) q =
    elim (is_of q x) as (λ t. is_of q x ≡ t → cond t (Some (f x.0)) (find key_cmp q (map (λ y. (y.0, f y.0)) xs))
    ≡ cond (t || list_any (is_of q) xs) (Some (f q)) None) [
      | true ↦ λ p. ap (λ k. Some (f k)) (sym (key_exact q x.0 (equal_from_test _ p)))
      | false ↦ λ p. find-cells f xs q
    ] refl

-- a key was never sighted, or has some cell
some_or_none : (q : Key) (s : List (Key × Cell Value)) → ((list_any (is_of q) s ≡ false) × (cells_sighted q s ≡ []))
    ⊎ ((list_any (is_of q) s ≡ true) × ((c : Cell Value) × Contains (cells_sighted q s) c))
some_or_none q [] = inl (refl, refl)
some_or_none q (x ∷ s) =
    elim (is_of q x) as (λ t. (((t || list_any (is_of q) s) ≡ false) × (map (λ y. y.1) (cond t (x ∷ filter (is_of q) s) (filter (is_of q) s)) ≡ []))
    ⊎ (((t || list_any (is_of q) s) ≡ true) × ((c : Cell Value) × Contains (map (λ y. y.1) (cond t (x ∷ filter (is_of q) s) (filter (is_of q) s))) c))) [
      | true ↦ inr (refl, (x.1, contains_here x.1 (cells_sighted q s)))
      | false ↦ some_or_none q s
    ]

-- what a map has at a key
pub get-seen : (s : List (Key × Cell Value)) (q : Key) → get (seen s) q ≡ cond (list_any (is_of q) s) (Some (cell_at q s)) None
get-seen s q = get-from_entries key_total (map (λ x. (x.0, cell_at x.0 s)) s) q ∙ find-cells (λ k. cell_at k s) s q

-- a key is in the map where it was sighted, with what its cells say together
pub data AtKey (s : List (Key × Cell Value)) (q : Key) : Type 0 where
  never_sighted : get (seen s) q ≡ None → cells_sighted q s ≡ [] → AtKey s q
  sighted : get (seen s) q ≡ Some (cell_at q s) → (w : Cell Value) → Contains (cells_sighted q s) w → AtKey s q

-- one of the two holds
pub at_key : (s : List (Key × Cell Value)) (q : Key) → AtKey s q
at_key s q =
    elim (some_or_none q s) [
      | inl h ↦ never_sighted (get-seen s q ∙ ap (λ t. cond t (Some (cell_at q s)) None) h.0) h.1
      | inr h ↦ sighted (get-seen s q ∙ ap (λ t. cond t (Some (cell_at q s)) None) h.0) h.1.0 h.1.1
    ]

-- the map is above each sighting
pub seen_above : (s : List (Key × Cell Value)) (q : Key) (c : Cell Value) → Contains s (q, c) → (d : Cell Value) × (get (seen s) q ≡ Some d) × IsBelow c d
seen_above s q c h =
    elim (at_key s q) [
      | never_sighted e n ↦ absurd (contains_none c (subst (λ (xs : List (Cell Value)). Contains xs c) n (sighted_in_cells q s c h)))
      | sighted e w k ↦ (cell_at q s, e, summary_above (cells_sighted q s) c (sighted_in_cells q s c h))
    ]

-- and below all that is
pub seen_least : (s : List (Key × Cell Value)) (z : CellMap) → ((q : Key) (c : Cell Value) → Contains s (q, c) → (d : Cell Value) × (get z q ≡ Some d)
    × IsBelow c d) → IsBelowMap (seen s) z
seen_least s z f q c e =
    elim (at_key s q) [
      | never_sighted n m ↦ absurd (cc)
      | sighted p w k ↦
          let x = f q w (sighted_from_cells q s w k) in (
            x.0,
            x.1,
            subst (λ (y : Cell Value). IsBelow y x.0) (the_same (cell_at q s) c (sym p ∙ e))
                (summary_least (cells_sighted q s) w x.0 k (λ c' h. let y = f q c' (sighted_from_cells q s c' h) in
                subst (λ (v : Cell Value). IsBelow c' v) (the_same y.0 x.0 (sym y.1 ∙ x.1)) y.2)),
          )
    ]

-- the laws -----------------------------------------------------------------------------

-- lists with the same members have the same map
pub members_decide_seen : (s t : List (Key × Cell Value)) → HaveSameMembers s t → seen s ≡ seen t
members_decide_seen s t same =
    maps_antisymm (seen s) (seen t)
    (seen_least s (seen t) (λ q c h. seen_above t q c (same.0 (q, c) h)))
    (seen_least t (seen s) (λ q c h. seen_above s q c (same.1 (q, c) h)))

-- what is below a cell of the first is below one of the second
lifted : (x y : CellMap) (q : Key) (c : Cell Value) → IsBelowMap x y → (d : Cell Value) × (get x q ≡ Some d) × IsBelow c d → (d : Cell Value)
    × (get y q ≡ Some d) × IsBelow c d
lifted x y q c f a = let b = f q a.0 a.1 in (b.0, b.1, below_trans c a.0 b.0 a.2 b.2)

-- the map of both lists is the merge of theirs
pub seen_of_both : (s t : List (Key × Cell Value)) → seen (s ++ t) ≡ merge_maps (seen s) (seen t)
seen_of_both s t =
    let m = merge_maps_law (seen s) (seen t) in
    maps_antisymm (seen (s ++ t)) (merge_maps (seen s) (seen t))
    (seen_least (s ++ t) (merge_maps (seen s) (seen t)) (λ q c h.
    elim (Contains-append_cases s t (q, c) h) [
      | inl k ↦ lifted (seen s) (merge_maps (seen s) (seen t)) q c m.above_first (seen_above s q c k)
      | inr k ↦ lifted (seen t) (merge_maps (seen s) (seen t)) q c m.above_second (seen_above t q c k)
    ]))
    (m.least (seen (s ++ t))
    (seen_least s (seen (s ++ t)) (λ q c h. seen_above (s ++ t) q c (Contains-append_left s t (q, c) h)))
    (seen_least t (seen (s ++ t)) (λ q c h. seen_above (s ++ t) q c (Contains-append_right s t (q, c) h))))
