-- The map has its law, is the only map that has it, and is the map of its own entries.
use Rattle.std.proofs.Common.{◌≡◌, ◌≤◌, ◌<◌, ℕ, List, [], ◌∷◌, inl, inr, ◌⊎◌, refl, sym, ap, ◌∙◌, subst, arith, true, false, ◌==◌}
use Rattle.std.proofs.lemmas.Bool.{eqb-true}
use Rattle.std.specs.Prelude.{Option, None, Some, MatchOption, Contains, filter}
use Rattle.std.specs.FinMap.{get, entries, same_map}
use Rattle.fact_join.specs.declared.cell.Cell.{Cell}
use Rattle.fact_join.specs.declared.cell.Cell.TheVariants.{Known, Disputed}
use Rattle.fact_join.specs.Cell.{generation_of, IsBelow}
use Rattle.fact_join.specs.Join.{below_itself}
use Rattle.reply_facts.specs.declared.key.Key.{Key}
use Rattle.reply_facts.specs.declared.value.Value.{Value}
use Rattle.fact_store.specs.Seen.{cells_sighted, newest_of, agreement, cell_at, seen, WasSighted, IsNewest, AllSay, IsCellIn, CellMap, IsSeen}
use Rattle.reply_facts.proofs.Keys.{key_total, key_exact}
use Rattle.smp_bytes.proofs.Members.{contains_here, contains_none}
use Rattle.fact_store.proofs.MapMerges.{maps_antisymm}
use Rattle.fact_store.proofs.Orders.{get_contained, contained_get}
use Rattle.fact_store.proofs.Seen.{AreAt, is_at, filtered_at, generation-agreement, known_is, newest_above, newest_there, newest_kept, summary, summary_above, summary_least, sighted_in_cells, sighted_from_cells, never_sighted, sighted, at_key, seen_above, seen_least}

-- what the cells of a key say is of their newest generation ------------------------

-- what cells of a generation say is of that generation
agreed_generation : (g : ℕ) (cells at : List (Cell Value)) → at ≡ filter (is_at g) cells → (w : Cell Value) → Contains at w → generation_of (agreement g at) ≡ g
unfolding AreAt
agreed_generation g cells [] e w k = absurd (contains_none w k)
agreed_generation g cells (a ∷ rest) e w k = generation-agreement g a rest (filtered_at g cells (a ∷ rest) e a (contains_here a rest))

-- what cells say is of their newest generation
generation-summary : (cells : List (Cell Value)) (w : Cell Value) → Contains cells w → generation_of (summary cells) ≡ newest_of cells
generation-summary cells w h =
    let k = newest_kept cells w h in
    agreed_generation (newest_of cells) cells (filter (is_at (newest_of cells)) cells) refl k.0 k.1

-- some cell has the newest generation
newest_cell : (cells : List (Cell Value)) (w : Cell Value) → Contains cells w → (c : Cell Value) × Contains cells c × (generation_of c ≡ newest_of cells)
newest_cell [] w h = absurd (contains_none w h)
newest_cell (a ∷ cells) w h = newest_there a cells

-- the generation of what a key has is its newest
is_newest : (q : Key) (s : List (Key × Cell Value)) (w : Cell Value) → Contains (cells_sighted q s) w → IsNewest q s (generation_of (cell_at q s))
is_newest q s w h =
    let e = generation-summary (cells_sighted q s) w h in
    let n = newest_cell (cells_sighted q s) w h in
    record {
      sighted = (n.0, sighted_from_cells q s n.0 n.1, n.2 ∙ sym e);
      greatest = λ c k. omega (arith, e, newest_above (cells_sighted q s) c (sighted_in_cells q s c k));
    }

-- the law --------------------------------------------------------------------------

-- what is at most a number is below it or that number
older_or_alike : (m n : ℕ) → m ≤ n → (m < n) ⊎ (m ≡ n)
older_or_alike m n h =
    elim (m == n) as (λ t. (m == n) ≡ t → (m < n) ⊎ (m ≡ n)) [
      | true ↦ λ p. inr (eqb-true m n p)
      | false ↦ λ p. inl (omega (arith, apart m n p))
    ] refl
  where
    apart : (m n : ℕ) → (m == n) ≡ false → m ≡ n → ⊥
    apart m n p e = cc (Rattle.std.proofs.lemmas.Bool.eq-eqb m n e)

-- what the newest sightings say is the law of the map
cell_is_in : (q : Key) (s : List (Key × Cell Value)) (w : Cell Value) → Contains (cells_sighted q s) w → (z : Cell Value) → cell_at q s ≡ z → IsCellIn q s z
cell_is_in q s w h (Known g v) e =
    let n : IsNewest q s g = subst (λ (x : Cell Value). IsNewest q s (generation_of x)) e (is_newest q s w h) in (
      n,
      λ c k i. known_is g v c (Known g v) i refl (subst (λ (x : Cell Value). IsBelow c x) e (summary_above (cells_sighted q s) c (sighted_in_cells q s c k))),
    )
cell_is_in q s w h (Disputed g) e =
    let n : IsNewest q s g = subst (λ (x : Cell Value). IsNewest q s (generation_of x)) e (is_newest q s w h) in (
      n,
      λ v all. not_below g v (subst (λ (x : Cell Value). IsBelow x (Known g v)) e (summary_least (cells_sighted q s) w (Known g v) h (λ c k.
          let sight = sighted_from_cells q s c k in
          elim (older_or_alike (generation_of c) g (n.greatest c sight)) [ inl older ↦ inl older | inr alike ↦ inr (inl (all c sight alike)) ]))),
    )
  where
    not_below : (g : ℕ) (v : Value) → IsBelow (Disputed g) (Known g v) → ⊥
    not_below g v (inl h) = omega arith
    not_below g v (inr (inl h)) = cc
    not_below g v (inr (inr h)) = h.1

-- the map has its law
pub seen_law : (s : List (Key × Cell Value)) → IsSeen s (seen s)
seen_law s =
    record {
      cells = λ q.
          let there : Option (Cell Value) → Type 0 = λ o. MatchOption o ((c : Cell Value) → WasSighted q s c → ⊥) (IsCellIn q s) in
          elim (at_key s q) [
            | never_sighted e n ↦ subst there (sym e) (λ c k. contains_none c (subst (λ (xs : List (Cell Value)). Contains xs c) n (sighted_in_cells q s c k)))
            | sighted e w k ↦ subst there (sym e) (cell_is_in q s w k (cell_at q s) refl)
          ];
    }

-- no other map has it --------------------------------------------------------------

-- there is one newest generation
same_generation : (q : Key) (s : List (Key × Cell Value)) (g h : ℕ) → IsNewest q s g → IsNewest q s h → g ≡ h
same_generation q s g h a b = omega (arith, a.sighted.2, b.sighted.2, b.greatest a.sighted.0 a.sighted.1, a.greatest b.sighted.0 b.sighted.1)

-- the law leaves one cell
same_cell : (q : Key) (s : List (Key × Cell Value)) (c d : Cell Value) → IsCellIn q s c → IsCellIn q s d → c ≡ d
same_cell q s (Known g v) (Known h w) a b =
    let e = same_generation q s g h a.0 b.0 in
    let x = a.0.sighted in
    sym (a.1 x.0 x.1 x.2) ∙ b.1 x.0 x.1 (x.2 ∙ e)
same_cell q s (Known g v) (Disputed h) a b =
    let e = same_generation q s g h a.0 b.0 in absurd (b.1 v (subst (λ (n : ℕ). AllSay q s n v) e a.1))
same_cell q s (Disputed g) (Known h w) a b =
    let e = same_generation q s h g b.0 a.0 in absurd (a.1 w (subst (λ (n : ℕ). AllSay q s n w) e b.1))
same_cell q s (Disputed g) (Disputed h) a b = ap Disputed (same_generation q s g h a.0 b.0)

-- what the law allows has the newest generation
pub newest_in : (q : Key) (s : List (Key × Cell Value)) (c : Cell Value) → IsCellIn q s c → IsNewest q s (generation_of c)
newest_in q s (Known g v) a = a.0
newest_in q s (Disputed g) a = a.0

-- the law leaves one answer at a key
same_there : (q : Key) (s : List (Key × Cell Value)) (o p : Option (Cell Value)) → MatchOption o ((c : Cell Value) → WasSighted q s c → ⊥) (IsCellIn q s)
    → MatchOption p ((c : Cell Value) → WasSighted q s c → ⊥) (IsCellIn q s) → o ≡ p
same_there q s None None a b = refl
same_there q s None (Some d) a b = let n = (newest_in q s d b).sighted in absurd (a n.0 n.1)
same_there q s (Some c) None a b = let n = (newest_in q s c a).sighted in absurd (b n.0 n.1)
same_there q s (Some c) (Some d) a b = ap Some (same_cell q s c d a b)

-- so it leaves one map
pub seen_is_unique : (s : List (Key × Cell Value)) (x y : CellMap) → IsSeen s x → IsSeen s y → x ≡ y
seen_is_unique s x y a b = same_map key_total key_exact x y (λ q. same_there q s (get x q) (get y q) (a.cells q) (b.cells q))

-- a map and its entries -------------------------------------------------------------

-- facts are the map of their entries
pub seen_of_its_cells : (x : CellMap) → seen (entries x) ≡ x
seen_of_its_cells x =
    maps_antisymm (seen (entries x)) x (seen_least (entries x) x (λ q c h. (c, contained_get x q c h, below_itself c)))
    (λ q c e. seen_above (entries x) q c (get_contained x q c e))
