-- What a list of sightings tells of its map: its cells, its keys, its ranges and its newest generation.
use Rattle.std.proofs.Common.{◌≡◌, ◌≤◌, ℕ, List, [], ◌∷◌, ◌++◌, inl, inr, refl, sym, ap, ◌∙◌, subst, arith, true, false, cond, ◌&&◌, ◌||◌, map}
use Rattle.std.proofs.lemmas.List.Elements.{Contains-append_left, Contains-append_right, Contains-append_cases}
use Rattle.std.proofs.lemmas.Bool.{and_parts, eq-eqb}
use Rattle.std.specs.Prelude.{Option, None, Some, MatchOption, Contains, max}
use Rattle.std.specs.FinMap.{get}
use Rattle.fact_join.specs.declared.cell.Cell.{Cell}
use Rattle.fact_join.specs.declared.cell.Cell.TheVariants.{Known, Disputed}
use Rattle.fact_join.specs.Cell.{generation_of}
use Rattle.fact_join.specs.Join.{below-le}
use Rattle.reply_facts.specs.declared.key.Key.{Key}
use Rattle.reply_facts.specs.declared.value.Value.{Value}
use Rattle.reply_facts.specs.Sighting.{IsSighting, is_cell_of, is_generation, is_key}
use Rattle.fact_store.specs.Seen.{CellMap, is_of, cell_at, seen, WasSighted, IsNewest, IsCellIn}
use Rattle.fact_store.specs.View.{Facts, IsNewestGeneration}
use Rattle.smp_bytes.proofs.Members.{contains_here, contains_cases, contains_none}
use Rattle.fact_store.proofs.MapMerges.{joined_there, get-merge_maps}
use Rattle.fact_store.proofs.SeenLaws.{seen_law, newest_in}
use Rattle.fact_store.proofs.Seen.{summary, get-seen, seen_above, seen_of_both}

-- the map at a key, one sighting at a time ------------------------------------------------

-- one cell alone says what it says
one_cell : (c : Cell Value) → summary (c ∷ []) ≡ c
one_cell c =
    let g : max (generation_of c) 0 ≡ generation_of c = omega arith in
    ap (λ t. Rattle.fact_store.specs.Seen.agreement (max (generation_of c) 0) (cond t (c ∷ []) [])) (eq-eqb _ _ (sym g))

-- one sighting alone gives its key its cell
pub get-seen_of_one : (x : Key × Cell Value) (q : Key) → get (seen (x ∷ [])) q ≡ cond (is_of q x) (Some x.1) None
get-seen_of_one x q =
    get-seen (x ∷ []) q
    ∙ elim (is_of q x) as (λ t. is_of q x ≡ t → cond (t || false) (Some (cell_at q (x ∷ []))) None ≡ cond t (Some x.1) None) [
      | true ↦ λ p. ap Some (ap (λ t. summary (map (λ y. y.1) (cond t (x ∷ []) []))) p ∙ one_cell x.1)
      | false ↦ λ p. refl
    ] refl

-- one sighting more joins its cell to what the key has
pub get-seen_of_more : (s : List (Key × Cell Value)) (x : Key × Cell Value) (q : Key) → get (seen (s ++ x ∷ [])) q
    ≡ joined_there (get (seen s) q) (cond (is_of q x) (Some x.1) None)
get-seen_of_more s x q =
    ap (λ (f : CellMap). get f q) (seen_of_both s (x ∷ []))
    ∙ get-merge_maps (seen s) (seen (x ∷ [])) q
    ∙ ap (joined_there (get (seen s) q)) (get-seen_of_one x q)

-- what is held was sighted, and what was sighted is held ------------------------------------

-- what a map has at a key is what its sightings say
pub cell_in : (s : List (Key × Cell Value)) (q : Key) (d : Cell Value) → get (seen s) q ≡ Some d → IsCellIn q s d
cell_in s q d e = subst (λ (o : Option (Cell Value)). MatchOption o ((c : Cell Value) → WasSighted q s c → ⊥) (IsCellIn q s)) e ((seen_law s).cells q)

-- and of their newest generation
pub newest_at : (s : List (Key × Cell Value)) (q : Key) (d : Cell Value) → get (seen s) q ≡ Some d → IsNewest q s (generation_of d)
newest_at s q d e = newest_in q s d (cell_in s q d e)

-- keys ----------------------------------------------------------------------------------------

-- ranges ----------------------------------------------------------------------------------------

-- what sightings in range say is in range
sighting_in : (s : List (Key × Cell Value)) → ((x : Key × Cell Value) → Contains s x → IsSighting x) → (q : Key) (d : Cell Value) → IsCellIn q s d
    → IsSighting (q, d)
sighting_in s f q (Known g v) i =
    let n = i.0.sighted in subst (λ (c : Cell Value). IsSighting (q, c)) (i.1 n.0 n.1 n.2) (f (q, n.0) n.1)
sighting_in s f q (Disputed g) i =
    let n = i.0.sighted in
    let h = f (q, n.0) n.1 in
    let parts = and_parts (is_key q && is_generation (generation_of n.0)) (is_cell_of q n.0) h in
    ap (λ b. b && true) (ap (λ k. is_key q && is_generation k) (sym n.2) ∙ parts.0)

-- a map of sightings in range is in range
pub in_range : (s : List (Key × Cell Value)) → ((x : Key × Cell Value) → Contains s x → IsSighting x) → (q : Key) (d : Cell Value) → get (seen s) q ≡ Some d
    → IsSighting (q, d)
in_range s f q d e = sighting_in s f q d (cell_in s q d e)

-- generations -------------------------------------------------------------------------------------

-- the newest generation of the sightings is that of facts that are their map
pub newest_of_seen : (s : List (Key × Cell Value)) (x : Key × Cell Value) → Contains s x
    → ((y : Key × Cell Value) → Contains s y → generation_of y.1 ≤ generation_of x.1) → (facts : Facts) → facts.found ≡ seen s
    → IsNewestGeneration facts (generation_of x.1)
newest_of_seen s x h f facts is =
    let d = seen_above s x.0 x.1 h in
    let n = (newest_at s x.0 d.0 d.1).sighted in
    record {
      held = (x.0, d.0, ap (λ (m : CellMap). get m x.0) is ∙ d.1, omega (arith, below-le x.1 d.0 d.2, n.2, f (x.0, n.0) n.1));
      greatest = λ q c e. let m = (newest_at s q c (ap (λ (m : CellMap). get m q) (sym is) ∙ e)).sighted in omega (arith, m.2, f (q, m.0) m.1);
    }

-- the newest generation among sightings, if there are any
abbrev pub IsNewestAmong : List (Key × Cell Value) → Option ℕ → Type 0
IsNewestAmong s None = s ≡ []
IsNewestAmong s (Some g) = ((x : Key × Cell Value) × Contains s x × (generation_of x.1 ≡ g)) × ((x : Key × Cell Value) → Contains s x → generation_of x.1 ≤ g)

-- a list of one contains that one
pub contained_one : (x y : Key × Cell Value) → Contains (x ∷ []) y → x ≡ y
contained_one x y h = elim (contains_cases x y [] h) [ inl e ↦ e | inr k ↦ absurd (contains_none y k) ]

-- one sighting more that is at least as new as all before it
pub newer_sighting : (s : List (Key × Cell Value)) (x : Key × Cell Value) (g : ℕ) → generation_of x.1 ≡ g
    → ((y : Key × Cell Value) → Contains s y → generation_of y.1 ≤ g) → IsNewestAmong (s ++ x ∷ []) (Some g)
newer_sighting s x g e f = (
  (x, Contains-append_right s (x ∷ []) x (contains_here x []), e),
  λ y h. elim (Contains-append_cases s (x
      ∷ []) y h) [ inl k ↦ f y k | inr k ↦ omega (arith, e, ap (λ (z : Key × Cell Value). generation_of z.1) (contained_one x y k)) ],
)

-- one sighting more that is no newer
pub older_sighting : (s : List (Key × Cell Value)) (x : Key × Cell Value) (g : ℕ) → generation_of x.1 ≤ g → IsNewestAmong s (Some g)
    → IsNewestAmong (s ++ x ∷ []) (Some g)
older_sighting s x g l n = (
  (n.0.0, Contains-append_left s (x ∷ []) n.0.0 n.0.1, n.0.2),
  λ y h. elim (Contains-append_cases s (x
      ∷ []) y h) [ inl k ↦ n.1 y k | inr k ↦ omega (arith, ap (λ (z : Key × Cell Value). generation_of z.1) (contained_one x y k)) ],
)
