-- The merge of two maps is their least upper bound, so it is commutative, associative and idempotent.
use Rattle.std.proofs.Common.{◌≡◌, List, [], ◌∷◌, ◌++◌, refl, sym, ap, ◌∙◌, subst, true, false, cond, map}
use Rattle.std.specs.Prelude.{Option, None, Some}
use Rattle.std.specs.Option.{option_map_or}
use Rattle.std.specs.Ordering.{eq_by_cmp}
use Rattle.std.specs.FinMap.{empty, find, get, entries, get-empty, get-from_entries, get-entries, same_map}
use Rattle.fact_join.specs.declared.cell.Cell.{Cell}
use Rattle.fact_join.specs.Cell.{IsBelow}
use Rattle.fact_join.specs.Join.{below_itself, below_antisymm, below_trans, joined_above_first, joined_above_second, joined_least}
use Rattle.reply_facts.specs.declared.key.Key.{Key}
use Rattle.reply_facts.specs.declared.value.Value.{Value}
use Rattle.reply_facts.specs.Key.{key_cmp}
use Rattle.reply_facts.specs.Value.{is_same_value}
use Rattle.fact_store.specs.Seen.{CellMap}
use Rattle.fact_store.specs.Merge.{join, merge_maps}
use Rattle.reply_facts.proofs.Keys.{key_total, key_exact, equal_from_test}
use Rattle.reply_facts.specs.Values.{same_value_exact, same_value_itself}

-- the order of maps: -----------------------------------------------------------

-- each cell of the first is below the second's cell of that key
abbrev pub IsBelowMap : CellMap → CellMap → Type 0
IsBelowMap x y = (key : Key) (c : Cell Value) → get x key ≡ Some c → (d : Cell Value) × (get y key ≡ Some d) × IsBelow c d

-- above both, and below all that is above both
pub record IsMapMerge (x y z : CellMap) : Type 0 where
  pub above_first : IsBelowMap x z
  pub above_second : IsBelowMap y z
  pub least : (w : CellMap) → IsBelowMap x w → IsBelowMap y w → IsBelowMap z w

-- cells that may be missing ----------------------------------------------------

-- a cell, where there is one, is below one that is there too
abbrev pub IsBelowThere : Option (Cell Value) → Option (Cell Value) → Type 0
IsBelowThere o p = (c : Cell Value) → o ≡ Some c → (d : Cell Value) × (p ≡ Some d) × IsBelow c d

-- the join where both are there, and else the one that is
abbrev pub joined_there : Option (Cell Value) → Option (Cell Value) → Option (Cell Value)
joined_there None p = p
joined_there (Some c) None = Some c
joined_there (Some c) (Some d) = Some (join c d)

-- equal options hold equal cells
pub the_same : (c d : Cell Value) → Some c ≡ Some d → c ≡ d
the_same c d e = cc

-- cells that may be missing and are below each other are one
pub there_antisymm : (o p : Option (Cell Value)) → IsBelowThere o p → IsBelowThere p o → o ≡ p
there_antisymm None None f g = refl
there_antisymm None (Some d) f g = cc ((g d refl).1)
there_antisymm (Some c) None f g = cc ((f c refl).1)
there_antisymm (Some c) (Some d) f g =
    let x = f c refl in let y = g d refl in
    ap Some (below_antisymm c d (subst (λ (z : Cell Value). IsBelow c z) (sym (the_same _ _ x.1)) x.2)
    (subst (λ (z : Cell Value). IsBelow d z) (sym (the_same _ _ y.1)) y.2))

-- the join is above the first
above_first : (o p : Option (Cell Value)) → IsBelowThere o (joined_there o p)
above_first None p c e = absurd (cc)
above_first (Some a) None c e = (a, refl, subst (λ (z : Cell Value). IsBelow z a) (the_same a c e) (below_itself a))
above_first (Some a) (Some b) c e = (
  join a b,
  refl,
  subst (λ (z : Cell Value). IsBelow z (join a b)) (the_same a c e)
      (joined_above_first is_same_value same_value_exact same_value_itself a b),
)

-- the join is above the second
above_second : (o p : Option (Cell Value)) → IsBelowThere p (joined_there o p)
above_second None p c e = (c, e, below_itself c)
above_second (Some a) None c e = absurd (cc)
above_second (Some a) (Some b) c e = (
  join a b,
  refl,
  subst (λ (z : Cell Value). IsBelow z (join a b)) (the_same b c e)
      (joined_above_second is_same_value same_value_exact same_value_itself a b),
)

-- the join is below all that is above both
least : (o p w : Option (Cell Value)) → IsBelowThere o w → IsBelowThere p w → IsBelowThere (joined_there o p) w
least None p w f g c e = g c e
least (Some a) None w f g c e = f c e
least (Some a) (Some b) w f g c e =
    let x = f a refl in let y = g b refl in (
      x.0,
      x.1,
      subst (λ (z : Cell Value). IsBelow z x.0) (the_same (join a b) c e)
          (joined_least is_same_value same_value_exact same_value_itself a b x.0 x.2 (subst (λ (z : Cell Value). IsBelow b z) (the_same _ _ (sym y.1
          ∙ x.1)) y.2)),
    )

-- what the merge has at a key ----------------------------------------------------

-- the first's cell at a key, joined with a cell that is there or not
abbrev with_other : Option (Cell Value) → Cell Value → Cell Value
with_other o c = option_map_or (join c) o c

-- the first, where it is there, joined with the other
abbrev first_with : Option (Cell Value) → Option (Cell Value) → Option (Cell Value)
first_with None o = None
first_with (Some c) o = Some (with_other o c)

-- what is found among the joined cells of the first
find-with : (es : List (Key × Cell Value)) (y : CellMap) (q : Key) → find key_cmp q (map (λ e. (e.0, option_map_or (join e.1) (get y e.0) e.1)) es)
    ≡ first_with (find key_cmp q es) (get y q)
find-with [] y q = refl
find-with (e ∷ es) y q =
    elim (eq_by_cmp key_cmp q e.0) as (λ t. eq_by_cmp key_cmp q e.0 ≡ t
    → cond t (Some (with_other (get y e.0) e.1)) (find key_cmp q (map (λ e. (e.0, option_map_or (join e.1) (get y e.0) e.1)) es))
    ≡ first_with (cond t (Some e.1) (find key_cmp q es)) (get y q)) [
      | true ↦ λ p. ap (λ k. Some (with_other (get y k) e.1)) (sym (key_exact q e.0 (equal_from_test _ p)))
      | false ↦ λ p. find-with es y q
    ] refl

-- the first that is there
abbrev or_else : Option (Cell Value) → Option (Cell Value) → Option (Cell Value)
or_else None p = p
or_else (Some c) p = Some c

-- what is found in two lists is found in the first or else in the second
find-append : (es fs : List (Key × Cell Value)) (q : Key) → find key_cmp q (es ++ fs) ≡ or_else (find key_cmp q es) (find key_cmp q fs)
find-append [] fs q = refl
find-append (e ∷ es) fs q =
    elim (eq_by_cmp key_cmp q e.0) as (λ t. cond t (Some e.1) (find key_cmp q (es ++ fs))
    ≡ or_else (cond t (Some e.1) (find key_cmp q es)) (find key_cmp q fs)) [
      | true ↦ refl
      | false ↦ find-append es fs q
    ]

-- both parts together are the join
joined_by_parts : (o p : Option (Cell Value)) → or_else (first_with o p) p ≡ joined_there o p
joined_by_parts None p = refl
joined_by_parts (Some c) None = refl
joined_by_parts (Some c) (Some d) = refl

-- the join of what the two have there
pub get-merge_maps : (x y : CellMap) (q : Key) → get (merge_maps x y) q ≡ joined_there (get x q) (get y q)
get-merge_maps x y q =
    get-from_entries key_total (map (λ e. (e.0, option_map_or (join e.1) (get y e.0) e.1)) (entries x) ++ entries y) q
    ∙ find-append (map (λ e. (e.0, option_map_or (join e.1) (get y e.0) e.1)) (entries x)) (entries y) q
    ∙ ap (λ o. or_else o (find key_cmp q (entries y))) (find-with (entries x) y q)
    ∙ ap (λ o. or_else (first_with o (get y q)) (find key_cmp q (entries y))) (sym (get-entries x q))
    ∙ ap (or_else (first_with (get x q) (get y q))) (sym (get-entries y q))
    ∙ joined_by_parts (get x q) (get y q)

-- the laws -----------------------------------------------------------------------

-- facts below each other are one
pub maps_antisymm : (x y : CellMap) → IsBelowMap x y → IsBelowMap y x → x ≡ y
maps_antisymm x y f g = same_map key_total key_exact x y (λ q. there_antisymm (get x q) (get y q) (f q) (g q))

-- facts below others are below all that is above these
pub maps_trans : (x y z : CellMap) → IsBelowMap x y → IsBelowMap y z → IsBelowMap x z
maps_trans x y z f g q c e =
    let a = f q c e in let b = g q a.0 a.1 in (b.0, b.1, below_trans c a.0 b.0 a.2 b.2)

-- the merge is the least above both
pub merge_maps_law : (x y : CellMap) → IsMapMerge x y (merge_maps x y)
merge_maps_law x y =
    record {
      above_first = λ q. subst (IsBelowThere (get x q)) (sym (get-merge_maps x y q)) (above_first (get x q) (get y q));
      above_second = λ q. subst (IsBelowThere (get y q)) (sym (get-merge_maps x y q)) (above_second (get x q) (get y q));
      least = λ w f g q.
          subst (λ (o : Option (Cell Value)). IsBelowThere o (get w q)) (sym (get-merge_maps x y q)) (least (get x q) (get y q) (get w q) (f q) (g q));
    }

-- two least facts above both are one
pub merge_maps_is_unique : (x y z w : CellMap) → IsMapMerge x y z → IsMapMerge x y w → z ≡ w
merge_maps_is_unique x y z w a b = maps_antisymm z w (a.least w b.above_first b.above_second) (b.least z a.above_first a.above_second)

-- the order of two does not matter
pub merge_maps_is_commutative : (x y : CellMap) → merge_maps x y ≡ merge_maps y x
merge_maps_is_commutative x y =
    merge_maps_is_unique x y (merge_maps x y) (merge_maps y x) (merge_maps_law x y)
    (record {
      above_first = (merge_maps_law y x).above_second;
      above_second = (merge_maps_law y x).above_first;
      least =
          λ w f g. (merge_maps_law y x).least w g f;
    })

-- facts merged with themselves stay
pub merge_maps_is_idempotent : (x : CellMap) → merge_maps x x ≡ x
merge_maps_is_idempotent x =
    maps_antisymm (merge_maps x x) x ((merge_maps_law x x).least x (λ q c e. (c, e, below_itself c)) (λ q c e. (c, e, below_itself c)))
    (merge_maps_law x x).above_first

-- which of three are merged first does not matter
pub merge_maps_is_associative : (x y z : CellMap) → merge_maps (merge_maps x y) z ≡ merge_maps x (merge_maps y z)
merge_maps_is_associative x y z =
    let xy = merge_maps_law x y in let yz = merge_maps_law y z in let l = merge_maps_law (merge_maps x y) z in let r = merge_maps_law x (merge_maps y z) in
    maps_antisymm (merge_maps (merge_maps x y) z) (merge_maps x (merge_maps y z))
    (l.least (merge_maps x (merge_maps y z))
    (xy.least (merge_maps x (merge_maps y z)) r.above_first (maps_trans y (merge_maps y z) (merge_maps x (merge_maps y z)) yz.above_first r.above_second))
    (maps_trans z (merge_maps y z) (merge_maps x (merge_maps y z)) yz.above_second r.above_second))
    (r.least (merge_maps (merge_maps x y) z)
    (maps_trans x (merge_maps x y) (merge_maps (merge_maps x y) z) xy.above_first l.above_first)
    (yz.least (merge_maps (merge_maps x y) z) (maps_trans y (merge_maps x y) (merge_maps (merge_maps x y) z) xy.above_second l.above_first) l.above_second))

-- an empty map adds nothing
pub merge_maps_empty : (x : CellMap) → merge_maps empty x ≡ x
merge_maps_empty x =
    let m = merge_maps_law empty x in
    maps_antisymm (merge_maps empty x) x (m.least x (λ q c e. absurd (none_there q c e)) (λ q c e. (c, e, below_itself c))) m.above_second
  where
    none_there : (q : Key) (c : Cell Value) → get (empty {X = Cell Value} {R = key_cmp}) q ≡ Some c → ⊥
    none_there q c e = cc (get-empty key_cmp q)
