-- What cells say together, with a cell inserted, with a cell changed, and with two lists walked in step.
use Rattle.std.proofs.Common.{◌≡◌, ℕ, zero, suc, List, [], ◌∷◌, ◌++◌, set, take, drop, refl, sym, ap, ◌∙◌, true, false, cond}
use Rattle.std.proofs.lemmas.List.{append_assoc, take-append-drop, set_split}
use Rattle.std.proofs.lemmas.Option.{slice_get_within}
use Rattle.std.specs.Prelude.{None, Some, slice_get, insert}
use Rattle.std.specs.FinMap.{get, same_map}
use Rattle.fact_join.specs.declared.cell.Cell.{Cell}
use Rattle.reply_facts.specs.declared.key.Key.{Key}
use Rattle.reply_facts.specs.declared.value.Value.{Value}
use Rattle.fact_store.specs.Merge.{join, merge_maps}
use Rattle.fact_store.specs.Seen.{CellMap, is_of, seen}
use Rattle.reply_facts.proofs.Keys.{key_total, key_exact}
use Rattle.fact_store.proofs.MapMerges.{joined_there, merge_maps_is_commutative, merge_maps_is_associative}
use Rattle.fact_store.proofs.SightingRanges.{get-seen_of_one, get-seen_of_more}
use Rattle.fact_store.proofs.Seen.{seen_of_both}

-- one among others is as one after them
seen_among : (s t : List (Key × Cell Value)) (x : Key × Cell Value) → seen (s ++ x ∷ t) ≡ merge_maps (seen (s ++ t)) (seen (x ∷ []))
seen_among s t x =
    seen_of_both s (x ∷ t)
    ∙ ap (merge_maps (seen s)) (seen_of_both (x ∷ []) t ∙ merge_maps_is_commutative (seen (x ∷ [])) (seen t))
    ∙ sym (merge_maps_is_associative (seen s) (seen t) (seen (x ∷ [])))
    ∙ ap (λ (f : CellMap). merge_maps f (seen (x ∷ []))) (sym (seen_of_both s t))

-- one put in
pub seen-insert : (es : List (Key × Cell Value)) (i : ℕ) (x : Key × Cell Value) → seen (insert es i x) ≡ merge_maps (seen es) (seen (x ∷ []))
seen-insert es i x = seen_among (take i es) (drop i es) x ∙ ap (λ (s : List (Key × Cell Value)). merge_maps (seen s) (seen (x ∷ []))) (take-append-drop i es)

-- two cells of a key are as their join
pub seen_of_two : (k : Key) (c d : Cell Value) → seen ((k, join c d) ∷ []) ≡ merge_maps (seen ((k, c) ∷ [])) (seen ((k, d) ∷ []))
seen_of_two k c d =
    same_map key_total key_exact (seen ((k, join c d) ∷ [])) (seen ((k, c) ∷ (k, d) ∷ [])) same
    ∙ seen_of_both ((k, c) ∷ []) ((k, d) ∷ [])
  where
    same : (q : Key) → get (seen ((k, join c d) ∷ [])) q ≡ get (seen ((k, c) ∷ (k, d) ∷ [])) q
    same q =
        get-seen_of_one (k, join c d) q
        ∙ elim (is_of q (k, c)) as (λ t. cond t (Some (join c d)) None
        ≡ joined_there (cond t (Some c) None) (cond t (Some d) None)) [ true ↦ refl | false ↦ refl ]
        ∙ ap (λ o. joined_there o (cond (is_of q (k, d)) (Some d) None)) (sym (get-seen_of_one (k, c) q))
        ∙ sym (get-seen_of_more ((k, c) ∷ []) (k, d) q)

-- one changed to the join with another
pub seen-set : (es : List (Key × Cell Value)) (i : ℕ) (k : Key) (c d : Cell Value) → slice_get es i ≡ Some (k, c) → seen (set es i (k, join c d))
    ≡ merge_maps (seen es) (seen ((k, d) ∷ []))
seen-set es i k c d h =
    let rest : CellMap = seen (take i es ++ drop (suc i) es) in
    ap seen (set_split es i (k, join c d) (slice_get_within es i (k, c) h))
    ∙ seen_among (take i es) (drop (suc i) es) (k, join c d)
    ∙ ap (merge_maps rest) (seen_of_two k c d)
    ∙ sym (merge_maps_is_associative rest (seen ((k, c) ∷ [])) (seen ((k, d) ∷ [])))
    ∙ ap (λ (f : CellMap). merge_maps f (seen ((k, d) ∷ []))) (sym (seen_among (take i es) (drop (suc i) es) (k, c)) ∙ ap seen (sym (split es i (k, c) h)))
  where
    split : (es : List (Key × Cell Value)) (i : ℕ) (e : Key × Cell Value) → slice_get es i ≡ Some e → es ≡ take i es ++ e ∷ drop (suc i) es
    split [] i e h = absurd (cc)
    split (x ∷ es) zero e h = ap (λ (z : Key × Cell Value). z ∷ es) (some_is x e h)
      where
        some_is : (a b : Key × Cell Value) → Some a ≡ Some b → a ≡ b
        some_is a b e = cc
    split (x ∷ es) (suc i) e h = ap (λ (s : List (Key × Cell Value)). x ∷ s) (split es i e h)

-- two lists in step ---------------------------------------------------------------------------

-- the first of the second list before all of the first one
pub seen-step_second : (b s t : List (Key × Cell Value)) (y : Key × Cell Value) → seen ((b ++ y ∷ []) ++ (s ++ t)) ≡ seen (b ++ (s ++ y ∷ t))
seen-step_second b s t y =
    ap seen (append_assoc b (y ∷ []) (s ++ t)) ∙ seen_of_both b (y ∷ (s ++ t))
    ∙ ap (merge_maps (seen b)) (seen_among [] (s ++ t) y ∙ sym (seen_among s t y)) ∙ sym (seen_of_both b (s ++ y ∷ t))

-- the first of both, joined
pub seen-step_both : (b s t : List (Key × Cell Value)) (k : Key) (c d : Cell Value) → seen ((b ++ (k, join c d) ∷ []) ++ (s ++ t))
    ≡ seen (b ++ ((k, c) ∷ s ++ (k, d) ∷ t))
seen-step_both b s t k c d =
    let rest : CellMap = seen (s ++ t) in
    ap seen (append_assoc b ((k, join c d) ∷ []) (s ++ t)) ∙ seen_of_both b ((k, join c d) ∷ (s ++ t))
    ∙ ap (merge_maps (seen b))
    (seen_among [] (s ++ t) (k, join c d)
    ∙ ap (merge_maps rest) (seen_of_two k c d)
    ∙ sym (merge_maps_is_associative rest (seen ((k, c) ∷ [])) (seen ((k, d) ∷ [])))
    ∙ ap (λ (f : CellMap). merge_maps f (seen ((k, d) ∷ []))) (sym (seen_among [] (s ++ t) (k, c)))
    ∙ sym (seen_among ((k, c) ∷ s) t (k, d)))
    ∙ sym (seen_of_both b ((k, c) ∷ s ++ (k, d) ∷ t))
