-- A cell inserted among others, or joined to the cell of its key.
use Rattle.std.proofs.Common.{◌≡◌, ℕ, List, [], ◌∷◌, set, take, drop, sym, ap, ◌∙◌, subst, inl, inr, true, cond}
use Rattle.std.proofs.lemmas.List.Elements.{All-append, All-take, All-drop, All-cons, All-set}
use Rattle.std.specs.Prelude.{All, None, Some, Contains, slice_get, insert}
use Rattle.std.specs.FinMap.Entries.{is_sorted}
use Rattle.std.specs.FinMap.{get}
use Rattle.fact_join.specs.declared.cell.Cell.{Cell}
use Rattle.reply_facts.specs.declared.key.Key.{Key}
use Rattle.reply_facts.specs.declared.value.Value.{Value}
use Rattle.fact_store.specs.Cells.{AreCells, IsIndexFor}
use Rattle.reply_facts.specs.Key.{key_cmp}
use Rattle.fact_store.specs.Merge.{join, merge_maps}
use Rattle.reply_facts.specs.Sighting.{IsSighting}
use Rattle.fact_store.specs.Seen.{CellMap, seen}
use Rattle.fact_store.proofs.CellOrder.{held, shown, rising-set}
use Rattle.fact_store.proofs.CellViews.{seen-insert, seen-set, seen_of_two}
use Rattle.smp_bytes.proofs.Members.{contains_cases, contains_none}
use Rattle.fact_store.proofs.SightingRanges.{get-seen_of_one, in_range}
use Rattle.fact_store.proofs.Seen.{is_of_itself, seen_of_both}

-- two cells in range say together what is in range
pub join_in_range : (k : Key) (c d : Cell Value) → IsSighting (k, c) → IsSighting (k, d) → IsSighting (k, join c d)
join_in_range k c d g h =
    in_range ((k, c) ∷ (k, d) ∷ []) each k (join c d)
    (ap (λ (f : CellMap). get f k) (seen_of_both ((k, c) ∷ []) ((k, d) ∷ []) ∙ sym (seen_of_two k c d)) ∙ get-seen_of_one (k, join c d) k
    ∙ ap (λ t. cond t (Some (join c d)) None) (is_of_itself k (join c d)))
  where
    each : (x : Key × Cell Value) → Contains ((k, c) ∷ (k, d) ∷ []) x → IsSighting x
    each x n =
        elim (contains_cases (k, c) x ((k, d) ∷ []) n) [
          | inl e ↦ subst IsSighting e g
          | inr m ↦ (elim (contains_cases (k, d) x [] m) [ inl e ↦ subst IsSighting e h | inr z ↦ absurd (contains_none x z) ])
        ]

module _ (cells : List (Key × Cell Value)) (are : AreCells cells) (i : ℕ) (sighting : Key × Cell Value) (new : List (Key × Cell Value)) where
  module _ (index : IsIndexFor sighting.0 cells i) (in_range' : IsSighting sighting) (is : new ≡ insert cells i sighting) where
    -- they stay in order and in range
    pub put_cells : AreCells new
    put_cells =
        record {
          rising = subst (λ (s : List (Key × Cell Value)). is_sorted key_cmp s ≡ true) (sym is) (index.rising sighting.1);
          in_range = subst (All IsSighting) (sym is)
              (All-append IsSighting (take i cells) (sighting
              ∷ drop i cells) (All-take IsSighting i cells are.in_range)
              (All-cons IsSighting sighting (drop i cells) in_range' (All-drop IsSighting i cells are.in_range)));
        }

    -- and say what they said, and this
    pub put_seen : seen new ≡ merge_maps (seen cells) (seen (sighting ∷ []))
    put_seen = ap seen is ∙ seen-insert cells i sighting

  module _ (was : Key × Cell Value) (at : slice_get cells i ≡ Some was) (same : was.0 ≡ sighting.0) (joined : Key × Cell Value) (joined_is : joined
      ≡ (was.0, join was.1 sighting.1)) (in_range' : IsSighting joined) (is : new ≡ set cells i joined) where
    -- the same, where the key has a cell
    pub joined_cells : AreCells new
    joined_cells =
        record {
          rising = subst (λ (s : List (Key × Cell Value)). is_sorted key_cmp s
              ≡ true) (sym (is ∙ ap (set cells i) joined_is)) (shown _ (rising-set was.0 was.1 (join was.1 sighting.1) cells i at (held _ are.rising)));
          in_range = subst (All IsSighting) (sym is) (All-set IsSighting cells i joined in_range' are.in_range);
        }

    pub joined_seen : seen new ≡ merge_maps (seen cells) (seen (sighting ∷ []))
    joined_seen =
        ap seen (is ∙ ap (set cells i) joined_is) ∙ seen-set cells i was.0 was.1 sighting.1 at
        ∙ ap (λ (k : Key). merge_maps (seen cells) (seen ((k, sighting.1) ∷ []))) same
