-- Tables by the indices of switches are the tables by their GUIDs.
use Rattle.std.proofs.Common.{◌≡◌, ◌<◌, ◌+◌, ◌*◌, ℕ, List, [], ◌∷◌, inl, inr, refl, sym, ap, ◌∙◌, subst, arith, cond, ◌==◌, length, map}
use Rattle.std.proofs.lemmas.Bool.{cases_order, eqb-true, eq-eqb}
use Rattle.std.proofs.lemmas.List.{get_or-map, length-map}
use Rattle.std.proofs.lemmas.List.FromFn.{fill_by_all, get_or-map-range_with_len}
use Rattle.std.proofs.lemmas.Option.{slice_get-get_or}
use Rattle.std.proofs.lemmas.List.Kept.{AllPairs-from_increasing}
use Rattle.std.specs.Prelude.{Option, None, Some, unwrap_or, option_and_then, slice_get, slice_index, slice_index_or}
use Rattle.std.specs.Option.{option_map_or}
use Rattle.std.specs.List.{range_with_len}
use Rattle.std.specs.List.Sorted.{IsStrictlyIncreasing}
use Rattle.std.specs.Cmp.{both_ways}
use Rattle.fact_store.specs.View.{Facts, cells_of}
use Rattle.subnet_view.specs.Reading.{switches}
use Rattle.subnet_view.proofs.GraphSwitches.{switches_increase}
use Rattle.subnet_view.specs.SwitchEdges.{SwitchEdges}
use Rattle.subnet_view.specs.Graph.{guids_of}
use Rattle.updown_routes.specs.Ports.{next_port_at}
use Rattle.updown_routes.specs.Updown.{updown}
use Rattle.lft_blocks.specs.declared.attachment.Attachment.{Attachment}
use Rattle.lft_blocks.specs.Entries.{Next, port_to, entry, blocks}
use Rattle.lft_blocks.specs.Attachment.{meant, IsIndexed, AreIndexed, AreWithin, row_of, entry_in, block_in, table_in}
use Rattle.lft_blocks.specs.Plan.{SwitchTable, tables_of, AreTables}

module _ (graph : List SwitchEdges) (guids : List ℕ) (theirs : guids ≡ guids_of graph) (rising : IsStrictlyIncreasing guids) where
  abbrev next : Next
  next = (updown graph).next

  -- indices are told apart by their GUIDs
  pub same_test : (i j : ℕ) → i < length guids → j < length guids → (i == j) ≡ (slice_index guids i == slice_index guids j)
  same_test i j h k =
      both_ways (i == j) (slice_index guids i == slice_index guids j)
      (λ e. eq-eqb (slice_index guids i) (slice_index guids j) (ap (λ n. slice_index guids n) (eqb-true i j e)))
      (λ e. eq-eqb i j (same_index (eqb-true (slice_index guids i) (slice_index guids j) e)))
    where
      same_index : slice_index guids i ≡ slice_index guids j → i ≡ j
      same_index e = elim (cases_order i j) [
        | inl p ↦ p
        | inr (inl p) ↦ let a = AllPairs-from_increasing guids rising i j 0 p k in absurd (omega arith)
        | inr (inr p) ↦ let a = AllPairs-from_increasing guids rising j i 0 p h in absurd (omega arith)
      ]

  module _ (own : ℕ) (there : own < length guids) where
    abbrev s : ℕ
    s = slice_index guids own

    abbrev row : List ℕ
    row = row_of graph own (length guids)

    -- the next port to a switch by its index
    port_at : (to : ℕ) → to < length guids → (lid : ℕ) → next_port_at graph own to ≡ next lid s (slice_index guids to)
    port_at to h lid =
        let get = λ (i : ℕ) (l : i < length guids). ap (λ gs. slice_get gs i) (sym theirs) ∙ slice_get-get_or guids i 0 l in
        ap (option_and_then (λ t. option_and_then (λ g. next lid g t) (slice_get (guids_of graph) own))) (get to h)
        ∙ ap (option_and_then (λ g. next lid g (slice_index guids to))) (get own there)

    port_same : (h : Attachment) (lid : ℕ) → h.switch < length guids
        → cond (h.switch == own) h.port (slice_index row h.switch) ≡ port_to next lid s (meant guids h)
    port_same h lid w =
        let at : slice_index row h.switch ≡ unwrap_or (next lid s (slice_index guids h.switch)) 255
        = get_or-map-range_with_len (λ to. unwrap_or (next_port_at graph own to) 255) 0 (length guids) h.switch h.switch 0 w (omega arith)
        ∙ ap (λ o. unwrap_or o 255) (port_at h.switch w lid) in
        λ i. cond (same_test h.switch own w there i) h.port (at i)

    entry_same : (attachments : ℕ → Option (ℕ × ℕ)) (indexed : List (Option Attachment)) → AreIndexed guids attachments indexed → (lid : ℕ)
        → entry_in indexed row own lid ≡ entry attachments next s lid
    entry_same attachments indexed are lid = go (slice_index_or indexed lid None) (are lid)
      where
        go : (o : Option Attachment) → IsIndexed guids (attachments lid) o → option_map_or (λ h. cond (h.switch == own) h.port (slice_index row h.switch)) o 255
            ≡ option_map_or (port_to next lid s) (attachments lid) 255
        go None is = ap (λ attachment. option_map_or (port_to next lid s) attachment 255) is.same
        go (Some h) is = port_same h lid is.within ∙ ap (λ attachment. option_map_or (port_to next lid s) attachment 255) is.same

-- they are the same
pub tables_same : (graph : List SwitchEdges) (guids : List ℕ) (attachments : ℕ → Option (ℕ × ℕ)) (indexed : List (Option Attachment)) (count : ℕ) → guids
    ≡ guids_of graph → IsStrictlyIncreasing guids → AreIndexed guids attachments indexed
    → tables_of attachments (updown graph).next count guids ≡ map (table_in indexed graph guids count) (range_with_len 0 (length guids))
tables_same graph guids attachments indexed count theirs rising are =
    fill_by_all (table_in indexed graph guids count) (tables_of attachments (updown graph).next count guids) (length guids) none (length-map guids by_guid)
    (λ k h. get_or-map by_guid guids k 0 none h ∙ sym (at k h))
  where
    none : SwitchTable
    none = record { guid = 0; blocks = [] }

    by_guid : ℕ → SwitchTable
    by_guid g = record { guid = g; blocks = blocks attachments (updown graph).next count g }

    at : (own : ℕ) → own < length guids → table_in indexed graph guids count own
        ≡ record { guid = slice_index guids own; blocks = blocks attachments (updown graph).next count (slice_index guids own) }
    at own h =
        let same = entry_same graph guids theirs rising own h attachments indexed are in
        λ i. record { guid = slice_index guids own; blocks = map (λ b. map (λ j. same (64 * b + j) i) (range_with_len 0 64)) (range_with_len 0 count) }

-- an attachment that has an index has a switch
pub indexed_within : (guids : List ℕ) (attachments : ℕ → Option (ℕ × ℕ)) (indexed : List (Option Attachment)) → AreIndexed guids attachments indexed
    → AreWithin (length guids) indexed
indexed_within guids attachments indexed are lid = (are lid).within

-- the switches of the tables are the switches
their_guids : (attachments : ℕ → Option (ℕ × ℕ)) (next : Next) (count : ℕ) (guids : List ℕ) → guids
    ≡ map (λ table. table.guid) (tables_of attachments next count guids)
their_guids attachments next count [] = refl
their_guids attachments next count (g ∷ guids) = ap (λ gs. g ∷ gs) (their_guids attachments next count guids)

-- and rise where these do
pub are_tables : (attachments : ℕ → Option (ℕ × ℕ)) (next : Next) (count : ℕ) (guids : List ℕ) (tables : List SwitchTable) → IsStrictlyIncreasing guids
    → tables ≡ tables_of attachments next count guids → AreTables guids tables
are_tables attachments next count guids tables rising e = record {
  theirs = their_guids attachments next count guids ∙ ap (map (λ table. table.guid)) (sym e);
  rising = rising;
}

-- the usable switches rise
pub switches_rise : (facts : Facts) (guids : List ℕ) → guids ≡ switches (cells_of facts) → IsStrictlyIncreasing guids
switches_rise facts guids e = subst IsStrictlyIncreasing (sym e) (switches_increase facts)

-- the table that is made of a switch's GUID, row and blocks
pub table_made : (indexed : List (Option Attachment)) (graph : List SwitchEdges) (guids : List ℕ) (count own guid : ℕ) (ports : List ℕ) (blocks : List (List ℕ))
    → guid ≡ slice_index guids own
    → ports ≡ row_of graph own (length guids) → blocks ≡ map (block_in indexed ports own) (range_with_len 0 count) → record { guid = guid; blocks = blocks }
    ≡ table_in indexed graph guids count own
table_made indexed graph guids count own guid ports blocks e f h =
    λ i. record { guid = e i; blocks = (h ∙ ap (λ r. map (block_in indexed r own) (range_with_len 0 count)) f) i }
