-- The numbers of LIDs by index are those by GUID, and a rule by numbers is one of routing.
use Rattle.std.proofs.Common.{◌≡◌, ◌<◌, ◌≤◌, ℕ, List, [], ◌∷◌, refl, sym, ap, ◌∙◌, arith, length, get_or, inl, inr}
use Rattle.std.proofs.lemmas.Bool.{cases_lt}
use Rattle.std.proofs.lemmas.List.{get_or_past}
use Rattle.std.proofs.lemmas.List.FromFn.{get_or-map-range_with_len, length-map-range_with_len}
use Rattle.std.proofs.lemmas.List.Kept.{AllPairs-from_increasing}
use Rattle.std.specs.Prelude.{MatchOption, Option, None, Some, option_map, slice_index, slice_index_or}
use Rattle.std.specs.Option.{option_map_or}
use Rattle.std.specs.List.Sorted.{IsStrictlyIncreasing}
use Rattle.port_graph.specs.declared.edge.Edge.{Edge}
use Rattle.spread_labels.specs.Orders.{position_of}
use Rattle.spread_labels.proofs.ByPositions.{position_at}
use Rattle.subnet_view.specs.SwitchEdges.{SwitchEdges}
use Rattle.subnet_view.specs.Routing.{FollowsRule, IsRouting, Routing}
use Rattle.lft_blocks.specs.declared.attachment.Attachment.{Attachment}
use Rattle.lft_blocks.specs.Attachment.{AreWithin, meant}
use Rattle.lft_blocks.specs.LidNumbers.{Numbering, indexed_number, indexed_numbers, number_at, number_of, numbered}
use Rattle.lft_blocks.specs.TableRow.{attachment_by_index}

-- the position of a switch by its GUID is its index
pub position_is : (guids : List ℕ) → IsStrictlyIncreasing guids → (i : ℕ) → i < length guids → position_of guids (slice_index guids i) ≡ i
position_is guids rising = position_at guids
    (λ i j h l e. let less : get_or guids j 0 < get_or guids i 0 = AllPairs-from_increasing guids rising j i 0 l h in absurd (omega (arith, less, e)))

module _ (by : Numbering) (guids : List ℕ) (rising : IsStrictlyIncreasing guids) (attachments : List (Option Attachment))
    (within : AreWithin (length guids) attachments) where
  by_either : (lid : ℕ) (attachment : Option Attachment) → MatchOption attachment (Unit {0}) (λ h. h.switch < length guids)
      → option_map_or (λ h. number_at by h.switch h.port lid) attachment 0
      ≡ option_map_or (λ a. number_at by (position_of guids a.0) a.1 lid) (option_map (meant guids) attachment) 0
  by_either lid None h = refl
  by_either lid (Some x) h = ap (λ s. number_at by s x.port lid) (sym (position_is guids rising x.switch h))

  -- the number of each LID, in the list of those that have an entry and behind it
  pub number_same : (numbers : List ℕ) → numbers ≡ indexed_numbers by attachments → (lid : ℕ)
      → get_or numbers lid 0 ≡ number_of by guids (attachment_by_index guids attachments) lid
  number_same numbers are lid =
      ap (λ ns. get_or ns lid 0) are
      ∙ (elim (cases_lt lid (length attachments)) [
        | inl l ↦ get_or-map-range_with_len (indexed_number by attachments) 0 (length attachments) lid lid 0 l (omega arith)
        | inr m ↦
            let behind : length attachments ≤ lid = grind arith in
            get_or_past (indexed_numbers by attachments) lid 0
            (omega (arith, behind, length-map-range_with_len (indexed_number by attachments) 0 (length attachments)))
            ∙ sym (ap (λ o. option_map_or (λ h. number_at by h.switch h.port lid) o 0) (get_or_past attachments lid None behind))
      ])
      ∙ by_either lid (slice_index_or attachments lid None) (within lid)

-- the way for a LID is that for its number
follows : (number : ℕ → ℕ) (rule : Routing) (lid t s : ℕ) (edges : List Edge) → FollowsRule rule (number lid) t s edges
    → FollowsRule (numbered number rule) lid t s edges
follows number rule lid t s [] h = h
follows number rule lid t s (e ∷ es) h = (h.0, h.1, follows number rule lid t e.to es h.2)

-- whatever the numbers
pub numbered_is_routing : (number : ℕ → ℕ) (graph : List SwitchEdges) (rule : Routing) → IsRouting graph rule → IsRouting graph (numbered number rule)
numbered_is_routing number graph rule is = record {
  reaches = is.reaches;
  leads = λ lid s t n h c.
      let way = is.leads (number lid) s t n h c in
      record {
        edges = way.edges;
        by_rule = follows number rule lid t s way.edges way.by_rule;
        passes = way.passes;
        wires = way.wires;
        no_switch_twice = way.no_switch_twice;
        channels_rise = way.channels_rise;
      };
}
