-- The numbers of LIDs, by which LIDs take turns among the ports of switches. A number depends on the port at which the
-- LID is attached, and on the LID itself only modulo 2^LMC.
use Rattle.std.specs.Prelude.{ℕ, ◌+◌, ◌*◌, ◌%◌, ◌^◌, List, Option, None, map, length, slice_index, slice_index_or}
use Rattle.std.specs.List.{range_with_len}
use Rattle.std.specs.Option.{option_map_or}
use Rattle.spread_labels.specs.Level.{greatest}
use Rattle.spread_labels.specs.Orders.{position_of}
use Rattle.subnet_view.specs.Graph.{graph_of, guids_of}
use Rattle.subnet_view.specs.Reading.{Cells}
use Rattle.subnet_view.specs.Routing.{Routing}
use Rattle.subnet_view.specs.SwitchEdges.{SwitchEdges}
use Rattle.lid_assign.specs.Lids.{Given}
use Rattle.spread_routes.specs.LeafNumbers.{leaf_numbers}
use Rattle.spread_routes.specs.Adapters.{adapters_of}
use Rattle.lft_blocks.specs.declared.attachment.Attachment.{Attachment}
use Rattle.lft_blocks.specs.Entries.{attachment_of_lid}

-- what the numbers of LIDs are computed from: the LMC, the leaf number of each switch, and the greatest number of
-- adapters at any switch
pub record Numbering : Type 0 where
  pub lmc : ℕ
  pub leaf_numbers : List ℕ
  pub most : ℕ

-- the number of `lid`, which is attached at `port` of the switch at index `switch`. The switch's leaf number times the
-- greatest number of adapters at any switch, plus the port, is multiplied by 2^LMC. Then `lid` modulo 2^LMC is added.
-- The number is the result modulo 2^16
abbrev pub number_at : Numbering → ℕ → ℕ → ℕ → ℕ
number_at by switch port lid =
    ((slice_index by.leaf_numbers switch * by.most + port) * 2 ^ by.lmc + lid % 2 ^ by.lmc) % 2 ^ 16

-- the number of `lid`, given the attachments by GUID; 0 if `lid` has no attachment
abbrev pub number_of : Numbering → List ℕ → (ℕ → Option (ℕ × ℕ)) → ℕ → ℕ
number_of by guids attachments lid =
    option_map_or (λ a. number_at by (position_of guids a.0) a.1 lid) (attachments lid) 0

-- the number of `lid`, given the attachments by index; 0 if `lid` has no attachment
abbrev pub indexed_number : Numbering → List (Option Attachment) → ℕ → ℕ
indexed_number by attachments lid =
    option_map_or (λ h. number_at by h.switch h.port lid) (slice_index_or attachments lid None) 0

-- the number of each LID below the length of `attachments`
abbrev pub indexed_numbers : Numbering → List (Option Attachment) → List ℕ
indexed_numbers by attachments = map (indexed_number by attachments) (range_with_len 0 (length attachments))

-- what the numbers of LIDs are computed from, for a graph; `adapters` has the number of adapters at each switch
abbrev pub numbering_by : ℕ → List SwitchEdges → List ℕ → Numbering
numbering_by lmc graph adapters = record {
  lmc = lmc;
  leaf_numbers = leaf_numbers graph adapters;
  most = greatest 0 adapters;
}

-- what the numbers of LIDs are computed from, for a view
abbrev pub numbering_of : ℕ → Cells → Numbering
numbering_of lmc cells = numbering_by lmc (graph_of cells) (adapters_of cells)

-- the number of each LID in a view, if end ports have the LIDs `given`
abbrev pub lid_numbers : ℕ → Cells → Given → ℕ → ℕ
lid_numbers lmc cells given =
    number_of (numbering_of lmc cells) (guids_of (graph_of cells)) (attachment_of_lid cells given)

-- the rule that routes packets for each LID as `rule` routes packets for the LID's number
abbrev pub numbered : (ℕ → ℕ) → Routing → Routing
numbered number rule = record rule { next = λ lid. rule.next (number lid) }
