-- The attachments of LIDs: for each LID, the switch, by index, and the port at which its owner is attached. Also the
-- table entries that follow from these attachments.
use Rattle.std.specs.Prelude.{◌≡◌, ◌<◌, ℕ, ◌+◌, ◌*◌, List, map, length, Option, None, MatchOption, ◌==◌, unwrap_or, option_map, slice_index, slice_index_or, if◌then◌else◌}
use Rattle.std.specs.Option.{option_map_or}
use Rattle.std.specs.List.{range_with_len}
use Rattle.subnet_view.specs.SwitchEdges.{SwitchEdges}
use Rattle.updown_routes.specs.Ports.{next_port_at}
use Rattle.lft_blocks.specs.declared.attachment.Attachment.{Attachment}
use Rattle.lft_blocks.specs.Plan.{SwitchTable}

-- the GUID of the switch of the attachment `h`, and its port
abbrev pub meant : List ℕ → Attachment → ℕ × ℕ
meant guids h = (slice_index guids h.switch, h.port)

-- `indexed` is `attachment` with its switch by index in `guids`; None if `attachment` is None
pub record IsIndexed (guids : List ℕ) (attachment : Option (ℕ × ℕ)) (indexed : Option Attachment) : Type 0 where
  pub same : option_map (meant guids) indexed ≡ attachment
  pub within : MatchOption indexed (Unit {0}) (λ h. h.switch < length guids)

-- for each LID, `indexed` has its attachment, with the switch by index in `guids`
abbrev pub AreIndexed : List ℕ → (ℕ → Option (ℕ × ℕ)) → List (Option Attachment) → Type 0
AreIndexed guids attachments indexed = (lid : ℕ) → IsIndexed guids (attachments lid) (slice_index_or indexed lid None)

-- the switch of each attachment is one of the first `n`
abbrev pub AreWithin : ℕ → List (Option Attachment) → Type 0
AreWithin n indexed = (lid : ℕ) → MatchOption (slice_index_or indexed lid None) (Unit {0}) (λ h. h.switch < n)

-- the next port from the switch at index `own` towards each of the first `n` switches; 255 if there is no next port
abbrev pub row_of : List SwitchEdges → ℕ → ℕ → List ℕ
row_of graph own n = map (λ to. unwrap_or (next_port_at graph own to) 255) (range_with_len 0 n)

-- the entry for `lid` of the switch at index `own`; 255 if the LID has no attachment. `row` has the next ports of this
-- switch
abbrev pub entry_in : List (Option Attachment) → List ℕ → ℕ → ℕ → ℕ
entry_in indexed row own lid =
    option_map_or (λ h. if h.switch == own then h.port else slice_index row h.switch) (slice_index_or indexed lid None)
    255

-- block `b` of the switch at index `own`. `row` has the next ports of this switch
abbrev pub block_in : List (Option Attachment) → List ℕ → ℕ → ℕ → List ℕ
block_in indexed row own b = map (λ i. entry_in indexed row own (64 * b + i)) (range_with_len 0 64)

-- the table of the switch at index `own`, with `count` blocks, under up/down routing
abbrev pub table_in : List (Option Attachment) → List SwitchEdges → List ℕ → ℕ → ℕ → SwitchTable
table_in indexed graph guids count own =
    record {
      guid = slice_index guids own;
      blocks =
          map (block_in indexed (row_of graph own (length guids)) own) (range_with_len 0 count);
    }
