-- The entries of each switch, by LID, as they are written one target after another.
use Rattle.std.specs.Prelude.{◌≡◌, ◌<◌, ℕ, ◌+◌, ◌*◌, Bool, false, List, [], map, filter, length, Option, None, Some, ◌==◌, nat_lt, unwrap_or, option_map, slice_index, slice_index_or, if◌then◌else◌}
use Rattle.std.specs.List.{range_with_len}
use Rattle.spread_labels.specs.Orders.{numbers_from}
use Rattle.lft_blocks.specs.declared.attachment.Attachment.{Attachment}
use Rattle.lft_blocks.specs.Entries.{Next}
use Rattle.lft_blocks.specs.Attachment.{meant}
use Rattle.lft_blocks.specs.Plan.{SwitchTable}

-- the attachment of `lid`, with the GUID of its switch; None if `lid` has no attachment. `attachments` has the switches
-- by index
abbrev pub attachment_by_index : List ℕ → List (Option Attachment) → ℕ → Option (ℕ × ℕ)
attachment_by_index guids attachments lid = option_map (meant guids) (slice_index_or attachments lid None)

-- whether an attachment is at the switch at index `t`; false if there is no attachment
abbrev pub is_attachment_at : ℕ → Option Attachment → Bool
is_attachment_at t None = false
is_attachment_at t (Some h) = h.switch == t

-- the LIDs that are attached to the switch at index `t`, in ascending order
abbrev pub lids_at : List (Option Attachment) → ℕ → List ℕ
lids_at attachments t =
    filter (λ lid. is_attachment_at t (slice_index_or attachments lid None)) (numbers_from 0 (length attachments))

-- the LIDs below `n` that are attached to the switch at index `t`, in ascending order
abbrev pub lids_before : List (Option Attachment) → ℕ → ℕ → List ℕ
lids_before attachments n t =
    filter (λ lid. is_attachment_at t (slice_index_or attachments lid None)) (numbers_from 0 n)

-- `lists` has, for each of `switches` switches, the LIDs below `n` that are attached to it
pub record AreLidsAt (attachments : List (Option Attachment)) (n switches : ℕ) (lists : List (List ℕ)) : Type 0 where
  pub all : length lists ≡ switches
  pub each : (t : ℕ) → t < switches → slice_index_or lists t [] ≡ lids_before attachments n t

-- the port of an attachment; 255 if there is no attachment
abbrev pub attachment_port : Option Attachment → ℕ
attachment_port None = 255
attachment_port (Some h) = h.port

-- the entry for `lid`: if `is_own`, the port of the LID's attachment, and otherwise `port`; 255 if there is no such
-- port
abbrev pub entry_by : List (Option Attachment) → Bool → ℕ → Option ℕ → ℕ
entry_by attachments is_own lid port =
    if is_own then attachment_port (slice_index_or attachments lid None) else unwrap_or port 255

-- the entry for `lid` of the switch at index `own`, if `lid` has the given attachment. It is 255 if there is no
-- attachment, if the index of its switch is not below `t`, or if there is no next port
abbrev pub entry_before : Next → List ℕ → ℕ → ℕ → ℕ → Option Attachment → ℕ
entry_before next guids t own lid None = 255
entry_before next guids t own lid (Some h) =
    if nat_lt h.switch t then
    (if h.switch == own then h.port else unwrap_or (next lid (slice_index guids own) (slice_index guids h.switch))
    255) else 255

-- `row` has the entries of the switch at index `own` for LIDs that are attached to the first `t` switches, and 255 for
-- other LIDs
pub record IsRow (next : Next) (guids : List ℕ) (attachments : List (Option Attachment)) (t own : ℕ) (row : List ℕ) :
    Type 0 where
  pub all : length row ≡ length attachments
  pub entries : (lid : ℕ) → lid < length attachments → slice_index row lid
      ≡ entry_before next guids t own lid (slice_index_or attachments lid None)

-- for each switch, `rows` has its entries for LIDs that are attached to the first `t` switches, and 255 for other LIDs
pub record AreRows (next : Next) (guids : List ℕ) (attachments : List (Option Attachment)) (t : ℕ)
    (rows : List (List ℕ)) : Type 0 where
  pub all : length rows ≡ length guids
  pub each : (own : ℕ) → own < length guids → IsRow next guids attachments t own (slice_index_or rows own [])

-- block `b` of a row: the 64 entries that start at the LID 64 `b`
abbrev pub block_of_row : List ℕ → ℕ → List ℕ
block_of_row row b = map (λ i. slice_index row (64 * b + i)) (range_with_len 0 64)

-- the first `count` blocks of a row
abbrev pub blocks_of_row : List ℕ → ℕ → List (List ℕ)
blocks_of_row row count = map (block_of_row row) (range_with_len 0 count)

-- the table of the switch at index `own`, with `count` blocks, from the rows of all switches
abbrev pub table_of_row : List ℕ → List (List ℕ) → ℕ → ℕ → SwitchTable
table_of_row guids rows count own =
    record { guid = slice_index guids own; blocks = blocks_of_row (slice_index_or rows own []) count }
