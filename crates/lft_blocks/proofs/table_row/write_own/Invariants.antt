use Rattle.std.proofs.Common.{◌≡◌, drop, length}
use Rattle.std.specs.Prelude.{None, slice_index_or}
use Rattle.spread_routes.specs.Exits.{with_entries}
use Rattle.lft_blocks.specs.TableRow.{attachment_port}
use Rattle.lft_blocks.proofs.table_row.write_own.Given as goal

-- the LIDs that are left do the rest
abbrev pub invariant-loop-lid : goal.invariant-loop-lid
invariant-loop-lid l =
    record {
      all : length l.entries ≡ length l.fn.entries;
      left : with_entries (λ lid. attachment_port (slice_index_or l.attachments lid None)) l.entries (drop l.lid-index l.lids)
          ≡ with_entries (λ lid. attachment_port (slice_index_or l.attachments lid None)) l.fn.entries l.lids;
    }
