-- Only end ports of a row may lack a service level.
use Rattle.std.proofs.Common.{◌≡◌, ◌<◌, ◌∙◌, ℕ, true, false, cond, not, List, [], ◌∷◌, Option, None, Some, Contains, refl, ap, sym, arith}
use Rattle.std.specs.Prelude.{◌/◌, ◌%◌, filter, is_some, map, nat_lt, slice_index}
use Rattle.std.specs.List.{range_with_len}
use Rattle.std.proofs.lemmas.List.FromFn.{get_or-range_with_len, length-range_with_len}
use Rattle.smp_bytes.proofs.Members.{list_all_at}
use Rattle.held_tables.specs.declared.held.HeldLid.{HeldLid}
use Rattle.held_tables.specs.Tables.{is_same_end}
use Rattle.audit_counts.specs.declared.site.Site.{Site}
use Rattle.audit_counts.specs.Site.{are_adapters, are_joined}
use Rattle.lanes_file.specs.Lanes.{LanesSaid, level_by}
use Rattle.lanes_file.specs.declared.lanes.LevelBlock.{LevelBlock}
use Rattle.audit_run.specs.declared.level_row.RowSender.{RowSender}
use Rattle.audit_run.specs.declared.levels_missing.PacketPair.{PacketPair}
use Rattle.audit_run.specs.LevelRow.{is_full, missing_in_row, row_of, sender_at, sender_lacks}
use Rattle.audit_run.specs.LevelsMissing.{lacks_level, missing_for, pair_of}
use Rattle.audit_run.proofs.NoneMissing.{none_fourth}

-- a number below n is one of the first n
below : (n p : ℕ) → p < n → Contains (range_with_len 0 n) p
below n p less = (p, omega (arith, length-range_with_len 0 n), get_or-range_with_len 0 n p p less ∙ omega arith)

-- a full block has a level for each of its LIDs
full_has : (own : Option ℕ) (index : ℕ) (block : Option LevelBlock) → index < 64 → is_full block ≡ true → is_some (level_by own index block) ≡ true
full_has own index None less e = absurd (cc)
full_has own index (Some block) less e =
    ap (λ t. is_some (cond t (Some (slice_index block.levels index)) own))
    (list_all_at (λ i. nat_lt (slice_index block.levels i) 16) (range_with_len 0 64) e index (below 64 index less))

module _ (said : LanesSaid) (line : HeldLid) (owner : Site) where
  lacks_none : (sender : RowSender) → is_full sender.block ≡ true → sender_lacks said line owner sender ≡ false
  lacks_none sender full =
      none_fourth (are_joined sender.site owner) (are_adapters sender.site.port owner.port) (not (is_same_end sender.site.port owner.port))
      (is_some (level_by said.level (line.lid % 64) sender.block)) (full_has said.level (line.lid % 64) sender.block (omega arith) full)

  abbrev lacking : List Site → List Site
  lacking sites = filter (lacks_level said line owner) sites

  abbrev in_row : List RowSender → List RowSender
  in_row senders = filter (sender_lacks said line owner) senders

  -- the packets that lack a level are those of the row
  pub same_missing : (sites : List Site) → missing_in_row said (row_of said sites (line.lid / 64)) line owner ≡ missing_for said sites line owner
  same_missing [] = refl
  same_missing (site ∷ sites) =
      let sender = sender_at said (line.lid / 64) site in
      let row = row_of said sites (line.lid / 64) in
      let rest = same_missing sites in
      let pairs : List RowSender → List PacketPair = λ senders. map (λ s. pair_of line s.site) senders in
      elim (is_full sender.block)
      as (λ t. is_full sender.block ≡ t → pairs (in_row (cond (not t) (sender ∷ row) row))
      ≡ map (pair_of line) (cond (sender_lacks said line owner sender) (site ∷ lacking sites) (lacking sites))) [
        | true ↦ λ full. rest ∙ sym (ap (λ t. map (pair_of line) (cond t (site ∷ lacking sites) (lacking sites))) (lacks_none sender full))
        | false ↦ λ some. elim (sender_lacks said line owner sender)
            as (λ t. pairs (cond t (sender ∷ in_row row) (in_row row)) ≡ map (pair_of line) (cond t (site ∷ lacking sites) (lacking sites))) [
              | true ↦ ap (λ ps. pair_of line site ∷ ps) rest
              | false ↦ rest
            ]
      ] refl
