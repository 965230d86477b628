use Rattle.std.proofs.Common.{◌≡◌, take}
use Rattle.std.specs.List.{flat_map}
use Rattle.fact_store.specs.View.{cells_of}
use Rattle.audit_counts.specs.FirstFew.{all_listed}
use Rattle.audit_run.specs.LevelRow.{IsRow}
use Rattle.audit_run.specs.LevelsMissing.{missing_at}
use Rattle.audit_run.proofs.levels_missing.pairs_at_sites.Given as goal

-- the packets for the LIDs so far, and a row of end ports
abbrev pub invariant-loop-line : goal.invariant-loop-line
invariant-loop-line l =
    (l.few ≡ all_listed l.most (flat_map (missing_at l.lanes (cells_of l.network.facts)) (take l.line-index l.line-items)))
    × IsRow l.lanes l.sites l.row.number l.row.senders.items
