use Rattle.std.proofs.Common.{◌≡◌, ◌++◌, ℕ, List, take}
use Rattle.audit_counts.specs.FirstFew.{all_listed}
use Rattle.audit_run.specs.declared.levels_missing.PacketPair.{PacketPair}
use Rattle.audit_run.specs.LevelRow.{missing_in_row}
use Rattle.audit_run.proofs.levels_missing.add_for.Given as goal

-- the packets of the end ports so far
abbrev pub invariant-loop-index : goal.invariant-loop-index
invariant-loop-index l =
    (most : ℕ) (pairs : List PacketPair) → l.initial.few ≡ all_listed most pairs
    → l.few ≡ all_listed most (pairs ++ missing_in_row l.lanes (take l.index l.senders) l.line l.owner)
