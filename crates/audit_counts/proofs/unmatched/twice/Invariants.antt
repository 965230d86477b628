use Rattle.std.proofs.Common.{◌≡◌, take}
use Rattle.audit_counts.specs.FirstFew.{listed_of}
use Rattle.audit_counts.specs.Unmatched.{is_twice}
use Rattle.audit_counts.proofs.unmatched.twice.Given as goal

-- the LIDs so far
abbrev pub invariant-loop-line : goal.invariant-loop-line
invariant-loop-line l = l.few ≡ listed_of l.most (is_twice l.network.held) (take l.line-index l.line-items)
