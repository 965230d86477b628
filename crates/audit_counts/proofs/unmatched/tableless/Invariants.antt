use Rattle.std.proofs.Common.{◌≡◌, take}
use Rattle.std.specs.Prelude.{not}
use Rattle.audit_counts.specs.FirstFew.{listed_of}
use Rattle.audit_counts.specs.Unmatched.{is_held}
use Rattle.audit_counts.proofs.unmatched.tableless.Given as goal

-- the switches so far
abbrev pub invariant-loop-guid : goal.invariant-loop-guid
invariant-loop-guid l = l.few ≡ listed_of l.most (λ g. not (is_held l.held g)) (take l.guid-index l.guids)
