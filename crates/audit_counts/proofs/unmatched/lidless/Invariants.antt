use Rattle.std.proofs.Common.{◌≡◌, take}
use Rattle.std.specs.Prelude.{not}
use Rattle.audit_counts.specs.FirstFew.{listed_of}
use Rattle.audit_counts.specs.Unmatched.{has_lid}
use Rattle.audit_counts.proofs.unmatched.lidless.Given as goal

-- the end ports so far
abbrev pub invariant-loop-port : goal.invariant-loop-port
invariant-loop-port l = l.few ≡ listed_of l.most (λ e. not (has_lid l.held e)) (take l.port-index l.ports)
