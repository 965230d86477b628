use Rattle.std.proofs.Common.{◌≡◌, take}
use Rattle.std.specs.Prelude.{not}
use Rattle.fact_store.specs.View.{cells_of}
use Rattle.subnet_view.specs.EndPort.{end_ports}
use Rattle.held_tables.specs.Tables.{is_owner}
use Rattle.audit_counts.specs.FirstFew.{listed_of}
use Rattle.audit_counts.proofs.unmatched.unowned.Given as goal

-- the LIDs so far
abbrev pub invariant-loop-line : goal.invariant-loop-line
invariant-loop-line l = l.few ≡ listed_of l.most (λ line. not (is_owner (end_ports (cells_of l.store)) line.port)) (take l.line-index l.lines)
