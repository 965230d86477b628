-- Nothing is found where there is nothing to find.
use Rattle.std.proofs.Common.{false, true}
use Rattle.audit_run.specs.AuditRun.{seen_of}
use Rattle.audit_run.proofs.Judged.{nothing_by_lane}
use Rattle.audit_run.proofs.audit_run.orders.Goals as goal

pub returns-then-has_nothing_to_find-clause-order : goal.returns-then-has_nothing_to_find-clause-order
returns-then-has_nothing_to_find-clause-order c =
    let none = c.has_nothing_to_find.ensures c.if-has_nothing_to_find.true in
    nothing_by_lane (seen_of c.args.audit.now.facts c.args.audit.now.held c.args.lanes.now) false c.nothing_found.result none.0 none.1
    c.nothing_found.ensures.cycle c.nothing_found.ensures.dropped

pub returns-then-has_nothing_to_find-clause-answers : goal.returns-then-has_nothing_to_find-clause-answers
returns-then-has_nothing_to_find-clause-answers c =
    let none = c.has_nothing_to_find.ensures c.if-has_nothing_to_find.true in
    nothing_by_lane (seen_of c.args.audit.now.facts c.args.audit.now.held c.args.lanes.now) true c.nothing_found-then-has_nothing_to_find.result none.0 none.1
    c.nothing_found-then-has_nothing_to_find.ensures.cycle c.nothing_found-then-has_nothing_to_find.ensures.dropped
