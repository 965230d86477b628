use Rattle.std.proofs.Common.{drop}
use Rattle.schedule_lines.proofs.Printing.{IsUnderWay}
use Rattle.serve_run.specs.Served.{after_giving_up}
use Rattle.serve_run.proofs.served.give_up.Given as goal

-- the requests that are left are yet to be given up
abbrev pub invariant-loop-transaction : goal.invariant-loop-transaction
invariant-loop-transaction g l =
    IsUnderWay g.W.Sink.written g.W.Sink.has_failed l.initial.sink l.sink (after_giving_up l.initial.manager l.transaction-items)
    (after_giving_up l.manager (drop l.transaction-index l.transaction-items))
