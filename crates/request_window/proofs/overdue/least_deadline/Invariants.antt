use Rattle.std.proofs.Common.{◌≡◌, drop}
use Rattle.std.specs.Prelude.{None}
use Rattle.request_window.specs.Window.{least_deadline}
use Rattle.request_window.proofs.overdue.least_deadline.Given as goal

-- the least so far, with those that are left
abbrev pub invariant-loop-out : goal.invariant-loop-out
invariant-loop-out l = least_deadline (drop l.out-index l.outs) l.least ≡ least_deadline l.outs None
