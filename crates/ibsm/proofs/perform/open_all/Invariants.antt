use Rattle.ibsm.proofs.Opened.{HaveAsked}
use Rattle.ibsm.proofs.perform.open_all.Given as goal

-- the names so far were asked for
abbrev pub invariant-loop-input : goal.invariant-loop-input
invariant-loop-input g l = HaveAsked (g.R.Opener.answers l.rt) l.names l.has_memory l.input l.files.items
