use Rattle.std.proofs.Common.{◌≡◌, take}
use Rattle.held_tables.specs.Tables.{without_repetitions}
use Rattle.held_tables.proofs.Once.{AreKeys}
use Rattle.held_tables.proofs.lines.lines_of.Given as goal

-- the lines so far, each once, and their keys
abbrev pub invariant-loop-line : goal.invariant-loop-line
invariant-loop-line l = (l.lines.items ≡ without_repetitions (take l.line-index l.line-items)) × AreKeys (take l.line-index l.line-items) l.told
