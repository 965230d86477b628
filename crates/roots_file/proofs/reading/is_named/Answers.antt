-- A line that does not name the root.
use Rattle.std.proofs.Common.{sym, ◌∙◌}
use Rattle.roots_file.proofs.Folds.{passed_more}
use Rattle.roots_file.proofs.reading.is_named.Goals as goal

pub loop-preserved : goal.loop-preserved
loop-preserved c =
    passed_more c.args.text.now c.loop.rest.now c.args.root c.args.count c.loop.counter c.in-Some.line.now c.in-Some.later.now c.loop-test.true
    c.loop.invariant c.in-Some.ensures.line (sym c.names.ensures ∙ c.if-names.false)
