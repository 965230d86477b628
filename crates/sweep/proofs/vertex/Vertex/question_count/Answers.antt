use Rattle.std.proofs.Common.{sym, ◌∙◌, arith}
use Rattle.sweep.proofs.Asked.{length_switch}
use Rattle.sweep.proofs.vertex.Vertex.question_count.Goals as goal

pub returns-then-is_switch-clause-count : goal.returns-then-is_switch-clause-count
returns-then-is_switch-clause-count c =
    let long = length_switch c.args.self.now (sym c.is_switch.ensures ∙ c.if-is_switch.true) in
    omega (arith, long, c.from.ensures)
