-- Nothing is nearer than the target, nor where no number is known.
use Rattle.std.proofs.Common.{sym, ◌∙◌, arith}
use Rattle.port_graph.proofs.NextPorts.{none_nearer, none_below}
use Rattle.port_graph.proofs.next_port.port_nearer.Goals as goal

pub returns-in_err-number : goal.returns-in_err-number
returns-in_err-number c = c.from_residual.ensures ∙ sym (none_nearer c.args.edges.now c.args.numbers.now c.args.number c.in_err-number.was)

pub returns-in_err-nearer : goal.returns-in_err-nearer
returns-in_err-nearer c =
    c.from_residual-in_err-nearer.ensures
    ∙ sym (none_below c.args.edges.now c.args.numbers.now c.args.number c.in_ok-number.field-0 c.in_ok-number.was (omega (arith, c.in_err-nearer.ensures)))
