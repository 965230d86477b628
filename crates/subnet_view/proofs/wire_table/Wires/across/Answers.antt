-- The links of the two ends are asked for.
use Rattle.std.proofs.Common.{sym, ◌∙◌, true, false}
use Rattle.fact_store.specs.View.{cells_of}
use Rattle.subnet_view.proofs.EndPairs.{across_at, no_end}
use Rattle.subnet_view.proofs.wire_table.Wires.across.Goals as goal

pub returns-in_err-far_node : goal.returns-in_err-far_node
returns-in_err-far_node c =
    c.from_residual.ensures ∙ sym
    (no_end (cells_of c.args.self.now) c.args.node c.args.port (sym c.end_link.ensures ∙ c.in_err-far_node.was))

pub returns-then-is_pair : goal.returns-then-is_pair
returns-then-is_pair c =
    sym (across_at (cells_of c.args.self.now) c.args.node c.args.port
    (c.in_ok-far_node.far_node, c.in_ok-far_node.far_port) c.end_link-back.result true
    (sym c.end_link.ensures ∙ c.in_ok-far_node.was) c.end_link-back.ensures (sym c.is_pair.ensures ∙ c.if-is_pair.true))

pub returns-else-is_pair : goal.returns-else-is_pair
returns-else-is_pair c =
    sym (across_at (cells_of c.args.self.now) c.args.node c.args.port
    (c.in_ok-far_node.far_node, c.in_ok-far_node.far_port) c.end_link-back.result false
    (sym c.end_link.ensures ∙ c.in_ok-far_node.was) c.end_link-back.ensures (sym c.is_pair.ensures ∙ c.if-is_pair.false))
