-- A switch more.
use Rattle.std.proofs.Common.{◌∙◌, ◌++◌, ◌∷◌, [], sym, ap, map, take, arith}
use Rattle.held_tables.specs.Switches.{node_by}
use Rattle.held_tables.specs.declared.wired_switch.WiredSwitch.{WiredSwitch}
use Rattle.held_tables.proofs.Mapped.{mapped_more}
use Rattle.held_tables.proofs.audited_switch.nodes.Goals as goal

pub loop-switch-preserved : goal.loop-switch-preserved
loop-switch-preserved c =
    let f = node_by c.args.held.now in
    let switches = c.args.switches.now in
    let i = c.loop-switch.switch-index in
    rw c.in_ok-push.ensures.items (rw c.loop-switch.invariant (rw c.in_ok-node_at.ensures
    (sym (mapped_more f switches i c.switch-item.result (omega arith) ∙ ap (λ (s : WiredSwitch). map f (take i switches) ++ f s ∷ []) (sym c.switch-item.is)))))
