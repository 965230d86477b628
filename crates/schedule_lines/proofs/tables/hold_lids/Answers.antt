use Rattle.std.proofs.Common.{◌≡◌, ◌∙◌, ◌+◌, ◌++◌, map, sym, ap, arith}
use Rattle.std.specs.List.{filter, range_with_len}
use Rattle.schedule_lines.proofs.Held.{held_at, held_more, holds, holds_none, is_held}
use Rattle.schedule_lines.proofs.tables.hold_lids.Goals.{then-number-ne0+in_ok-push, else-number-ne0}
use Rattle.schedule_lines.proofs.tables.hold_lids.Goals as goal

pub loop-port-preserved : goal.loop-port-preserved
loop-port-preserved c =
    held_more c.args.agent.now c.args.held.now.items c.loop-port.held.items c.if-number-ne0.held.items c.loop-port.port c.loop-port.invariant
    (elim c.if-number-ne0.branch [
      | then-number-ne0+in_ok-push w ↦ ap (λ v. v.items) w.held-is ∙ w.in_ok-push.ensures.items
          ∙ holds c.args.agent.now _ _ _ _ _ _ c.base_lid-lid.ensures w.guid.ensures c.new-port.ensures w.lmc-lmc.ensures
          (λ e. w.if-number-ne0.true (c.number.ensures ∙ e))
      | else-number-ne0 w ↦ ap (λ v. v.items) w.held-is
          ∙ holds_none c.args.agent.now _ _ _ _ c.base_lid-lid.ensures c.new-port.ensures (sym c.number.ensures ∙ w.if-number-ne0.false)
    ])

pub returns-after-number-ne0 : goal.returns-after-number-ne0
returns-after-number-ne0 c =
    let more = held_more c.args.agent.now c.args.held.now.items c.loop-port.held.items c.if-number-ne0.held.items c.loop-port.port c.loop-port.invariant
    (elim c.if-number-ne0.branch [
      | then-number-ne0+in_ok-push w ↦ ap (λ v. v.items) w.held-is ∙ w.in_ok-push.ensures.items
          ∙ holds c.args.agent.now _ _ _ _ _ _ c.base_lid-lid.ensures w.guid.ensures c.new-port.ensures w.lmc-lmc.ensures
          (λ e. w.if-number-ne0.true (c.number.ensures ∙ e))
      | else-number-ne0 w ↦ ap (λ v. v.items) w.held-is
          ∙ holds_none c.args.agent.now _ _ _ _ c.base_lid-lid.ensures c.new-port.ensures (sym c.number.ensures ∙ w.if-number-ne0.false)
    ]) in
    let last : c.loop-port.port ≡ c.args.agent.now.node.ports = omega (arith, c.ports-port-end.ensures.count) in
    more ∙ ap (λ n. c.args.held.now.items ++ filter is_held (map (held_at c.args.agent.now) (range_with_len 0 (n + 1)))) last
