use Rattle.std.proofs.Common.{ℕ, Ok, subst}
use Rattle.lft_blocks.specs.PlanText.{switch_line}
use Rattle.byte_io.specs.Writes.{Writes}
use Rattle.schedule_lines.specs.Tables.{blocks_text, table_text}
use Rattle.byte_io.proofs.Writing.{wrote}
use Rattle.schedule_lines.proofs.Printing.{prints_then}
use Rattle.schedule_lines.proofs.tables.write_table.Goals as goal

pub returns : goal.returns
unfolding table_text
returns g c =
    let a = c.args.agent.now in
    let Written : ℕ → ℕ → Type 0 = λ top guid. Writes g.W.Sink.written g.W.Sink.has_failed (Ok c.in_ok-write_switch.field-0) c.args.sink.now
    c.write_switch.new.sink (switch_line top guid) in
    let written : Written a.top a.node.guid = subst (Written a.top) c.guid.ensures
    (subst (λ (top : ℕ). Written top c.guid.result) c.top.ensures c.in_ok-write_switch.ensures) in
    record {
      prints = prints_then g.W.Sink.written g.W.Sink.has_failed c.write_blocks.result c.args.sink.now c.write_switch.new.sink c.write_blocks.new.sink
          (switch_line a.top a.node.guid) (blocks_text a)
          (wrote g.W.Sink.written g.W.Sink.has_failed c.in_ok-write_switch.field-0 c.args.sink.now c.write_switch.new.sink _ written)
          c.write_blocks.ensures.prints;
    }
