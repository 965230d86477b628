-- A switch more.
use Rattle.std.proofs.Common.{◌+◌, ◌++◌, drop}
use Rattle.std.specs.List.{flat_map}
use Rattle.plan_tables.specs.PlanText.{switch_line}
use Rattle.tables_file.specs.PrintedTables.{block_text, switches_text}
use Rattle.byte_io.proofs.Writing.{part_more}
use Rattle.tables_file.proofs.TablesText.{switch_more}
use Rattle.tables_file.proofs.printed_tables.write_switches.Goals as goal

pub loop-index-preserved : goal.loop-index-preserved
loop-index-preserved g c =
    let switches = c.args.switches.now in
    let index = c.loop-index.index in
    let rest = c.loop-index.rest.now in
    let switch = c.index-switches-index.result in
    let own = c.split_blocks.result.0.now in
    let later = c.split_blocks.result.1.now in
    part_more g.W.Sink.written g.W.Sink.has_failed c.args.sink.now c.loop-index.sink c.write_held.new.sink
    (switches_text index (drop index switches) rest) (switches_text (index + 1) (drop (index + 1) switches) later)
    (switches_text 0 switches c.args.blocks.now) (switch_line switch.top switch.guid ++ flat_map block_text own)
    c.loop-index.invariant
    (switch_more switches rest index switch own later c.loop-index-test.true c.index-switches-index.is c.split_blocks.ensures.first
    c.split_blocks.ensures.later)
    c.in_ok-write_held.ensures
