use Rattle.std.proofs.Common.{◌≡◌, ◌∙◌, ◌+◌, ◌<◌, ◌/◌, ◌≤◌, Ok, List, ℕ, length, ap, subst}
use Rattle.lft_blocks.specs.PlanText.{block_line}
use Rattle.byte_io.specs.Writes.{Writes}
use Rattle.schedule_lines.specs.Tables.{block_shown, blocks_to}
use Rattle.schedule_lines.specs.Outcome.{Outcome, shows}
use Rattle.byte_io.proofs.Writing.{wrote}
use Rattle.schedule_lines.proofs.Printing.{IsUnderWay, goes_on, is_over}
use Rattle.schedule_lines.proofs.LinesFrom.{block_there, blocks_many, lines_from, lines_next, lines_none}
use Rattle.schedule_lines.proofs.tables.write_blocks.Goals as goal

pub loop-b-preserved : goal.loop-b-preserved
loop-b-preserved g c =
    let a = c.args.agent.now in
    let b = c.loop-b.b in
    let whole = lines_from (block_shown a) (blocks_to a.top) 0 in
    let Under : Outcome (Unit {0}) → Type 0 = λ outcome. IsUnderWay g.W.Sink.written g.W.Sink.has_failed c.args.sink.now c.loop-b.sink whole outcome in
    let Written : List ℕ → Type 0 = λ block. Writes g.W.Sink.written g.W.Sink.has_failed (Ok c.in_ok-write_block.field-0) c.loop-b.sink c.write_block.new.sink
    (block_line (b, block)) in
    let top : c.from-b-end.result ≡ a.top / 64 = c.from-b-end.ensures ∙ c.block.ensures ∙ ap (λ (t : ℕ). t / 64) c.top.ensures in
    goes_on g.W.Sink.written g.W.Sink.has_failed c.args.sink.now c.loop-b.sink c.write_block.new.sink whole (shows (block_shown a b) tt)
    (λ u. lines_from (block_shown a) (blocks_to a.top) (b + 1))
    (subst Under (lines_next (block_shown a) (blocks_to a.top) b b (block_there a.top b (subst (λ (t : ℕ). b < t + 1) top c.loop-b-test.true)))
    c.loop-b.invariant)
    (wrote g.W.Sink.written g.W.Sink.has_failed c.in_ok-write_block.field-0 c.loop-b.sink c.write_block.new.sink (block_shown a b)
    (subst Written c.block-in-loop-b.ensures c.in_ok-write_block.ensures))

pub returns : goal.returns
returns g c =
    let a = c.args.agent.now in
    let top : c.from-b-end.result ≡ a.top / 64 = c.from-b-end.ensures ∙ c.block.ensures ∙ ap (λ (t : ℕ). t / 64) c.top.ensures in
    let all : length (blocks_to a.top) ≤ c.loop-b.b = blocks_many a.top c.loop-b.b (subst (λ (t : ℕ). t + 1 ≤ c.loop-b.b) top c.loop-b-test.false) in
    record {
      prints = is_over g.W.Sink.written g.W.Sink.has_failed c.args.sink.now c.loop-b.sink (lines_from (block_shown a) (blocks_to a.top) 0) _ c.loop-b.invariant
          (ap (λ r. r.text) (lines_none (block_shown a) (blocks_to a.top) c.loop-b.b all));
    }
