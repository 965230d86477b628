use Rattle.std.proofs.Common.{◌+◌, ℕ, List, [], sym, subst, take, drop, get_or}
use Rattle.std.specs.List.{enumerate_from}
use Rattle.byte_io.proofs.Writing.{HasWritten, written_all, written_more, wrote}
use Rattle.lft_blocks.specs.PlanText.{block_line}
use Rattle.lft_blocks.proofs.Enumerated.{seen_more, next_index, none_left}
use Rattle.lft_blocks.proofs.plan_text.write_blocks.Goals as goal

pub loop-b-preserved : goal.loop-b-preserved
loop-b-preserved g c =
    let blocks = c.args.blocks.now in
    let b = c.loop-b.b in
    let lines = enumerate_from 0 blocks in
    let Written : List (ℕ × List ℕ) → Type 0 = λ given. HasWritten g.W.Sink.written g.W.Sink.has_failed block_line c.args.sink.now c.write_block.new.sink given
    (drop (b + 1) lines) lines in
    subst Written (sym (seen_more blocks b [] c.loop-b-test.true))
    (written_more g.W.Sink.written g.W.Sink.has_failed block_line _ _ _ (take b lines) (drop b lines) (drop (b + 1) lines) lines (b, get_or blocks b [])
    c.loop-b.invariant (next_index blocks b [] c.loop-b-test.true) (wrote g.W.Sink.written g.W.Sink.has_failed _ _ _ _ c.in_ok-write_block.ensures))

pub returns : goal.returns
returns g c =
    let blocks = c.args.blocks.now in
    let b = c.loop-b.b in
    let lines = enumerate_from 0 blocks in
    written_all g.W.Sink.written g.W.Sink.has_failed block_line _ _ (take b lines) (drop b lines) lines c.loop-b.invariant
    (none_left blocks b [] c.loop-b-test.false)
