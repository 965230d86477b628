use Rattle.std.proofs.Common.{◌∙◌, List, [], ℕ, ap, sym, subst}
use Rattle.std.proofs.lemmas.Result.{err_from_is_err_and}
use Rattle.byte_io.proofs.Writing.{wrote}
use Rattle.serve_run.specs.Seat.{seat_of}
use Rattle.serve_run.specs.Server.{value_of}
use Rattle.serve_run.proofs.Going.{Going, goes_first, goes_more, has_served, not_failed, piece_ends, piece_goes, piece_stops, reads_spent}
use Rattle.serve_run.proofs.server.Server.serve_all.Goals as goal

pub loop-init : goal.loop-init
loop-init g c =
    let From : List ℕ → Type 0 = λ begun. Going g.S.Source.state g.W.Sink.written g.W.Sink.has_failed c.args.lines.now c.args.lines.now (seat_of c.args.self.now.seated)
    (record { seat = seat_of c.args.self.now.seated; begun = begun }) c.args.sink.now c.flush.new.self 0 in
    record {
      goes = subst From (sym c.requires)
          (goes_first g.S.Source.state g.W.Sink.written g.W.Sink.has_failed c.args.lines.now (seat_of c.args.self.now.seated) c.args.sink.now c.flush.new.self
          (wrote g.W.Sink.written g.W.Sink.has_failed c.in_ok-flush.field-0 c.args.sink.now c.flush.new.self [] c.in_ok-flush.ensures.writes));
      flushed = c.in_ok-flush.ensures.flushed;
      works = not_failed (g.W.Sink.has_failed c.flush.new.self) c.in_ok-flush.field-0 c.in_ok-flush.ensures.writes.failed;
    }

pub serve_piece-requires : goal.serve_piece-requires
serve_piece-requires g c = c.loop.invariant.flushed

pub returns-in_err-serve_piece-clause-stopped : goal.returns-in_err-serve_piece-clause-stopped
returns-in_err-serve_piece-clause-stopped g c =
    let p = err_from_is_err_and c.from_residual-in_err-serve_piece.result c.from_residual-in_err-serve_piece.ensures.1 in
    rw (p.1, p.2)
    (piece_stops g.S.Source.state g.W.Sink.written g.W.Sink.has_failed c.args.lines.now c.loop.lines c.serve_piece.new.lines (seat_of c.args.self.now.seated)
    (value_of c.loop.self) (value_of c.serve_piece.new.self) c.args.sink.now c.loop.sink c.serve_piece.new.sink c.loop.counter c.loop.invariant.goes
    c.in_err-serve_piece.field-0.0 c.in_err-serve_piece.ensures.serves)

pub returns-then-not-branch-clause-served : goal.returns-then-not-branch-clause-served
returns-then-not-branch-clause-served g c =
    has_served g.S.Source.state g.W.Sink.written g.W.Sink.has_failed c.args.lines.now c.loop.lines c.serve_piece.new.lines (seat_of c.args.self.now.seated)
    (value_of c.loop.self) (value_of c.serve_piece.new.self) c.args.sink.now c.loop.sink c.serve_piece.new.sink c.loop.counter c.loop.invariant.goes
    (piece_ends g.S.Source.state g.W.Sink.written g.W.Sink.has_failed c.loop.lines c.serve_piece.new.lines
    (value_of c.loop.self) (value_of c.serve_piece.new.self) c.loop.sink c.serve_piece.new.sink c.in_ok-serve_piece.field-0 c.if-not-branch.true
    c.in_ok-serve_piece.ensures.serves)

pub returns-then-not-branch-clause-sink_works : goal.returns-then-not-branch-clause-sink_works
returns-then-not-branch-clause-sink_works g c =
    let over = piece_ends g.S.Source.state g.W.Sink.written g.W.Sink.has_failed c.loop.lines c.serve_piece.new.lines
    (value_of c.loop.self) (value_of c.serve_piece.new.self) c.loop.sink c.serve_piece.new.sink c.in_ok-serve_piece.field-0 c.if-not-branch.true
    c.in_ok-serve_piece.ensures.serves in
    ap g.W.Sink.has_failed over.same_sink ∙ c.loop.invariant.works

pub loop-preserved : goal.loop-preserved
loop-preserved g c =
    let more = piece_goes g.S.Source.state g.W.Sink.written g.W.Sink.has_failed c.loop.lines c.serve_piece.new.lines
    (value_of c.loop.self) (value_of c.serve_piece.new.self) c.loop.sink c.serve_piece.new.sink c.in_ok-serve_piece.field-0 c.if-not-branch.false
    c.in_ok-serve_piece.ensures.serves in
    record {
      goes = goes_more g.S.Source.state g.W.Sink.written g.W.Sink.has_failed c.args.lines.now c.loop.lines c.serve_piece.new.lines (seat_of c.args.self.now.seated)
          (value_of c.loop.self) (value_of c.serve_piece.new.self) c.args.sink.now c.loop.sink c.serve_piece.new.sink c.loop.counter
          c.loop.invariant.goes more;
      flushed = c.in_ok-serve_piece.ensures.flushed;
      works = more.prints.works c.loop.invariant.works;
    }

pub returns-clause-stopped : goal.returns-clause-stopped
returns-clause-stopped g c =
    reads_spent g.S.Source.state g.W.Sink.written g.W.Sink.has_failed c.args.lines.now c.loop.lines (seat_of c.args.self.now.seated) (value_of c.loop.self)
    c.args.sink.now c.loop.sink c.loop.counter c.loop.invariant.goes c.loop-test.false
