use Rattle.std.proofs.Common.{◌∙◌, ◌+◌, drop, get_or, sym, ap, subst}
use Rattle.std.proofs.lemmas.Result.{err_from_is_err_and}
use Rattle.schedule_lines.specs.Outcome.{Outcome}
use Rattle.schedule_lines.proofs.Printing.{IsUnderWay, begins, goes_on, is_over, stops_in}
use Rattle.serve_run.specs.Kept.{ServerValue, after_byte, after_bytes}
use Rattle.serve_run.specs.Server.{value_of}
use Rattle.serve_run.proofs.Turns.{bytes_next, bytes_none}
use Rattle.serve_run.proofs.server.Server.serve_bytes.Goals as goal

pub loop-byte-preserved : goal.loop-byte-preserved
loop-byte-preserved g c =
    let bytes = c.args.bytes.now in
    let i = c.loop-byte.byte-index in
    let s = value_of c.loop-byte.self in
    let whole = after_bytes (value_of c.args.self.now) bytes in
    let Under : g.row.W.Denot → Outcome ServerValue → Type 0 =
    λ now outcome. IsUnderWay g.W.Sink.written g.W.Sink.has_failed c.args.sink.now now whole outcome in
    let gone = goes_on g.W.Sink.written g.W.Sink.has_failed c.args.sink.now c.loop-byte.sink c.serve_byte.new.sink whole
    (after_byte s (get_or bytes i 0)) (λ now. after_bytes now (drop (i + 1) bytes))
    (subst (Under c.loop-byte.sink) (bytes_next s bytes i c.loop-byte-test.true) c.loop-byte.invariant.deals)
    c.in_ok-serve_byte.ensures.serves.prints in
    record {
      deals = subst (λ v. Under c.serve_byte.new.sink (after_bytes v (drop (i + 1) bytes))) (sym c.in_ok-serve_byte.ensures.serves.leaves) gone;
      flushed = c.in_ok-serve_byte.ensures.flushed;
    }

pub loop-byte-init : goal.loop-byte-init
loop-byte-init g c = record {
  deals = begins g.W.Sink.written g.W.Sink.has_failed c.args.sink.now (after_bytes (value_of c.args.self.now) c.args.bytes.now);
  flushed = c.requires;
}

pub returns-in_err-serve_byte : goal.returns-in_err-serve_byte
returns-in_err-serve_byte g c =
    let p = err_from_is_err_and c.from_residual.result c.from_residual.ensures.1 in
    let bytes = c.args.bytes.now in
    let i = c.loop-byte.byte-index in
    let s = value_of c.loop-byte.self in
    let whole = after_bytes (value_of c.args.self.now) bytes in
    let Under : Outcome ServerValue → Type 0 =
    λ outcome. IsUnderWay g.W.Sink.written g.W.Sink.has_failed c.args.sink.now c.loop-byte.sink whole outcome in
    record {
      serves = rw (p.1, p.2) (record {
        leaves = tt;
        prints = stops_in g.W.Sink.written g.W.Sink.has_failed c.in_err-serve_byte.field-0.0 c.args.sink.now c.loop-byte.sink c.serve_byte.new.sink whole
            (after_byte s (get_or bytes i 0)) (λ now. after_bytes now (drop (i + 1) bytes))
            (subst Under (bytes_next s bytes i c.loop-byte-test.true) c.loop-byte.invariant.deals) c.in_err-serve_byte.ensures.serves.prints;
      });
      flushed = rw p.1 tt;
    }

pub returns : goal.returns
returns g c =
    let bytes = c.args.bytes.now in
    let s = value_of c.loop-byte.self in
    let whole = after_bytes (value_of c.args.self.now) bytes in
    let none = bytes_none s bytes c.loop-byte.byte-index c.loop-byte-test.false in
    record {
      serves = record {
        leaves = ap (λ r. r.now) (sym none) ∙ c.loop-byte.invariant.deals.same;
        prints = is_over g.W.Sink.written g.W.Sink.has_failed c.args.sink.now c.loop-byte.sink whole _ c.loop-byte.invariant.deals
            (ap (λ r. r.text) none);
      };
      flushed = c.loop-byte.invariant.flushed;
    }
