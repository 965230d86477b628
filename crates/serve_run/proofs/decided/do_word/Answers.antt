use Rattle.std.proofs.Common.{refl}
use Rattle.std.proofs.lemmas.Result.{err_from_is_err_and}
use Rattle.byte_io.proofs.Writing.{prints_nothing}
use Rattle.schedule_lines.proofs.Printing.{ends_unprinted}
use Rattle.serve_run.proofs.decided.do_word.Goals as goal

pub returns-in_err-handle_packet-in-Packet : goal.returns-in_err-handle_packet-in-Packet
returns-in_err-handle_packet-in-Packet g c =
    let from = c.from_residual-in_err-handle_packet-in-Packet in
    let p = err_from_is_err_and from.result from.ensures.1 in
    record {
      does = rw (p.1, p.2) (record {
        leaves = tt;
        prints = ends_unprinted g.W.Sink.written g.W.Sink.has_failed c.args.sink.now c.args.sink.now _ refl;
      });
    }

pub returns-in_ok-handle_packet-in-Packet : goal.returns-in_ok-handle_packet-in-Packet
returns-in_ok-handle_packet-in-Packet g c = record {
  does = rw c.in-Packet.is (record {
    leaves = c.in_ok-handle_packet-in-Packet.ensures;
    prints = prints_nothing g.W.Sink.written g.W.Sink.has_failed c.args.sink.now;
  });
}
