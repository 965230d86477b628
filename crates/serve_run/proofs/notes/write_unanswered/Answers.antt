use Rattle.std.proofs.Common.{ap}
use Rattle.std.specs.Prelude.{codes}
use Rattle.hex.specs.Hex.{encode_lower}
use Rattle.byte_io.proofs.Writing.{writes_as, writes_then}
use Rattle.serve_run.proofs.notes.write_unanswered.Goals as goal

pub returns : goal.returns
returns g c =
    let hex = writes_as _ _ _ _ _ _ _ (ap encode_lower c.bytes.ensures.bytes) c.write_hex.ensures.writes in
    record { writes = writes_then _ _ _ _ _ _ (codes "unanswered ") (encode_lower c.args.request.now) c.in_ok-write.ensures.writes.ok hex }
