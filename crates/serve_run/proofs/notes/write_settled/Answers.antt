use Rattle.std.specs.Prelude.{codes}
use Rattle.byte_io.proofs.Writing.{writes_then}
use Rattle.serve_run.specs.Decided.{ports_text}
use Rattle.serve_run.proofs.notes.write_settled.Goals as goal

pub returns : goal.returns
returns g c =
    record { writes = writes_then _ _ _ _ _ _ (codes "settled ") (ports_text c.args.ports) c.in_ok-write.ensures.writes.ok c.write_ports.ensures.writes }
