-- Its parts in turn.
use Rattle.std.proofs.Common.{ap, subst}
use Rattle.std.specs.Prelude.{codes}
use Rattle.std.specs.List.{flat_map}
use Rattle.byte_io.specs.Prints.{Prints}
use Rattle.audit_report.specs.AuditText.{more_line}
use Rattle.byte_io.proofs.Writing.{part_as, part_then}
use Rattle.audit_run.specs.LaneText.{pair_line}
use Rattle.audit_run.proofs.lane_text.write_missing.Goals as goal

pub returns : goal.returns
returns g c =
    let first = subst (Prints g.W.Sink.written g.W.Sink.has_failed c.args.sink.now c.write_pairs.new.sink) (ap (flat_map pair_line) c.first.ensures)
    c.in_ok-write_pairs.ensures in
    let more = part_as _ _ _ _ _ _ _ (ap (more_line (codes "no-level")) c.more.ensures) c.write_more.ensures in
    part_then _ _ _ _ _ _ _ _ first more
