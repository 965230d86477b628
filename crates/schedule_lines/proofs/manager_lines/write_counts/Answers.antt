use Rattle.byte_io.proofs.Writing.{writes_then}
use Rattle.schedule_lines.specs.Lines.{counts_text}
use Rattle.schedule_lines.proofs.manager_lines.write_counts.Goals as goal

pub returns : goal.returns
unfolding counts_text
returns g c = record { writes = writes_then _ _ _ _ _ _ _ _ c.in_ok-write_count.ensures.writes.ok c.write_count-2.ensures.writes }
