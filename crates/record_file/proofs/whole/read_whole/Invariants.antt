use Rattle.std.proofs.Common.{◌≡◌, ◌-◌, ◌^◌}
use Rattle.byte_io.specs.Reading.{state_of}
use Rattle.byte_io.proofs.Readings.{HasTaken, fresh}
use Rattle.record_file.proofs.whole.read_whole.Given as goal

-- so many bytes were taken, in whole pieces
abbrev pub invariant-loop-bytes : goal.invariant-loop-bytes
invariant-loop-bytes g l =
    let start = fresh g.S.Source.state l.fn.source in
    let now = state_of g.S.Source.state l.reading in
    record {
      same_source : l.reading.source.ghost_name ≡ l.initial.reading.source.ghost_name;
      taken : HasTaken start now l.bytes.items;
    }

abbrev pub decreases-loop-bytes : goal.decreases-loop-bytes
decreases-loop-bytes g l = 2 ^ 40 - l.reading.budget.bytes
