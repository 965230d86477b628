use Rattle.std.proofs.Common.{◌≡◌, ◌-◌, ◌^◌, ℕ, List}
use Rattle.byte_io.specs.Reading.{state_of}
use Rattle.record_file.proofs.AbsorbLemmas.{Progress}
use Rattle.byte_io.proofs.Readings.{fresh}
use Rattle.record_file.proofs.absorb_all.absorb_by.Given as goal

-- pieces were taken and fed, without a fault
abbrev pub invariant-loop-count : goal.invariant-loop-count
invariant-loop-count g l =
    let start = fresh g.S.Source.state l.fn.source in
    let now = state_of g.S.Source.state l.reading in
    record {
      same_source : l.reading.source.ghost_name ≡ l.initial.reading.source.ghost_name;
      progress : (taken : List ℕ) × Progress start now l.absorber l.initial.store l.store taken;
    }

abbrev pub decreases-loop-count : goal.decreases-loop-count
decreases-loop-count g l = 2 ^ 40 - l.reading.budget.bytes
