use Rattle.std.proofs.Common.{◌≡◌, ◌-◌, ◌^◌, ◌<◌, [], length, IsTrue}
use Rattle.byte_io.specs.Reading.{EachCallTakes, Takes, state_of}
use Rattle.byte_io.proofs.Readings.{IsUntouched}
use Rattle.byte_io.proofs.reading.Reading.piece.Given as goal

-- nothing was taken, each call was interrupted, and none failed
abbrev pub invariant-loop-self : goal.invariant-loop-self
invariant-loop-self g l =
    let old = state_of g.S.Source.state l.initial.self in
    let now = state_of g.S.Source.state l.self in
    record {
      same_source : l.self.source.ghost_name ≡ l.initial.self.source.ghost_name;
      room : 0 < length l.room;
      taken : Takes old now [];
      each : EachCallTakes old now;
      kept : (g.S.Source.state l.self.source.now).has_failed ≡ (g.S.Source.state l.initial.self.source.now).has_failed;
      untouched : IsTrue (g.S.Source.state l.self.source.now).has_failed → IsUntouched old now;
    }

abbrev pub decreases-loop-self : goal.decreases-loop-self
decreases-loop-self g l = 2 ^ 40 - l.self.budget.calls
