use Rattle.std.proofs.Common.{◌≡◌, ◌<◌, ◌≤◌, ℕ, cond, ◌==◌}
use Rattle.std.specs.Prelude.{slice_index}
use Rattle.port_graph.proofs.byte_lanes.set_at_target.Given as goal

-- the lanes so far have 0 at their target, and those that are left what they had
abbrev pub invariant-loop-lane : goal.invariant-loop-lane
invariant-loop-lane l =
    record {
      done : (k : ℕ) → k < l.lane → slice_index l.numbers k ≡ cond (slice_index l.targets k == l.vertex) 0 (slice_index l.initial.numbers k);
      left : (k : ℕ) → l.lane ≤ k → slice_index l.numbers k ≡ slice_index l.initial.numbers k;
    }
