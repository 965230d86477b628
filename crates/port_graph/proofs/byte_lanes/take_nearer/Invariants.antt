use Rattle.std.proofs.Common.{◌≡◌, ◌<◌, ◌≤◌, ℕ}
use Rattle.std.specs.Prelude.{slice_index}
use Rattle.port_graph.specs.ByteLanes.{nearer}
use Rattle.port_graph.proofs.byte_lanes.take_nearer.Given as goal

-- the lanes so far have the nearer, and those that are left what they had
abbrev pub invariant-loop-lane : goal.invariant-loop-lane
invariant-loop-lane l =
    record {
      done : (k : ℕ) → k < l.lane → (slice_index l.found.numbers k, slice_index l.found.ports k)
          ≡ nearer (slice_index l.initial.found.numbers k, slice_index l.initial.found.ports k) (slice_index l.numbers k) l.port;
      numbers_left : (k : ℕ) → l.lane ≤ k → slice_index l.found.numbers k ≡ slice_index l.initial.found.numbers k;
      ports_left : (k : ℕ) → l.lane ≤ k → slice_index l.found.ports k ≡ slice_index l.initial.found.ports k;
    }
