use Rattle.std.proofs.Common.{◌≡◌, ◌<◌, ℕ, false, true, length}
use Rattle.std.specs.Prelude.{slice_index}
use Rattle.port_graph.specs.ByteLanes.{IsOneMore}
use Rattle.port_graph.proofs.byte_lanes.one_more.Given as goal

-- if a lane so far was too great, it had 254; if none was, they have one more
abbrev pub invariant-loop-lane : goal.invariant-loop-lane
invariant-loop-lane l =
    record {
      all : length l.more ≡ 16;
      great : l.is_too_great ≡ true → (k : ℕ) × (k < l.lane) × (slice_index l.numbers k ≡ 254);
      done : l.is_too_great ≡ false → (k : ℕ) → k < l.lane → IsOneMore (slice_index l.numbers k) (slice_index l.more k);
    }
