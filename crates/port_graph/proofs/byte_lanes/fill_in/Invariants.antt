use Rattle.std.proofs.Common.{◌≡◌, ◌<◌, ◌≤◌, ℕ, cond}
use Rattle.std.specs.Prelude.{nat_lt, slice_index}
use Rattle.port_graph.proofs.byte_lanes.fill_in.Given as goal

-- the lanes so far are filled in, and those that are left have what they had
abbrev pub invariant-loop-lane : goal.invariant-loop-lane
invariant-loop-lane l =
    record {
      numbers : (k : ℕ) → k < l.lane → slice_index l.hops.numbers k
          ≡ cond (nat_lt (slice_index l.initial.hops.numbers k) 255) (slice_index l.initial.hops.numbers k) (slice_index l.others.numbers k);
      ports : (k : ℕ) → k < l.lane → slice_index l.hops.ports k
          ≡ cond (nat_lt (slice_index l.initial.hops.numbers k) 255) (slice_index l.initial.hops.ports k) (slice_index l.others.ports k);
      numbers_left : (k : ℕ) → l.lane ≤ k → slice_index l.hops.numbers k ≡ slice_index l.initial.hops.numbers k;
      ports_left : (k : ℕ) → l.lane ≤ k → slice_index l.hops.ports k ≡ slice_index l.initial.hops.ports k;
    }
