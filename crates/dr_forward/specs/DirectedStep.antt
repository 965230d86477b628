-- One step of a packet on a directed route. The hop pointer says how far the packet has come. On the way out, each node
-- after the sender records the port by which the packet came in. On the way back, the packet leaves by the recorded
-- ports. InfiniBand Architecture Specification, Volume 1: directed route SMPs, outgoing and returning.
use Rattle.std.specs.Prelude.{ℕ, ◌+◌, ◌-◌, Bool, ◌||◌, List, nat_lt, ◌==◌, if◌then◌else◌}
use Rattle.smp_bytes.specs.Field.{number_in, with_number}
use Rattle.smp_bytes.specs.Packet.{hop_pointer, hop_count, initial_path, return_path, is_returning}
use Rattle.smp_bytes.specs.Ports.{is_within}
use Rattle.dr_forward.specs.declared.here.Here.{Here}
use Rattle.dr_forward.specs.declared.verdict.Verdict.{Verdict}
use Rattle.dr_forward.specs.declared.verdict.Verdict.TheVariants.{Out, ToAgent, ToManager, Discard}
use Rattle.dr_forward.specs.declared.verdict.DiscardReason.{DiscardReason}
use Rattle.dr_forward.specs.declared.verdict.DiscardReason.TheVariants.{Course, Transit, OutPort}

-- the outcome of a step: the packet after the step, and the verdict, which says where the packet goes
pub record Stepped : Type 0 where
  pub packet : List ℕ
  pub verdict : Verdict

-- the packet is discarded for `reason`, and is unchanged
abbrev pub discarded : List ℕ → DiscardReason → Stepped
discarded packet reason = record { packet = packet; verdict = Discard reason }

-- the packet with its hop pointer at `pointer`
abbrev pub pointed : ℕ → List ℕ → List ℕ
pointed pointer packet = with_number hop_pointer pointer packet

-- the packet with the port by which it came recorded for the way back, at index `at` of the return path
abbrev pub noted : ℕ → Here → List ℕ → List ℕ
noted at here packet = with_number (return_path at) here.arrival packet

-- whether `port` is from 1 to the node's port count
abbrev pub is_port : Here → ℕ → Bool
is_port here port = is_within port here.ports

-- the packet leaves by `port`, and is then `after`; if the node does not have this port, `packet` is discarded
abbrev pub leaves_by : Here → ℕ → List ℕ → List ℕ → Stepped
leaves_by here port packet after =
    if is_port here port then record { packet = after; verdict = Out port } else discarded packet OutPort

-- the packet with its hop pointer advanced, and the port by which it came in recorded; at its sender, where the pointer
-- is 0, no port is recorded
abbrev pub moved_on : Here → List ℕ → List ℕ
moved_on here packet =
    let at = number_in hop_pointer packet in
    if at == 0 then pointed 1 packet else noted at here (pointed (at + 1) packet)

-- a step before the end of the path: the packet leaves if it was sent from this node or if the node is a switch, and
-- the node has the next port of the path; otherwise it is discarded
abbrev pub goes_on : Here → List ℕ → Stepped
goes_on here packet =
    let at = number_in hop_pointer packet in
    if at == 0 || here.is_switch then leaves_by here (number_in (initial_path (at + 1)) packet) packet
    (moved_on here packet)
    else discarded packet Transit

-- a step on the way out. Before the end of its path, the packet goes on; at the end, it is for the agent; past the
-- end, it is discarded
abbrev pub outgoing : Here → List ℕ → Stepped
outgoing here packet =
    let at = number_in hop_pointer packet in
    let hops = number_in hop_count packet in
    if nat_lt at hops then goes_on here packet
    else if at == hops then record { packet = moved_on here packet; verdict = ToAgent }
    else discarded packet Course

-- a step on the way back: the packet leaves by the port that was recorded at the index before its hop pointer
abbrev pub goes_back : Here → List ℕ → Stepped
goes_back here packet =
    let before = number_in hop_pointer packet - 1 in
    leaves_by here (number_in (return_path before) packet) packet (pointed before packet)

-- a step on the way back. If the hop pointer is 0, the packet is discarded, and if it is 1, the packet is for the
-- manager. If it is greater, the packet goes back if it is at the end of its path or at a switch, and is discarded
-- otherwise
abbrev pub returning : Here → List ℕ → Stepped
returning here packet =
    let at = number_in hop_pointer packet in
    let hops = number_in hop_count packet in
    if at == 0 then discarded packet Course
    else if at == 1 then record { packet = pointed 0 packet; verdict = ToManager }
    else if nat_lt hops at || here.is_switch then goes_back here packet
    else discarded packet Transit

-- one step of a packet, which is on its way back if its D bit is set, and otherwise on its way out
abbrev pub step : Here → List ℕ → Stepped
step here packet = if is_returning packet then returning here packet else outgoing here packet
