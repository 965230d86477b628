-- The law of polls: an answer to a poll is taken as the answer to that poll.
use Rattle.std.specs.Prelude.{◌≡◌, ℕ, ◌<◌, ◌≤◌, ◌^◌, true, false, List, length, IfSome}
use Rattle.smp_bytes.specs.Packet.{max_hops}
use Rattle.smp_bytes.specs.Requests.{answer_packet}
use Rattle.sm_manager.specs.Election.{path_of_way, poll_packet, poll_pending}
use Rattle.sm_manager.specs.declared.way.Way.{Way}
use Rattle.sm_manager.specs.Packets.{answers, is_for_sweep}

-- `packet` answers the poll with the number `number` that went the way `way`, and is not taken for a reply to a sweep
pub record IsTakenForPoll (packet : List ℕ) (number : ℕ) (way : Way) : Type 0 where
  pub answers : answers packet (poll_pending number way) ≡ true
  pub no_sweep : is_for_sweep packet ≡ false

-- suppose a poll goes by LIDs or along a path of at most 63 ports, and its number fits in 32 bits. Then each answer
-- to the poll with a status that fits in 15 bits and data of 64 bytes is taken as the answer to that poll
abbrev pub AnswersReachPolls : Type 0
AnswersReachPolls =
    (number : ℕ) (way : Way) (status : ℕ) (payload : List ℕ) → number < 2 ^ 32
    → IfSome (path_of_way way) (λ ports. length ports ≤ max_hops) → status < 2 ^ 15 → length payload ≡ 64
    → IsTakenForPoll (answer_packet (poll_packet number way) status payload) number way
