-- Switch information: what a Get returns and a Set writes.
-- InfiniBand Architecture Specification, Volume 1: subnet management, SwitchInfo.
use Rattle.std.specs.Prelude.{ℕ, List, [], ◌∷◌, nat_lt, if◌then◌else◌, Option, Some, None, ◌≡◌}
use Rattle.smp_bytes.specs.Field.{number_in}
use Rattle.attr_codec.specs.Image.{image}
use Rattle.attr_codec.specs.SwitchInfo.{linear_fdb_cap, linear_fdb_top, multicast_fdb_cap}
use Rattle.node_agents.specs.Agent.{Agent}
use Rattle.node_agents.specs.MftBlock.{multicast_cap}

-- the SwitchInfo that a Get returns: the sizes of the forwarding tables, and the greatest LID that is forwarded; all
-- else is 0
abbrev pub get_switch_info : Agent → List ℕ
get_switch_info a =
    image (record { field = linear_fdb_cap; number = a.node.cap } ∷ record { field = linear_fdb_top; number = a.top }
    ∷ record { field = multicast_fdb_cap; number = multicast_cap } ∷ [])

-- the agent after it takes its top from `payload` and ignores all else there; None if this LID is not below the size
-- of the table
abbrev pub set_switch_info : Agent → List ℕ → Option Agent
set_switch_info a payload = let top =
    number_in linear_fdb_top payload in if nat_lt top a.node.cap then Some (record a { top = top }) else None

-- `told`, the SwitchInfo that the answer returns, has the top in `payload`, and `after` is `a` with this top
pub record SetsTop (a after : Agent) (payload told : List ℕ) : Type 0 where
  pub is_told : number_in linear_fdb_top told ≡ number_in linear_fdb_top payload
  pub all_else : after ≡ record a { top = number_in linear_fdb_top payload }
