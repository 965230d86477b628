-- SMInfo, what a subnet manager reports about itself: its fields, the value of 64 bytes, and its spelling. InfiniBand
-- Architecture Specification, Volume 1: subnet management, SMInfo.
use Rattle.std.specs.Prelude.{ℕ, ◌^◌, ◌<◌, List, [], ◌∷◌}
use Rattle.smp_bytes.specs.Field.{Field, Bits, Entry, number_in, bits_in, with_bits}
use Rattle.attr_codec.specs.Image.{AllFit, image}
use Rattle.attr_codec.specs.declared.sm_info.SmInfo.{SmInfo}

-- GUID, a component of SMInfo
abbrev pub guid : Field
guid = record { at = 0; len = 8 }

-- SM_Key, a component of SMInfo
abbrev pub sm_key : Field
sm_key = record { at = 8; len = 8 }

-- ActCount, a component of SMInfo
abbrev pub act_count : Field
act_count = record { at = 16; len = 4 }

-- Priority, a component of SMInfo
abbrev pub priority : Bits
priority = record { at = 20; shift = 4; width = 4 }

-- SMState, a component of SMInfo
abbrev pub sm_state : Bits
sm_state = record { at = 20; shift = 0; width = 4 }

-- the SMInfo that 64 bytes spell
abbrev pub sm_info_in : List ℕ → SmInfo
sm_info_in bytes =
    record {
      guid = number_in guid bytes;
      sm_key = number_in sm_key bytes;
      act_count = number_in act_count bytes;
      priority = bits_in priority bytes;
      state = bits_in sm_state bytes;
    }

-- each whole-byte field of SMInfo, with its number in `info`. Priority and state, which share a byte, are left out
abbrev pub sm_info_entries : SmInfo → List Entry
sm_info_entries info =
    record { field = guid; number = info.guid } ∷ record { field = sm_key; number = info.sm_key }
    ∷ record { field = act_count; number = info.act_count } ∷ []

-- the 64 bytes that spell `info`; the bytes after the last field are reserved and 0
abbrev pub sm_info_bytes : SmInfo → List ℕ
sm_info_bytes info = with_bits sm_state info.state (with_bits priority info.priority (image (sm_info_entries info)))

-- each number of `info` fits in its field or bits of SMInfo
pub record FitsSmInfo (info : SmInfo) : Type 0 where
  pub fields : AllFit (sm_info_entries info)
  pub priority : info.priority < 2 ^ 4
  pub state : info.state < 2 ^ 4
