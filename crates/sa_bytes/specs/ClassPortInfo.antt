-- ClassPortInfo, what a manager of a class tells of itself, as subnet administration tells it. InfiniBand Architecture
-- Specification, Volume 1: management datagrams, ClassPortInfo.
use Rattle.std.specs.Prelude.{ℕ, List, [], ◌∷◌, replicate}
use Rattle.smp_bytes.specs.Field.{Field, Entry, with_numbers}
use Rattle.sa_bytes.specs.Numbers.{sa_version}

-- BaseVersion, a component of ClassPortInfo
abbrev pub info_base_version : Field
info_base_version = record { at = 0; len = 1 }

-- ClassVersion, a component of ClassPortInfo
abbrev pub info_class_version : Field
info_class_version = record { at = 1; len = 1 }

-- CapabilityMask, a component of ClassPortInfo
abbrev pub info_capability_mask : Field
info_capability_mask = record { at = 2; len = 2 }

-- CapabilityMask2 and RespTimeValue, components of ClassPortInfo: 27 bits and 5 bits
abbrev pub info_mask_2_and_time : Field
info_mask_2_and_time = record { at = 4; len = 4 }

-- RedirectQP, a component of ClassPortInfo, behind 8 reserved bits
abbrev pub info_redirect_qp : Field
info_redirect_qp = record { at = 32; len = 4 }

-- RedirectQ_Key, a component of ClassPortInfo
abbrev pub info_redirect_q_key : Field
info_redirect_q_key = record { at = 36; len = 4 }

-- TrapQ_Key, a component of ClassPortInfo
abbrev pub info_trap_q_key : Field
info_trap_q_key = record { at = 68; len = 4 }

-- the n for which 4.096 us * 2^n is about 268 ms, the longest time within which an answer comes
abbrev pub response_time : ℕ
response_time = 16

-- the queue pair of general services
abbrev pub general_services : ℕ
general_services = 1

-- the Q_Key of this queue pair
abbrev pub general_q_key : ℕ
general_q_key = 0x80010000

-- each component of ClassPortInfo that is not 0: no option of the class is supported, and requests are not redirected
abbrev pub info_entries : List Entry
info_entries =
    record { field = info_base_version; number = 1 } ∷ record { field = info_class_version; number = sa_version }
    ∷ record { field = info_mask_2_and_time; number = response_time }
    ∷ record { field = info_redirect_qp; number = general_services }
    ∷ record { field = info_redirect_q_key; number = general_q_key }
    ∷ record { field = info_trap_q_key; number = general_q_key } ∷ []

-- the 72 bytes of ClassPortInfo
abbrev pub class_port_info_bytes : List ℕ
class_port_info_bytes = with_numbers info_entries (replicate 72 0)
