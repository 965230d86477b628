-- What switches send: the trap that reports a change of the state of a link.
-- InfiniBand Architecture Specification, Volume 1: management methods (Trap, TrapRepress); subnet management, the
-- attribute Notice, and trap 128.
use Rattle.std.specs.Prelude.{ℕ, List, [], ◌∷◌, replicate}
use Rattle.smp_bytes.specs.Field.{Entry, with_numbers}
use Rattle.smp_bytes.specs.Requests.{lid_routed}

-- the method Trap
abbrev pub trap : ℕ
trap = 0x05

-- the method TrapRepress
abbrev pub trap_repress : ℕ
trap_repress = 0x07

-- the attribute of a trap, Notice
abbrev pub notice : ℕ
notice = 0x0002

-- the number of the trap by which a switch reports that the state of a link at one of its ports has changed
abbrev pub link_state_change : ℕ
link_state_change = 128

-- what the notice of a switch with the LID `lid` says: it is generic and urgent, its producer is a switch, its trap
-- has the number 128, and its issuer has the LID `lid`, which is also in the details
abbrev pub link_entries : ℕ → List Entry
link_entries lid =
    record { field = record { at = 0; len = 1 }; number = 0x81 }
    ∷ record { field = record { at = 1; len = 3 }; number = 2 }
    ∷ record { field = record { at = 4; len = 2 }; number = link_state_change }
    ∷ record { field = record { at = 6; len = 2 }; number = lid }
    ∷ record { field = record { at = 10; len = 2 }; number = lid } ∷ []

-- the 64 bytes of the notice of a switch with the LID `lid`; all bytes that no entry names are 0
abbrev pub link_notice : ℕ → List ℕ
link_notice lid = with_numbers (link_entries lid) (replicate 64 0)

-- the trap of a switch with the LID `lid`, with the TransactionID `number`
abbrev pub link_trap : ℕ → ℕ → List ℕ
link_trap lid number = lid_routed trap notice 0 number (link_notice lid)
