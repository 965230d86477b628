-- A manager that decides by itself, and is alone: it hears no word of another manager. InfiniBand Architecture Specification,
-- Volume 1: subnet management, subnet manager (states, polling, handover); SMInfo.
use Rattle.std.specs.Prelude.{◌≡◌, ◌≢◌, ◌≤◌, ◌<◌, ◌^◌, ℕ, Bool, true, false, ◌&&◌, ◌||◌, not, List, ◌==◌, Some}
use Rattle.smp_bytes.specs.Field.{bytes_in, number_in}
use Rattle.smp_bytes.specs.Header.{set, sm_info}
use Rattle.smp_bytes.specs.Packet.{attribute_data, attribute_id, is_response, method}
use Rattle.attr_codec.specs.SmInfo.{sm_info_in}
use Rattle.attr_codec.specs.declared.sm_info.SmInfo.{SmInfo}
use Rattle.sm_state.specs.Election.{outranks}
use Rattle.sm_state.specs.Standing.{info_of}
use Rattle.sm_state.specs.declared.state.SmState.TheVariants.{NotActive}
use Rattle.sm_manager.specs.Manager.{begin_fault}
use Rattle.sm_manager.specs.Packets.{is_for_sweep}
use Rattle.sm_manager.specs.declared.fault.ManagerFault.TheVariants.{GenerationsSpent}
use Rattle.acting_manager.specs.Acting.{Acting}
use Rattle.acting_manager.specs.Acts.{floor_raised}
use Rattle.acting_manager.specs.Working.{Told, is_idle, is_resting}
use Rattle.program_laws.specs.NextSweep.{HasFewTurns}
use Rattle.program_laws.specs.Wakes.{AtEachLine, HasDecided, Line, NoneLeaves, after_lines, before_deciding}

-- whether `packet` is a word of another manager to the manager `own`: a Set of SMInfo, which is a control; or an answer of
-- SMInfo, unless a sweep asked for it, and it tells of a manager that does not outrank `own`
abbrev pub is_word : SmInfo → List ℕ → Bool
is_word own packet =
    number_in attribute_id packet == sm_info
    && (number_in method packet == set
    || (is_response packet && (not (is_for_sweep packet) || outranks own (sm_info_in (bytes_in attribute_data packet)))))

-- what the manager is told is no word of another one
abbrev pub IsNoWord : Told → Acting → Type 0
IsNoWord (Told.Packet bytes from) a = is_word (info_of a.manager.standing) bytes ≡ false
IsNoWord what a = Unit {0}

-- by the line the manager hears no word of another one; and if it decides while it rests, a generation is left for a sweep
pub record HearsNobody (line : Line) (a : Acting) : Type 0 where
  pub no_word : IsNoWord line.1 a
  pub left : is_resting a.policy.activity ≡ true → is_idle (before_deciding line a).window ≡ true
      → begin_fault (floor_raised (before_deciding line a)).manager ≢ Some GenerationsSpent

-- a manager that decides by itself is alone through the lines. It may send each request once at least, one may be out, nobody
-- tells it to leave or has told it, no other manager has disabled it, its newest generation fits in 32 bits at first, and times
-- fit in 64 bits
pub record IsLone (n : ℕ) (a : Acting) (lines : List Line) : Type 0 where
  pub decided : HasDecided a
  pub generations : decided.newest < 2 ^ 32
  pub none_left : NoneLeaves decided.lines
  pub active : a.manager.standing.state ≢ NotActive
  pub alone : AtEachLine HearsNobody lines a
  pub few : HasFewTurns n lines a
  pub tries : 1 ≤ a.window.limits.tries
  pub outstanding : 1 ≤ a.window.limits.outstanding
  pub stays_on : a.is_leaving ≡ false
  pub none_leaves : NoneLeaves lines
  pub time : (after_lines lines a).time < 2 ^ 64
