-- A manager that decides by itself: what it is made of, and how it gives out its packets. InfiniBand Architecture
-- Specification, Volume 1: subnet management, subnet manager.
use Rattle.std.specs.Prelude.{ℕ, Bool, false, ◌&&◌, not, List, [], ◌∷◌, ◌++◌, filter, ◌==◌}
use Rattle.std.specs.Prelude.{if◌then◌else◌, Option, None}
use Rattle.smp_bytes.specs.Field.{number_in}
use Rattle.smp_bytes.specs.Packet.{is_response, method}
use Rattle.lft_blocks.specs.Plan.{PlanValue}
use Rattle.sm_state.specs.State.{number_of_state}
use Rattle.sm_state.specs.declared.state.SmState.{SmState}
use Rattle.sm_manager.specs.Manager.{Manager, emptied}
use Rattle.sm_manager.specs.Traps.{trap_repress}
use Rattle.sm_manager.specs.declared.outgoing.Outgoing.{Outgoing}
use Rattle.sm_policy.specs.Policy.{moved, new_policy}
use Rattle.sm_policy.specs.declared.policy.Policy.{Policy}
use Rattle.sm_policy.specs.declared.timing.Timing.{Timing}
use Rattle.request_window.specs.Window.{Window, new_window}
use Rattle.request_window.specs.declared.limits.Limits.{Limits}
use Rattle.acting_manager.specs.Reads.{no_reads}
use Rattle.acting_manager.specs.declared.acting_manager.ActingManager.{ActingManager}
use Rattle.acting_manager.specs.declared.note.Note.{Note}
use Rattle.acting_manager.specs.declared.note.Note.TheVariants.{State}
use Rattle.acting_manager.specs.declared.reads.Reads.{Reads}

-- a manager that decides by itself: the manager, what it decides by, its requests on their way, the packets and notes
-- that are ready to be given out, the plan that it wrote last, what its sweep read of ports, whether what it writes is
-- to be given up, whether it leaves, the time that it was told last, and the newest generation of its sweeps
pub record Acting : Type 0 where
  pub manager : Manager
  pub policy : Policy
  pub window : Window
  pub ready : List Outgoing
  pub notes : List Note
  pub kept : Option PlanValue
  pub reads : Reads
  pub is_void : Bool
  pub is_leaving : Bool
  pub time : ℕ
  pub newest : ℕ

-- the code's manager as a value
abbrev pub value_of : ActingManager → Acting
value_of a =
    record {
      manager = a.manager;
      policy = a.policy;
      window = a.window;
      ready = a.ready.items;
      notes = a.notes.items;
      kept = a.kept;
      reads = a.reads;
      is_void = a.is_void;
      is_leaving = a.is_leaving;
      time = a.time;
      newest = a.newest;
    }

-- a manager that has decided nothing yet
abbrev pub new_acting : Manager → Timing → Limits → ℕ → Acting
new_acting m timing limits newest =
    record {
      manager = m;
      policy = new_policy timing;
      window = new_window limits;
      ready = [];
      notes = [];
      kept = None;
      reads = no_reads;
      is_void = false;
      is_leaving = false;
      time = 0;
      newest = newest;
    }

-- with one more note
abbrev pub noted : Note → Acting → Acting
noted note a = record a { notes = a.notes ++ note ∷ [] }

-- packets ----------------------------------------------------------------------------------------

-- whether a packet that the manager queued is a request, which is answered. TrapRepress is not
abbrev pub is_request : Outgoing → Bool
is_request out = not (is_response out.packet) && not (number_in method out.packet == trap_repress)

-- `packets` are given out: requests wait for their turn, and all else goes out at once
abbrev pub given_out : List Outgoing → Acting → Acting
given_out packets a =
    record a {
      window = record a.window { queued = a.window.queued ++ filter is_request packets };
      ready = a.ready ++ filter (λ out. not (is_request out)) packets;
    }

-- the packets that the manager has queued are given out
abbrev pub collected : Acting → Acting
collected a = given_out a.manager.outgoing (record a { manager = emptied a.manager })

-- states -----------------------------------------------------------------------------------------

-- the manager came into `state`
abbrev pub entered : SmState → Acting → Acting
entered state a = noted (State state) (record a { policy = moved a.time state a.policy })

-- the policy is told of the manager's state if that is another one than it was told last
abbrev pub looked : Acting → Acting
looked a =
    if number_of_state a.manager.standing.state == number_of_state a.policy.state then a
    else entered a.manager.standing.state a

-- the packets that the manager has queued are given out, and the policy is told of its state
abbrev pub caught_up : Acting → Acting
caught_up a = looked (collected a)
