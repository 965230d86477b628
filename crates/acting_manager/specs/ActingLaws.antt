-- Laws of a manager that decides by itself.
use Rattle.std.specs.Prelude.{◌≡◌, ◌≤◌, ◌<◌, ◌^◌, ℕ, List, [], ◌∷◌}
use Rattle.sm_manager.specs.CallLists.{Call, after_calls}
use Rattle.sm_manager.specs.Manager.{Manager}
use Rattle.acting_manager.specs.Acting.{Acting}
use Rattle.acting_manager.specs.Working.{Told, after_told, dropped}

-- the manager `later` is what some calls leave of the manager `m`
pub record IsReached (m later : Manager) : Type 0 where
  pub calls : List Call
  pub are : after_calls calls m ≡ later

-- a manager after it was told things, each at its time, one after the other
abbrev pub after_all_told : List (ℕ × Told) → Acting → Acting
after_all_told [] a = a
after_all_told (told ∷ later) a = after_all_told later (after_told told.0 told.1 a)

-- whatever a manager that decides by itself is told, and when: its manager is what some calls leave of the one that it
-- had
abbrev pub ActsAreCalls : Type 0
ActsAreCalls = (a : Acting) (told : List (ℕ × Told)) → IsReached a.manager (after_all_told told a).manager

-- the newest generation of its sweeps, which fits in 32 bits, never falls
abbrev pub GenerationsRise : Type 0
GenerationsRise = (a : Acting) (told : List (ℕ × Told)) → a.newest < 2 ^ 32 → a.newest ≤ (after_all_told told a).newest

-- the writing was dropped in `a`: no request waits for its turn or is out, and nothing went out
pub record IsDropped (before a : Acting) : Type 0 where
  pub none_waits : a.window.queued ≡ []
  pub none_out : a.window.outs ≡ []
  pub nothing_sent : a.ready ≡ before.ready

-- a writing that is given up is dropped whole: of what it had queued, nothing goes out
abbrev pub DropsAll : Type 0
DropsAll = (a : Acting) → IsDropped a (dropped a)
