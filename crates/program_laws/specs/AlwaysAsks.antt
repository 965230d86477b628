-- A manager that decides by itself never waits for ever. InfiniBand Architecture Specification, Volume 1: subnet
-- management, subnet manager.
use Rattle.std.specs.Prelude.{◌≡◌, ◌≢◌, ◌≤◌, ◌<◌, ◌+◌, ◌*◌, ◌^◌, ℕ, max, false, Some}
use Rattle.sm_state.specs.declared.state.SmState.TheVariants.{NotActive}
use Rattle.sm_policy.specs.PolicyLaws.{longest_wait}
use Rattle.sm_policy.specs.declared.timing.Timing.{Timing}
use Rattle.request_window.specs.declared.limits.Limits.{Limits}
use Rattle.acting_manager.specs.Acting.{Acting}
use Rattle.acting_manager.specs.Working.{wake_of}
use Rattle.program_laws.specs.Wakes.{HasDecided}

-- the longest time in milliseconds from one line to the wake that is asked for: that of a manager that rests, or three
-- time-outs
abbrev pub longest_sleep : Timing → Limits → ℕ
longest_sleep timing limits = max (longest_wait timing) (3 * limits.timeout)

-- the manager asks to be told the time, at a time that is not past, and at most `sleep` milliseconds after that which it
-- was told last
pub record AsksWithin (sleep : ℕ) (a : Acting) : Type 0 where
  pub wake : ℕ
  pub is : wake_of a ≡ Some wake
  pub not_past : a.time ≤ wake
  pub soon : wake ≤ a.time + sleep

-- whatever a manager that decides by itself was told, it asks to be told the time, and soon, unless another manager has
-- disabled it. One request may be out at least, nobody told it to leave, and times fit in 64 bits
abbrev pub AlwaysAsks : Type 0
AlwaysAsks =
    (a : Acting) (h : HasDecided a) → 1 ≤ a.window.limits.outstanding → a.is_leaving ≡ false → a.time < 2 ^ 64
    → a.policy.state ≢ NotActive
    → AsksWithin (longest_sleep h.timing a.window.limits) a
