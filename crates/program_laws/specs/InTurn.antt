-- What a manager that decides by itself is about, one thing after the other. InfiniBand Architecture Specification,
-- Volume 1: subnet management, subnet manager.
use Rattle.std.specs.Prelude.{◌≡◌, ◌≤◌, Bool, true, false}
use Rattle.sm_policy.specs.declared.activity.Activity.{Activity}
use Rattle.sm_policy.specs.declared.activity.Activity.TheVariants.{Rests, Sweeps, Writes, Hands}
use Rattle.acting_manager.specs.Acting.{Acting}
use Rattle.program_laws.specs.Wakes.{HasDecided, IsNoLeave, Line, after_line}

-- whether a manager that is about the first may be about the second once it was told something: what it rests for is a
-- sweep; after a sweep it writes, hands over or rests; after a writing it hands over or rests; and after a handover it
-- rests
abbrev pub may_follow : Activity → Activity → Bool
may_follow Rests Rests = true
may_follow Rests Sweeps = true
may_follow Rests Writes = false
may_follow Rests Hands = false
may_follow Sweeps what = true
may_follow Writes Rests = true
may_follow Writes Sweeps = false
may_follow Writes Writes = true
may_follow Writes Hands = true
may_follow Hands Rests = true
may_follow Hands Sweeps = false
may_follow Hands Writes = false
may_follow Hands Hands = true

-- whatever a manager that decides by itself is told, it goes on with what it is about, or with what may follow that. It
-- may send each request once at least, and nobody tells it to leave
abbrev pub WorksInTurn : Type 0
WorksInTurn =
    (a : Acting) (line : Line) → HasDecided a → 1 ≤ a.window.limits.tries → a.is_leaving ≡ false → IsNoLeave line.1
    → may_follow a.policy.activity (after_line line a).policy.activity ≡ true
