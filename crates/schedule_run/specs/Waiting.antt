-- Time passes: which turn comes next, and what a wait does.
use Rattle.std.specs.Prelude.{ℕ, zero, suc, Bool, false, min, max, nat_le, List, [], ◌∷◌, slice_get, position}
use Rattle.std.specs.Prelude.{if◌then◌else◌, Option, None, Some, option_map}
use Rattle.std.specs.Option.{option_map_or}
use Rattle.serve_run.specs.Working.{Time, wake_of}
use Rattle.sm_policy.specs.Policy.{later_by}
use Rattle.schedule_lines.specs.Outcome.{Outcome, and_then, quiet}
use Rattle.schedule_run.specs.Deciders.{after_telling}
use Rattle.schedule_run.specs.Delivery.{after_step}
use Rattle.schedule_run.specs.World.{DeciderValue, WorldValue}
use Rattle.schedule_run.specs.declared.waiting.WaitTurn.{WaitTurn}
use Rattle.schedule_run.specs.declared.waiting.WaitTurn.TheVariants.{Deliver, Wake}

-- when the decider is to be told the time next; None if it is not awake, or waits for packets alone
abbrev pub wake_at : DeciderValue → Option ℕ
wake_at d = if d.is_awake then wake_of d.acting else None

-- the earlier of two times, each of which may be missing
abbrev pub earlier : Option ℕ → Option ℕ → Option ℕ
earlier None other = other
earlier (Some time) None = Some time
earlier (Some time) (Some other) = Some (min time other)

-- the earliest of `first` and the times at which the deciders are to be told the time
abbrev pub first_wake : Option ℕ → List DeciderValue → Option ℕ
first_wake first [] = first
first_wake first (d ∷ later) = first_wake (earlier first (wake_at d)) later

-- the given time, but not before `now`; None if it is after `until`
abbrev pub within : ℕ → ℕ → Option ℕ → Option ℕ
within now until None = None
within now until (Some time) = if nat_le time until then Some (max time now) else None

-- the next time, not after `until`, at which a decider is to be told the time; None if there is none
abbrev pub next_wake : WorldValue → ℕ → Option ℕ
next_wake w until = within w.time until (first_wake None w.deciders)

-- the turn that comes next in a wait until `until`: the packet in flight with the least serial number takes a step or,
-- if no packet is in flight, it becomes the next time at which a decider is to be told the time. None if the wait is over
abbrev pub next_turn : WorldValue → ℕ → Option WaitTurn
next_turn w until =
    option_map_or (λ flight. Some (Deliver flight.serial)) (slice_get w.fabric.flights 0)
    (option_map Wake (next_wake w until))

-- whether the given time has come
abbrev pub has_come : ℕ → Option ℕ → Bool
has_come now None = false
has_come now (Some time) = nat_le time now

-- the index of the first decider that is to be told the time by now; None if there is none
abbrev pub due_at : WorldValue → Option ℕ
due_at w = position (λ d. has_come w.time (wake_at d)) w.deciders

-- the first decider that is to be told the time by now is told it; nothing happens if there is none
abbrev pub after_waking : WorldValue → Outcome WorldValue
after_waking w = option_map_or (λ index. after_telling w index Time) (due_at w) (quiet w)

-- a turn of a wait: a packet takes a step, or it becomes the given time, and the first decider that is to be told the
-- time by then is told it
unfoldable pub after_turn : WorldValue → WaitTurn → Outcome WorldValue
after_turn w (Deliver serial) = after_step w serial
after_turn w (Wake time) = after_waking (record w { time = time })

-- up to `most` turns of a wait until `until`. If no turn comes next, it becomes `until`
abbrev pub after_turns : WorldValue → ℕ → ℕ → Outcome WorldValue
after_turns w until zero = quiet w
after_turns w until (suc most) =
    option_map_or (λ turn. and_then (after_turn w turn) (λ now. after_turns now until most)) (next_turn w until)
    (quiet (record w { time = until }))

-- `wait MS N`: time passes, for so many milliseconds, but with at most so many turns. Packets take no time: as long as
-- one is in flight, it does not get later
abbrev pub after_wait_line : WorldValue → ℕ → ℕ → Outcome WorldValue
after_wait_line w wait most = after_turns w (later_by wait w.time) most
