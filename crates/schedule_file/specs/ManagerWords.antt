-- The words of commands about one manager: what it is asked for, what is shown of it, and the numbers that follow its
-- name.
use Rattle.std.specs.Prelude.{ℕ, List, Option, None, Some, option_and_then, codes, ◌==◌, if◌then◌else◌}
use Rattle.std.specs.Str.{bytes_eq}
use Rattle.text_words.specs.Numbers.{number_up_to}
use Rattle.schedule_file.specs.declared.command.Ask.{Ask}
use Rattle.schedule_file.specs.declared.command.Ask.TheVariants.{Sweep, Write, Handover, Yield, Rediscover, Poll}
use Rattle.schedule_file.specs.declared.command.Shown.{Shown}
use Rattle.schedule_file.specs.declared.command.Shown.TheVariants.{Facts, Plan, Progress, Silent, State, Written}

-- the request to a manager that `word` stands for when only the manager's name follows; None if it stands for no
-- request
abbrev pub asked_by : List ℕ → Option Ask
asked_by word =
    if bytes_eq word (codes "sweep") then Some Sweep
    else if bytes_eq word (codes "write") then Some Write
    else if bytes_eq word (codes "handover") then Some Handover
    else if bytes_eq word (codes "yield") then Some Yield
    else if bytes_eq word (codes "rediscover") then Some Rediscover
    else if bytes_eq word (codes "poll") then Some (Poll None)
    else None

-- if the command `word` shows something of a manager, what it shows; otherwise None
abbrev pub shown_by : List ℕ → Option Shown
shown_by word =
    if bytes_eq word (codes "facts") then Some Facts
    else if bytes_eq word (codes "plan") then Some Plan
    else if bytes_eq word (codes "progress") then Some Progress
    else if bytes_eq word (codes "silent") then Some Silent
    else if bytes_eq word (codes "written") then Some Written
    else if bytes_eq word (codes "state") then Some State
    else None

-- the generation that `word` writes in decimal; None if `word` does not write a number from 1 to 2^32 - 1
abbrev pub generation_of : List ℕ → Option ℕ
generation_of word = option_and_then (λ n. if n == 0 then None else Some n) (number_up_to 0xFFFFFFFF word)
