-- A process lives as a manager does that is called as its lines tell.
use Rattle.std.proofs.Common.{◌≡◌, ℕ, cond, List, [], ◌∷◌, ◌++◌, refl, sym, ap, ◌∙◌}
use Rattle.std.specs.Prelude.{Option, Some, None, is_none, map}
use Rattle.schedule_file.specs.declared.command.Ask.{Ask as Asking}
use Rattle.schedule_file.specs.declared.command.Ask.TheVariants.{Sweep, Write, Handover, Yield, Rediscover, Poll}
use Rattle.sm_manager.specs.CallLists as calls
use Rattle.sm_manager.specs.CallLists.{Call, after_call, after_calls}
use Rattle.sm_manager.specs.Election.{after_handover, after_poll, after_rediscover, after_yield, handover_fault, poll_fault, rediscover_fault, yield_fault}
use Rattle.sm_manager.specs.Manager.{Manager, after_begin_sweep, begin_fault, outstanding, emptied}
use Rattle.sm_manager.specs.Packets.{after_timeout}
use Rattle.sm_manager.specs.PlanFaults.{writing_fault}
use Rattle.sm_manager.specs.Writing.{after_write_steps}
use Rattle.sm_manager.specs.declared.fault.ManagerFault.{ManagerFault}
use Rattle.sm_manager.specs.declared.outgoing.Outgoing.{Outgoing}
use Rattle.serve_lines.specs.declared.serve_line.ServeLine.{ServeLine}
use Rattle.serve_lines.specs.declared.serve_line.ServeLine.TheVariants.{Ask, GiveUp}
use Rattle.serve_run.specs.Served.{after_giving_up, after_line, asked, asked_with, served}
use Rattle.program_laws.specs.Told.{call_asked, calls_of, calls_of_line, calls_told, given_by, takes_for}
use Rattle.program_laws.specs.ServeLaws.{ServedLives}

pub calls_behind : (one other : List Call) (m : Manager) → after_calls (one ++ other) m ≡ after_calls other (after_calls one m)
calls_behind [] other m = refl
calls_behind (call ∷ one) other m = calls_behind one other (after_call m call)

-- all that is queued is taken
taken_all : (m : Manager) (out : List Outgoing) → after_calls (takes_for out) (record m { outgoing = out }) ≡ emptied m
taken_all m [] = refl
taken_all m (o ∷ later) = taken_all m later

asked_is : (m : Manager) (fault : Option ManagerFault) (after : Manager)
    → (asked_with m fault after).manager ≡ cond (is_none fault) after m
asked_is m None after = refl
asked_is m (Some why) after = refl

pub asked_lives : (m : Manager) (what : Asking) → (asked m what).manager ≡ after_call m (call_asked what)
asked_lives m Sweep = asked_is m (begin_fault m) (after_begin_sweep m)
asked_lives m Write = asked_is m (writing_fault m) (after_write_steps m)
asked_lives m Handover = asked_is m (handover_fault m) (after_handover m)
asked_lives m Yield = asked_is m (yield_fault m) (after_yield m)
asked_lives m Rediscover = asked_is m (rediscover_fault m) (after_rediscover m)
asked_lives m (Poll lid) = asked_is m (poll_fault m lid) (after_poll m lid)

gave_up_lives : (m : Manager) (transactions : List ℕ)
    → (after_giving_up m transactions).now ≡ after_calls (map calls.Timeout transactions) m
gave_up_lives m [] = refl
gave_up_lives m (transaction ∷ later) = gave_up_lives (after_timeout m transaction).manager later

told_lives : (m : Manager) (line : ServeLine) → (after_line m line).now ≡ after_calls (calls_told m line) m
told_lives m (Ask what) = asked_lives m what
told_lives m GiveUp = gave_up_lives m (outstanding m)
told_lives m line = refl

pub line_lives : (m : Manager) (line : ServeLine) → (served m line).now ≡ after_calls (calls_of_line m line) m
unfolding served
line_lives m line =
    sym (taken_all (after_line m line).now (given_by m line))
    ∙ ap (after_calls (takes_for (given_by m line))) (told_lives m line)
    ∙ sym (calls_behind (calls_told m line) (takes_for (given_by m line)) m)

pub served_lives : ServedLives
served_lives m [] = refl
served_lives m (line ∷ lines) =
    served_lives (served m line).now lines
    ∙ ap (after_calls (calls_of lines (served m line).now)) (line_lives m line)
    ∙ sym (calls_behind (calls_of_line m line) (calls_of lines (served m line).now) m)
