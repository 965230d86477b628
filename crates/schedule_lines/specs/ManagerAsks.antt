-- Requests to a manager, and what commands show about a manager.
use Rattle.std.specs.Prelude.{ℕ, List, [], Option, None, Some}
use Rattle.fact_store.specs.View.{cells_of}
use Rattle.lft_blocks.specs.Plan.{plan_of}
use Rattle.lft_blocks.specs.Planning.{Planning}
use Rattle.lft_blocks.specs.PlanText.{plan_text}
use Rattle.record_file.specs.FactsText.{facts_text}
use Rattle.subnet_view.specs.Reading.{Cells}
use Rattle.schedule_file.specs.declared.command.Ask.{Ask}
use Rattle.schedule_file.specs.declared.command.Ask.TheVariants.{Sweep, Write, Handover, Yield, Rediscover, Poll}
use Rattle.schedule_file.specs.declared.command.Shown.{Shown}
use Rattle.schedule_file.specs.declared.command.Shown.TheVariants.{Facts, Plan, Progress, Silent, State, Written}
use Rattle.sm_manager.specs.Election.{after_handover, after_poll, after_rediscover, after_yield, handover_fault, poll_fault}
use Rattle.sm_manager.specs.Election.{rediscover_fault, yield_fault}
use Rattle.sm_manager.specs.Manager.{Manager, after_begin_sweep, begin_fault, progress_of, silent_in}
use Rattle.sm_manager.specs.PlanFaults.{plan_fault, writing_fault}
use Rattle.sm_manager.specs.Writing.{after_write_steps, is_written}
use Rattle.sm_manager.specs.declared.fault.ManagerFault.{ManagerFault}
use Rattle.schedule_lines.specs.Lines.{progress_line, silent_line, state_line, written_line}
use Rattle.schedule_lines.specs.Refusals.{manager_line}

-- the fault for which the manager `m` refuses a request, lack of memory aside; None if `m` does not refuse it
abbrev pub asked_fault : Ask → Manager → Option ManagerFault
asked_fault Sweep m = begin_fault m
asked_fault Write m = writing_fault m
asked_fault Handover m = handover_fault m
asked_fault Yield m = yield_fault m
asked_fault Rediscover m = rediscover_fault m
asked_fault (Poll lid) m = poll_fault m lid

-- the manager after a request that it does not refuse
abbrev pub after_asked : Ask → Manager → Manager
after_asked Sweep m = after_begin_sweep m
after_asked Write m = after_write_steps m
after_asked Handover m = after_handover m
after_asked Yield m = after_yield m
after_asked Rediscover m = after_rediscover m
after_asked (Poll lid) m = after_poll m lid

-- the text of the plan that `planning` makes of the facts `cells` or, if there is a fault, the line of the fault
abbrev pub plan_or_refusal : Planning → Cells → Option ManagerFault → List ℕ
plan_or_refusal planning cells None = plan_text (plan_of planning.rule planning.lmc cells)
plan_or_refusal planning cells (Some fault) = manager_line fault

-- what `facts`, `plan`, `progress`, `silent`, `written` or `state` shows about a manager; the last four also show its
-- name, if there is one
abbrev pub text_of : Shown → Option (List ℕ) → Manager → List ℕ
text_of Facts name m = facts_text m.store
text_of Plan name m =
    plan_or_refusal m.planning (cells_of m.store) (plan_fault m.planning.lmc (cells_of m.store))
text_of Progress name m = progress_line name (progress_of m.sweep)
text_of Silent name m = silent_line name (silent_in m.sweep)
text_of Written name m = written_line name (is_written m)
text_of State name m = state_line name m.standing.state
