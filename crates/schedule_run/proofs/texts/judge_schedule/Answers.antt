use Rattle.std.proofs.Common.{◌∙◌, ◌+◌, Err, sym, ap, subst, List, ℕ}
use Rattle.text_words.specs.Text.{lines}
use Rattle.schedule_file.specs.FirstFault.{IsSoundOrCrowded}
use Rattle.schedule_file.specs.Schedule.{schedule_of}
use Rattle.schedule_file.specs.ScheduleFault.{IsRefused}
use Rattle.schedule_run.proofs.Judging.{script_spelled_badly, script_found, schedule_refused}
use Rattle.schedule_run.proofs.texts.judge_schedule.Goals as goal

pub returns-in_default-clause-refused : goal.returns-in_default-clause-refused
returns-in_default-clause-refused c =
    rw c.refused.ensures (script_spelled_badly c.args.first c.args.topology.now.nodes c.args.bytes.now c.in_default.ensures.cases.0)

pub returns-in-Ok-parse-clause-sound : goal.returns-in-Ok-parse-clause-sound
returns-in-Ok-parse-clause-sound c =
    script_found (c.args.first + 1) c.args.topology.now.nodes c.args.bytes.now _ c.in-Ok.ensures.cases.1
    (ap (schedule_of c.args.topology.now.nodes) (sym c.in-Ok.ensures.cases.0) ∙ c.in-Ok-parse.ensures.reads)

pub returns-in-Err-clause-refused : goal.returns-in-Err-clause-refused
returns-in-Err-clause-refused c =
    rw c.refused-in-Err.ensures (schedule_refused c.args.first c.args.topology.now.nodes c.args.bytes.now c.in-Err.fault c.in-Ok.ensures.cases.1
    (subst (λ (t : List ℕ). IsRefused c.in-Err.fault (schedule_of c.args.topology.now.nodes t)) c.in-Ok.ensures.cases.0 c.in-Err.ensures.reads)
    (λ e. subst (λ (t : List ℕ). IsSoundOrCrowded c.args.topology.now.nodes (lines t)) c.in-Ok.ensures.cases.0 (c.in-Err.ensures.memory (ap Err e))))

pub returns-in-Ok-parse-clause-told : goal.returns-in-Ok-parse-clause-told
returns-in-Ok-parse-clause-told c = ap (schedule_of c.args.topology.now.nodes) (sym c.in-Ok.ensures.cases.0) ∙ c.in-Ok-parse.ensures.reads
