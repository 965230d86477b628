use Rattle.std.proofs.Common.{◌+◌, Bool, Ok, subst}
use Rattle.schedule_file.specs.Command.{line_of}
use Rattle.schedule_file.specs.FirstFault.{Leaves, managers_with}
use Rattle.schedule_file.proofs.FirstFault.{first_found, is_crowded, is_sound, judged_more}
use Rattle.schedule_file.proofs.first_fault.first_fault.Goals as goal

pub loop-line-preserved : goal.loop-line-preserved
loop-line-preserved c =
    let Left : Bool → Type 0 = λ b.
    Leaves (managers_with c.args.topology.now.nodes (c.loop-line.number + 1) c.loop-line.known (line_of c.in-Some.line.now)) (Ok b)
    c.judge_line.new.self in
    judged_more c.args.topology.now.nodes c.args.text.now c.loop-line.rest.now c.in-Some.later.now c.loop-line.known c.judge_line.new.self
    c.loop-line.number
    c.in-Some.line.now c.loop-line.invariant c.in-Some.ensures.line c.in-Some.ensures.shorter (subst Left c.in-Ok-true.field-0-test c.in-Ok-true.ensures)

pub returns-in-Ok-false-clause-none : goal.returns-in-Ok-false-clause-none
returns-in-Ok-false-clause-none c = λ e.
    let Left : Bool → Type 0 = λ b.
    Leaves (managers_with c.args.topology.now.nodes (c.loop-line.number + 1) c.loop-line.known (line_of c.in-Some.line.now)) (Ok b)
    c.judge_line.new.self in
    is_crowded c.args.topology.now.nodes c.args.text.now c.loop-line.rest.now c.in-Some.later.now c.loop-line.known c.judge_line.new.self
    c.loop-line.number
    c.in-Some.line.now c.loop-line.invariant c.in-Some.ensures.line (subst Left c.in-Ok-false.field-0-test c.in-Ok-false.ensures)

pub returns-in-Err-clause-found : goal.returns-in-Err-clause-found
returns-in-Err-clause-found c =
    first_found c.args.topology.now.nodes c.args.text.now c.loop-line.rest.now c.in-Some.later.now c.loop-line.known c.judge_line.new.self
    c.loop-line.number
    c.in-Some.line.now c.in-Err.fault c.loop-line.invariant c.in-Some.ensures.line c.in-Err.ensures

pub returns-clause-none : goal.returns-clause-none
returns-clause-none c = λ e.
    is_sound c.args.topology.now.nodes c.args.text.now c.loop-line.rest.now c.loop-line.known c.loop-line.number c.loop-line.invariant
    c.in_default.ensures.line
