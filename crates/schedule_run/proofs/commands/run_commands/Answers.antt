use Rattle.std.proofs.Common.{◌≡◌, ◌∙◌, ◌+◌, true, List, [], ℕ, drop, get_or, length, refl, ap, subst, sym}
use Rattle.std.specs.Prelude.{All}
use Rattle.std.proofs.lemmas.List.{append-nil, length-map}
use Rattle.std.proofs.lemmas.Option.{slice_get_read}
use Rattle.std.proofs.lemmas.Result.{err_from_is_err_and}
use Rattle.schedule_file.specs.Schedule.{NamesManagers}
use Rattle.schedule_file.specs.Resolve.{SeatCommand, is_seat}
use Rattle.schedule_file.specs.declared.schedule.Seat.{Seat}
use Rattle.schedule_run.specs.Commands.{after_command, after_commands, new_seated, world_of}
use Rattle.schedule_run.specs.RunText.{script_text}
use Rattle.byte_io.specs.Prints.{Prints}
use Rattle.schedule_lines.specs.Outcome.{Outcome}
use Rattle.schedule_run.specs.World.{WorldValue, seated_value, value_of}
use Rattle.byte_io.proofs.Writing.{prints_both, wrote}
use Rattle.schedule_lines.proofs.Printing.{IsUnderWay, begins, ends_unprinted, failed_with, goes_on, is_over, prints_same, stops_in}
use Rattle.schedule_run.proofs.Turns.{commands_next, commands_none}
use Rattle.schedule_run.proofs.commands.run_commands.Goals as goal

pub loop-command-init : goal.loop-command-init
loop-command-init g c =
    let script = c.args.schedule.now in
    let nodes = c.args.topology.now.nodes in
    record {
      managers = sym (length-map c.in_ok-world.world.managers.items seated_value) ∙ ap (λ w. length w.managers) c.in_ok-world.ensures
          ∙ length-map c.seats-seats.result.now (new_seated c.args.planning.now nodes) ∙ ap length c.seats-seats.ensures;
      runs = begins g.W.Sink.written g.W.Sink.has_failed c.args.sink.now
          (after_commands nodes (value_of c.in_ok-world.world) c.commands-command-items.result.now);
    }

pub loop-command-preserved : goal.loop-command-preserved
loop-command-preserved g c =
    let nodes = c.args.topology.now.nodes in
    let items = c.commands-command-items.result.now in
    let i = c.loop-command.command-index in
    let command = c.command-item.result in
    let w = value_of c.loop-command.world in
    let whole = after_commands nodes (value_of c.in_ok-world.world) items in
    let Under : g.row.W.Denot → Outcome WorldValue → Type 0 =
    λ now outcome. IsUnderWay g.W.Sink.written g.W.Sink.has_failed c.args.sink.now now whole outcome in
    let there = slice_get_read items (length items) i command refl c.loop-command-test.true c.command-item.is in
    let gone = goes_on g.W.Sink.written g.W.Sink.has_failed c.args.sink.now c.loop-command.sink c.execute.new.sink whole (after_command nodes w command)
    (λ now. after_commands nodes now (drop (i + 1) items)) (subst (Under c.loop-command.sink) (commands_next nodes w items i command there)
    c.loop-command.invariant.runs)
    c.in_ok-execute.ensures.does.prints in
    record {
      managers = c.in_ok-execute.ensures.does.managers ∙ c.loop-command.invariant.managers;
      runs = subst (λ v. Under c.execute.new.sink (after_commands nodes v (drop (i + 1) items))) (sym c.in_ok-execute.ensures.does.leaves) gone;
    }

pub returns-in_err-execute-clause-prints : goal.returns-in_err-execute-clause-prints
unfolding script_text
returns-in_err-execute-clause-prints g c =
    let p = err_from_is_err_and c.from_residual-in_err-execute.result c.from_residual-in_err-execute.ensures.1 in
    let nodes = c.args.topology.now.nodes in
    let items = c.commands-command-items.result.now in
    let i = c.loop-command.command-index in
    let command = c.command-item.result in
    let w = value_of c.loop-command.world in
    let whole = after_commands nodes (value_of c.in_ok-world.world) items in
    let Under : Outcome WorldValue → Type 0 = λ outcome. IsUnderWay g.W.Sink.written g.W.Sink.has_failed c.args.sink.now c.loop-command.sink whole outcome in
    let there = slice_get_read items (length items) i command refl c.loop-command-test.true c.command-item.is in
    let all = ap (λ xs. after_commands nodes (value_of c.in_ok-world.world) xs) c.commands-command-items.ensures
    ∙ ap (λ v. after_commands nodes v c.args.schedule.now.commands)
    (c.in_ok-world.ensures ∙ (λ i. world_of c.args.planning.now c.args.topology.now (c.seats-seats.ensures i) (c.deciders.ensures i))) in
    rw (p.1, p.2) (prints_same g.W.Sink.written g.W.Sink.has_failed (failed_with c.in_err-execute.field-0.0) c.args.sink.now c.execute.new.sink _ _
    (ap (λ r. r.text) all)
    (stops_in g.W.Sink.written g.W.Sink.has_failed c.in_err-execute.field-0.0 c.args.sink.now c.loop-command.sink c.execute.new.sink whole
    (after_command nodes w command)
    (λ now. after_commands nodes now (drop (i + 1) items)) (subst Under (commands_next nodes w items i command there) c.loop-command.invariant.runs)
    c.in_err-execute.ensures.does.prints))

pub returns-clause-prints : goal.returns-clause-prints
unfolding script_text
returns-clause-prints g c =
    let nodes = c.args.topology.now.nodes in
    let items = c.commands-command-items.result.now in
    let w = value_of c.loop-command.world in
    let whole = after_commands nodes (value_of c.in_ok-world.world) items in
    let all = ap (λ xs. after_commands nodes (value_of c.in_ok-world.world) xs) c.commands-command-items.ensures
    ∙ ap (λ v. after_commands nodes v c.args.schedule.now.commands)
    (c.in_ok-world.ensures ∙ (λ i. world_of c.args.planning.now c.args.topology.now (c.seats-seats.ensures i) (c.deciders.ensures i))) in
    let Printed : List ℕ → Type 0 = Prints g.W.Sink.written g.W.Sink.has_failed c.args.sink.now c.flush.new.self in
    subst Printed (append-nil whole.text ∙ ap (λ r. r.text) all)
    (prints_both g.W.Sink.written g.W.Sink.has_failed c.args.sink.now c.loop-command.sink c.flush.new.self whole.text []
    (is_over g.W.Sink.written g.W.Sink.has_failed c.args.sink.now c.loop-command.sink whole _ c.loop-command.invariant.runs
    (ap (λ r. r.text) (commands_none nodes w items c.loop-command.command-index c.loop-command-test.false)))
    (wrote g.W.Sink.written g.W.Sink.has_failed c.in_ok-flush.field-0 c.loop-command.sink c.flush.new.self [] c.in_ok-flush.ensures.writes))

pub execute-requires : goal.execute-requires
execute-requires g c =
    let items = c.commands-command-items.result.now in
    let i = c.loop-command.command-index in
    let command = c.command-item.result in
    let count = length c.args.schedule.now.seats in
    let all : All (NamesManagers count) items = subst (λ (xs : List SeatCommand). All (NamesManagers count) xs) (sym c.commands-command-items.ensures)
    c.requires.commands in
    subst (NamesManagers (length c.loop-command.world.managers.items)) (sym c.command-item.is)
    (subst (λ (n : ℕ). NamesManagers n (get_or items i command)) (sym c.loop-command.invariant.managers) (all i command c.loop-command-test.true))

pub returns-in_err-world-clause-prints : goal.returns-in_err-world-clause-prints
returns-in_err-world-clause-prints g c =
    let p = err_from_is_err_and c.from_residual.result c.from_residual.ensures.1 in
    rw (p.1, p.2) (ends_unprinted g.W.Sink.written g.W.Sink.has_failed c.args.sink.now c.args.sink.now _ refl)

pub of-requires-clause-deciders : goal.of-requires-clause-deciders
of-requires-clause-deciders g c =
    subst (All (λ (seat : Seat). is_seat c.args.topology.now.nodes seat.at ≡ true)) (sym c.deciders.ensures) c.requires.deciders

pub of-requires-clause-seats : goal.of-requires-clause-seats
of-requires-clause-seats g c = subst (All (λ (seat : Seat). is_seat c.args.topology.now.nodes seat.at ≡ true)) (sym c.seats-seats.ensures) c.requires.seats
