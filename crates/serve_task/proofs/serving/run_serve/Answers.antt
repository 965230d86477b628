use Rattle.std.proofs.Common.{◌≡◌, ◌∙◌, ◌+◌, ℕ, ◌++◌, inl, inr, refl, ap, subst}
use Rattle.std.specs.Io.KnownBytes.{Appends}
use Rattle.lft_blocks.specs.Rule.{value_of}
use Rattle.byte_io.specs.Prints.{PrintsSome}
use Rattle.sm_cli.specs.Asked.{texts_for}
use Rattle.sm_cli.proofs.HandedOn.{handed_on}
use Rattle.sm_manager.specs.Manager.{new_manager}
use Rattle.serve_run.specs.Seat.{Seat}
use Rattle.serve_run.specs.Server.{HasServed, StopsServing}
use Rattle.serve_task.specs.RunServe.{fault_of_serving, manager_asked}
use Rattle.serve_task.specs.Seating.{seat_for}
use Rattle.serve_task.proofs.Parts.{inputs_are, inputs_of, inputs_were, one_behind, the_one}
use Rattle.sm_state.specs.declared.conduct.Conduct.TheVariants.{Live}
use Rattle.serve_task.proofs.serving.run_serve.Goals as goal

pub returns-in_err-rule-clause-refused : goal.returns-in_err-rule-clause-refused
returns-in_err-rule-clause-refused g c =
    let inputs = c.args.inputs.now in
    let front = c.split_at_mut-texts.result.0.now in
    let back = c.split_at_mut-texts.result.1.now in
    let n = one_behind inputs front back (texts_for c.args.asked.rule) c.split_at_mut-texts.ensures.value
    (c.split_at_mut-texts.ensures.front_len ∙ c.texts-first.ensures) c.requires in
    let one = the_one back n in
    handed_on c.from_residual.result c.in_err-rule.field-0.0 _ c.from_residual.ensures.1
    (inl (record {
      were = inputs_of inputs front back c.split_at_mut-texts.ensures.value one.0 one.1;
      are = inputs_of (c.read_inputs.new.inputs ++ back) c.read_inputs.new.inputs back refl one.0 one.1;
      why = c.in_err-rule.ensures.refused;
      untouched = refl;
    }))

pub returns-in-Ok-clause-done : goal.returns-in-Ok-clause-done
returns-in-Ok-clause-done g c =
    let inputs = c.args.inputs.now in
    let asked = c.args.asked in
    let front = c.split_at_mut-texts.result.0.now in
    let back = c.split_at_mut-texts.result.1.now in
    let n = one_behind inputs front back (texts_for asked.rule) c.split_at_mut-texts.ensures.value
    (c.split_at_mut-texts.ensures.front_len ∙ c.texts-first.ensures) c.requires in
    let made : c.new-manager.result ≡ manager_asked asked (value_of c.in_ok-rule.rule) =
    c.new-manager.ensures ∙ ap (new_manager asked.guid asked.port asked.priority (Live asked.sm_key)) c.new-planning.ensures in
    let is = c.seat.ensures ∙ ap (seat_for c.args.seating) made in
    let were = inputs_were inputs front back c.index-lines-0.result c.split_at_mut-texts.ensures.value n in
    record {
      were = were;
      are = inputs_are c.read_inputs.new.inputs back c.serve.new.lines n;
      rule = value_of c.in_ok-rule.rule;
      read = c.in_ok-rule.ensures.read;
      so = subst (λ (seat : Seat). HasServed g.S.Source.state were.lines c.serve.new.lines seat
          (Appends (g.W.Sink.written c.args.sink.now) (g.W.Sink.written c.serve.new.sink))) is c.in-Ok.ensures.served;
    }

pub returns-in-Err-clause-refused : goal.returns-in-Err-clause-refused
returns-in-Err-clause-refused g c =
    let inputs = c.args.inputs.now in
    let asked = c.args.asked in
    let front = c.split_at_mut-texts.result.0.now in
    let back = c.split_at_mut-texts.result.1.now in
    let n = one_behind inputs front back (texts_for asked.rule) c.split_at_mut-texts.ensures.value
    (c.split_at_mut-texts.ensures.front_len ∙ c.texts-first.ensures) c.requires in
    let made : c.new-manager.result ≡ manager_asked asked (value_of c.in_ok-rule.rule) =
    c.new-manager.ensures ∙ ap (new_manager asked.guid asked.port asked.priority (Live asked.sm_key)) c.new-planning.ensures in
    let is = c.seat.ensures ∙ ap (seat_for c.args.seating) made in
    let were = inputs_were inputs front back c.index-lines-0.result c.split_at_mut-texts.ensures.value n in
    inr (record {
      were = were;
      are = inputs_are c.read_inputs.new.inputs back c.serve.new.lines n;
      rule = value_of c.in_ok-rule.rule;
      read = c.in_ok-rule.ensures.read;
      so = record {
        stopped = c.in-Err.fault;
        is = c.fault_of_serving.ensures ∙ ap (λ (lines : ℕ). fault_of_serving lines c.in-Err.fault) c.texts-first.ensures;
        why = subst (λ (seat : Seat). StopsServing g.S.Source.state were.lines c.serve.new.lines seat
            (PrintsSome g.W.Sink.written g.W.Sink.has_failed c.args.sink.now c.serve.new.sink)
            (Appends (g.W.Sink.written c.args.sink.now) (g.W.Sink.written c.serve.new.sink)) (g.W.Sink.has_failed c.serve.new.sink)
            c.in-Err.fault) is c.in-Err.ensures.stopped;
      };
    })
