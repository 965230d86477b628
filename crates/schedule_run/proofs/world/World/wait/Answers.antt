use Rattle.std.proofs.Common.{◌∙◌, ◌+◌, ◌-◌, ap, subst, sym}
use Rattle.std.proofs.lemmas.Result.{err_from_is_err_and}
use Rattle.sm_policy.specs.Policy.{later_by}
use Rattle.schedule_lines.specs.Outcome.{Outcome}
use Rattle.schedule_run.specs.Waiting.{after_turn, after_turns}
use Rattle.schedule_run.specs.World.{WorldValue, value_of}
use Rattle.schedule_lines.proofs.Printing.{IsUnderWay, goes_on, is_over, stops_in}
use Rattle.schedule_run.proofs.Doing.{does_same}
use Rattle.schedule_run.proofs.Waking.{turn_end, turn_next, turn_none}
use Rattle.schedule_run.proofs.world.World.wait.Goals as goal

pub loop-turn-preserved : goal.loop-turn-preserved
loop-turn-preserved g c =
    let w = value_of c.loop-turn.self in
    let until = c.later_by-until.result in
    let left = c.args.most - (c.loop-turn._turn + 1) in
    let whole = after_turns (value_of c.args.self.now) until c.args.most in
    let Under : g.row.W.Denot → Outcome WorldValue → Type 0 =
    λ now outcome. IsUnderWay g.W.Sink.written g.W.Sink.has_failed c.args.sink.now now whole outcome in
    let gone = goes_on g.W.Sink.written g.W.Sink.has_failed c.args.sink.now c.loop-turn.sink c.take_turn.new.sink whole
    (after_turn w c.in-Some.turn) (λ now. after_turns now until left)
    (subst (Under c.loop-turn.sink) (turn_next w until c.args.most c.loop-turn._turn c.in-Some.turn c.loop-turn-test.true (sym c.in-Some.ensures))
    c.loop-turn.invariant.waits)
    c.in_ok-take_turn.ensures.does.prints in
    record {
      managers = c.in_ok-take_turn.ensures.does.managers ∙ c.loop-turn.invariant.managers;
      waits = subst (λ v. Under c.take_turn.new.sink (after_turns v until left)) (sym c.in_ok-take_turn.ensures.does.leaves) gone;
    }

pub returns-in_err-take_turn : goal.returns-in_err-take_turn
returns-in_err-take_turn g c =
    let p = err_from_is_err_and c.from_residual.result c.from_residual.ensures.1 in
    let w0 = value_of c.args.self.now in
    let w = value_of c.loop-turn.self in
    let until = c.later_by-until.result in
    let until_is = c.later_by-until.ensures ∙ ap (λ n. later_by n c.args.self.now.time) c.from.ensures in
    let whole = after_turns w0 until c.args.most in
    let Under : Outcome WorldValue → Type 0 = λ outcome. IsUnderWay g.W.Sink.written g.W.Sink.has_failed c.args.sink.now c.loop-turn.sink whole outcome in
    record {
      does = rw (p.1, p.2) (does_same g.W.Sink.written g.W.Sink.has_failed c.args.self.now c.take_turn.new.self _ c.args.sink.now c.take_turn.new.sink _ _
          (ap (λ u. after_turns w0 u c.args.most) until_is) (record {
            managers = c.in_err-take_turn.ensures.does.managers ∙ c.loop-turn.invariant.managers;
            leaves = tt;
            prints = stops_in g.W.Sink.written g.W.Sink.has_failed c.in_err-take_turn.field-0.0 c.args.sink.now c.loop-turn.sink c.take_turn.new.sink whole
                (after_turn w c.in-Some.turn) (λ now. after_turns now until (c.args.most - (c.loop-turn._turn + 1)))
                (subst Under (turn_next w until c.args.most c.loop-turn._turn c.in-Some.turn c.loop-turn-test.true (sym c.in-Some.ensures))
                c.loop-turn.invariant.waits)
                c.in_err-take_turn.ensures.does.prints;
          }));
    }

pub returns-in_default : goal.returns-in_default
returns-in_default g c =
    let w0 = value_of c.args.self.now in
    let until = c.later_by-until.result in
    let until_is = c.later_by-until.ensures ∙ ap (λ n. later_by n c.args.self.now.time) c.from.ensures in
    let none = turn_none (value_of c.loop-turn.self) until c.args.most c.loop-turn._turn c.loop-turn-test.true (sym c.in_default.ensures) in
    record {
      does = does_same g.W.Sink.written g.W.Sink.has_failed c.args.self.now _ _ c.args.sink.now c.loop-turn.sink _ _
          (ap (λ u. after_turns w0 u c.args.most) until_is) (record {
            managers = c.loop-turn.invariant.managers;
            leaves = ap (λ r. r.now) (sym none) ∙ c.loop-turn.invariant.waits.same;
            prints = is_over g.W.Sink.written g.W.Sink.has_failed c.args.sink.now c.loop-turn.sink _ _ c.loop-turn.invariant.waits (ap (λ r. r.text) none);
          });
    }

pub returns : goal.returns
returns g c =
    let w0 = value_of c.args.self.now in
    let until = c.later_by-until.result in
    let until_is = c.later_by-until.ensures ∙ ap (λ n. later_by n c.args.self.now.time) c.from.ensures in
    let none = turn_end (value_of c.loop-turn.self) until c.args.most c.loop-turn._turn c.loop-turn-test.false in
    record {
      does = does_same g.W.Sink.written g.W.Sink.has_failed c.args.self.now c.loop-turn.self _ c.args.sink.now c.loop-turn.sink _ _
          (ap (λ u. after_turns w0 u c.args.most) until_is) (record {
            managers = c.loop-turn.invariant.managers;
            leaves = ap (λ r. r.now) (sym none) ∙ c.loop-turn.invariant.waits.same;
            prints = is_over g.W.Sink.written g.W.Sink.has_failed c.args.sink.now c.loop-turn.sink _ _ c.loop-turn.invariant.waits (ap (λ r. r.text) none);
          });
    }
