use Rattle.std.proofs.Common.{◌∙◌, ◌+◌, ◌<◌, drop, get_or, refl, sym, ap, subst}
use Rattle.std.proofs.lemmas.Result.{err_from_is_err_and}
use Rattle.schedule_run.specs.Commands.{after_give_up, after_giving_up}
use Rattle.schedule_lines.specs.Outcome.{Outcome}
use Rattle.schedule_run.specs.World.{WorldValue, after_send, value_of}
use Rattle.schedule_lines.proofs.Printing.{IsUnderWay, begins, failed_with, goes_on, prints_same, stops_before, then_leaves, then_prints}
use Rattle.schedule_run.proofs.Seats.{timed_out}
use Rattle.schedule_lines.proofs.Refused.{leaves_same}
use Rattle.schedule_run.proofs.Turns.{given_next, given_none}
use Rattle.schedule_run.proofs.world.World.time_out.Goals as goal

pub loop-transaction-preserved : goal.loop-transaction-preserved
loop-transaction-preserved g c =
    let items = c.deref-transaction-items.result.now in
    let i = c.loop-transaction.transaction-index in
    let seat = c.args.seat in
    let w = value_of c.loop-transaction.self in
    let whole = after_giving_up (value_of c.args.self.now) seat items in
    let Under : g.row.W.Denot → Outcome WorldValue → Type 0 =
    λ now outcome. IsUnderWay g.W.Sink.written g.W.Sink.has_failed c.args.sink.now now whole outcome in
    let gone = goes_on g.W.Sink.written g.W.Sink.has_failed c.args.sink.now c.loop-transaction.sink c.give_up.new.sink whole
    (after_give_up w seat (get_or items i 0)) (λ now. after_giving_up now seat (drop (i + 1) items))
    (subst (Under c.loop-transaction.sink) (given_next w seat items i c.loop-transaction-test.true) c.loop-transaction.invariant.gives_up)
    c.in_ok-give_up.ensures.does.prints in
    record {
      managers = c.in_ok-give_up.ensures.does.managers ∙ c.loop-transaction.invariant.managers;
      gives_up = subst (λ v. Under c.give_up.new.sink (after_giving_up v seat (drop (i + 1) items))) (sym c.in_ok-give_up.ensures.does.leaves) gone;
    }

pub returns-in_err-give_up : goal.returns-in_err-give_up
returns-in_err-give_up g c =
    let p = err_from_is_err_and c.from_residual-in_err-give_up.result c.from_residual-in_err-give_up.ensures.1 in
    let items = c.deref-transaction-items.result.now in
    let i = c.loop-transaction.transaction-index in
    let seat = c.args.seat in
    let w = value_of c.loop-transaction.self in
    let whole = after_giving_up (value_of c.args.self.now) seat items in
    let Under : Outcome WorldValue → Type 0 =
    λ outcome. IsUnderWay g.W.Sink.written g.W.Sink.has_failed c.args.sink.now c.loop-transaction.sink whole outcome in
    let run = timed_out (value_of c.args.self.now) c.args.self.now.managers.items seat c.index.result.now c.requires c.index.ensures items
    (c.deref-transaction-items.ensures.value ∙ c.in_ok-waiting.ensures) in
    record {
      does = rw (p.1, p.2) (record {
        managers = c.in_err-give_up.ensures.does.managers ∙ c.loop-transaction.invariant.managers;
        leaves = tt;
        prints = prints_same g.W.Sink.written g.W.Sink.has_failed (failed_with c.in_err-give_up.field-0.0) c.args.sink.now c.give_up.new.sink _ _
            (ap (λ r. r.text) (sym run))
            (stops_before g.W.Sink.written g.W.Sink.has_failed c.in_err-give_up.field-0.0 c.args.sink.now c.loop-transaction.sink c.give_up.new.sink whole
            (after_give_up w seat (get_or items i 0)) (λ now. after_giving_up now seat (drop (i + 1) items)) (λ now. after_send now seat)
            (subst Under (given_next w seat items i c.loop-transaction-test.true) c.loop-transaction.invariant.gives_up) c.in_err-give_up.ensures.does.prints);
      });
    }

pub returns : goal.returns
returns g c =
    let items = c.deref-transaction-items.result.now in
    let seat = c.args.seat in
    let w = value_of c.loop-transaction.self in
    let run = timed_out (value_of c.args.self.now) c.args.self.now.managers.items seat c.index.result.now c.requires c.index.ensures items
    (c.deref-transaction-items.ensures.value ∙ c.in_ok-waiting.ensures) in
    let none = given_none w seat items c.loop-transaction.transaction-index c.loop-transaction-test.false in
    record {
      does = record {
        managers = c.send.ensures.does.managers ∙ c.loop-transaction.invariant.managers;
        leaves = leaves_same c.send.result (value_of c.send.new.self) _ _ (sym run)
            (then_leaves g.W.Sink.written g.W.Sink.has_failed c.send.result c.args.sink.now c.loop-transaction.sink (value_of c.send.new.self)
            (after_giving_up (value_of c.args.self.now) seat items) _ w (λ now. after_send now seat) c.loop-transaction.invariant.gives_up none
            c.send.ensures.does.leaves);
        prints = prints_same g.W.Sink.written g.W.Sink.has_failed c.send.result c.args.sink.now c.send.new.sink _ _ (ap (λ r. r.text) (sym run))
            (then_prints g.W.Sink.written g.W.Sink.has_failed c.send.result c.args.sink.now c.loop-transaction.sink c.send.new.sink
            (after_giving_up (value_of c.args.self.now) seat items) _ w (λ now. after_send now seat) c.loop-transaction.invariant.gives_up none
            c.send.ensures.does.prints);
      };
    }

pub loop-transaction-init : goal.loop-transaction-init
loop-transaction-init g c = record {
  managers = refl;
  gives_up = begins g.W.Sink.written g.W.Sink.has_failed c.args.sink.now
      (after_giving_up (value_of c.args.self.now) c.args.seat c.deref-transaction-items.result.now);
}

pub give_up-requires : goal.give_up-requires
give_up-requires g c = subst (λ n. c.args.seat < n) (sym c.loop-transaction.invariant.managers) c.requires

pub send-requires : goal.send-requires
send-requires g c = subst (λ n. c.args.seat < n) (sym c.loop-transaction.invariant.managers) c.requires
