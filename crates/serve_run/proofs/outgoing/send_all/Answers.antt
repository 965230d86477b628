use Rattle.std.proofs.Common.{List, sym, ap, subst, ◌∙◌}
use Rattle.std.specs.List.{flat_map}
use Rattle.sm_manager.specs.declared.outgoing.Outgoing.{Outgoing}
use Rattle.sm_manager.specs.Manager.{emptied}
use Rattle.schedule_lines.specs.Outcome.{shows}
use Rattle.byte_io.proofs.Writing.{wrote}
use Rattle.schedule_lines.proofs.Printing.{IsUnderWay, goes_on, is_over}
use Rattle.sm_manager.proofs.Taking.{fewer_left, first_is, none_emptied, none_is, taken_emptied}
use Rattle.serve_run.specs.Served.{send_line}
use Rattle.serve_run.proofs.Turns.{told}
use Rattle.serve_run.proofs.outgoing.send_all.Goals as goal

pub loop-outgoing-preserved : goal.loop-outgoing-preserved
loop-outgoing-preserved g c =
    let out = c.in-Some.outgoing in
    let left = c.take_outgoing.new.self in
    let whole = told send_line c.args.manager.now.outgoing in
    let Under : List Outgoing → Type 0 = λ queue. IsUnderWay g.W.Sink.written g.W.Sink.has_failed c.args.sink.now c.loop-outgoing.sink whole (told send_line queue) in
    record {
      sends = goes_on g.W.Sink.written g.W.Sink.has_failed c.args.sink.now c.loop-outgoing.sink c.write_outgoing.new.sink whole
          (shows (send_line out) tt) (λ u. told send_line left.outgoing)
          (subst Under (first_is c.loop-outgoing.manager left out c.in-Some.ensures.packet c.in-Some.ensures.manager) c.loop-outgoing.invariant.sends)
          (wrote g.W.Sink.written g.W.Sink.has_failed _ c.loop-outgoing.sink c.write_outgoing.new.sink (send_line out) c.in_ok-write_outgoing.ensures.writes);
      keeps = ap emptied c.in-Some.ensures.manager ∙ taken_emptied c.loop-outgoing.manager ∙ c.loop-outgoing.invariant.keeps;
    }

pub loop-outgoing-smaller : goal.loop-outgoing-smaller
loop-outgoing-smaller g c =
    fewer_left c.loop-outgoing.manager c.take_outgoing.new.self c.in-Some.outgoing c.in-Some.ensures.packet c.in-Some.ensures.manager

pub returns-clause-manager : goal.returns-clause-manager
returns-clause-manager g c =
    c.in_default.ensures.manager ∙ none_emptied c.loop-outgoing.manager (sym c.in_default.ensures.packet) ∙ c.loop-outgoing.invariant.keeps

pub returns-clause-prints : goal.returns-clause-prints
returns-clause-prints g c =
    is_over g.W.Sink.written g.W.Sink.has_failed c.args.sink.now c.loop-outgoing.sink (told send_line c.args.manager.now.outgoing) _
    c.loop-outgoing.invariant.sends (ap (flat_map send_line) (none_is c.loop-outgoing.manager (sym c.in_default.ensures.packet)))
