use Rattle.std.proofs.Common.{◌+◌, ◌<◌, ◌≤◌, Ok, List, Option, ℕ, length, ap, subst}
use Rattle.std.specs.List.{range_with_len}
use Rattle.byte_io.specs.Writes.{Writes}
use Rattle.light_sweep.specs.LightSweep.{light_request}
use Rattle.sweep.specs.declared.vertex.Vertex.{Vertex}
use Rattle.schedule_lines.specs.Outcome.{Outcome, shows}
use Rattle.byte_io.proofs.Writing.{wrote}
use Rattle.schedule_lines.proofs.Printing.{IsUnderWay, goes_on, is_over}
use Rattle.schedule_lines.proofs.LinesFrom.{lines_from, lines_next, lines_none}
use Rattle.serve_run.specs.Decided.{light_line}
use Rattle.serve_run.proofs.Indices.{all_indices, index_there}
use Rattle.serve_run.proofs.light.show_requests.Goals as goal

pub loop-i-preserved : goal.loop-i-preserved
loop-i-preserved g c =
    let a = c.args.sweep.now in
    let i = c.loop-i.i in
    let line : ℕ → List ℕ = λ i. light_line (light_request a i) in
    let all = range_with_len 0 (length a.reached) in
    let whole = lines_from line all 0 in
    let below : i < length a.reached = subst (λ (xs : List Vertex). i < length xs) c.reached-i-end.ensures c.loop-i-test.true in
    let Under : Outcome (Unit {0}) → Type 0 = λ outcome. IsUnderWay g.W.Sink.written g.W.Sink.has_failed c.args.sink.now c.loop-i.sink whole outcome in
    let Written : Option (List ℕ) → Type 0 = λ request. Writes g.W.Sink.written g.W.Sink.has_failed (Ok c.in_ok-write_light.field-0)
    c.loop-i.sink c.write_light.new.sink
    (light_line request) in
    goes_on g.W.Sink.written g.W.Sink.has_failed c.args.sink.now c.loop-i.sink c.write_light.new.sink whole (shows (line i) tt)
    (λ u. lines_from line all (i + 1))
    (subst Under (lines_next line all i i (index_there (length a.reached) i below))
    c.loop-i.invariant)
    (wrote g.W.Sink.written g.W.Sink.has_failed c.in_ok-write_light.field-0 c.loop-i.sink c.write_light.new.sink (line i)
    (subst Written c.light_request.ensures c.in_ok-write_light.ensures.writes))

pub returns : goal.returns
returns g c =
    let a = c.args.sweep.now in
    let line : ℕ → List ℕ = λ i. light_line (light_request a i) in
    let all = range_with_len 0 (length a.reached) in
    let above : length a.reached ≤ c.loop-i.i = subst (λ (xs : List Vertex). length xs ≤ c.loop-i.i) c.reached-i-end.ensures c.loop-i-test.false in
    let past : length all ≤ c.loop-i.i = all_indices (length a.reached) c.loop-i.i above in
    record {
      prints = is_over g.W.Sink.written g.W.Sink.has_failed c.args.sink.now c.loop-i.sink (lines_from line all 0) _ c.loop-i.invariant
          (ap (λ r. r.text) (lines_none line all c.loop-i.i past));
    }
