-- Where the last that waits ends, the next phase goes out, if there are numbers for it.
use Rattle.std.proofs.Common.{◌≡◌, ℕ, ◌+◌, Bool, true, Some, List, sym, ap, ◌∙◌, subst, arith, length, ◌++◌}
use Rattle.std.proofs.lemmas.Result.{err_from_is_err_and}
use Rattle.std.specs.Prelude.{drop, not, slice_get, ◌&&◌, ◌||◌}
use Rattle.sm_manager.specs.Manager.{Manager}
use Rattle.sm_manager.specs.Packets.{unless_spent}
use Rattle.sm_manager.specs.PlanFaults.{number_fault}
use Rattle.sm_manager.specs.declared.pending.Pending.{Pending}
use Rattle.sm_manager.specs.ManagerRequests.{AreNumbered, is_step, without_number}
use Rattle.sm_manager.specs.Writing.{count_after, next_pending, next_phase, without_empty_phases, after_step, steps_out}
use Rattle.sm_manager.proofs.Over.{WasLast, was_last, last_count, last_sent, numbers_there, over_fault}
use Rattle.sm_manager.proofs.manager.Manager.end_step.Goals as goal
use Rattle.sm_manager.specs.contracts.manager.Manager.{the_view}

numbered_then : {before m : Manager} → before ≡ m → AreNumbered before.counter before.pending → AreNumbered m.counter m.pending
numbered_then same numbered = subst (λ (x : Manager). AreNumbered x.counter x.pending) same numbered

-- the one that ended is the one at the index
step_then : {before m : Manager} {ps : List Pending} (q : Pending) (i : ℕ) → before ≡ m → ps ≡ before.pending → Some q ≡ slice_get ps i
    → ((p : Pending) → slice_get m.pending i ≡ Some p → is_step p ≡ true) → is_step q ≡ true
step_then q i same kept there steps =
    steps q (ap (λ (x : Manager). slice_get x.pending i) (sym same) ∙ ap (λ (xs : List Pending). slice_get xs i) (sym kept) ∙ sym there)

pub returns-in_err-make_room-clause-judged : goal.returns-in_err-make_room-clause-judged
returns-in_err-make_room-clause-judged c p at =
    let q = err_from_is_err_and c.from_residual.result c.from_residual.ensures.1 in
    let judged = c.in_err-make_room.ensures.judged in
    let same = over_fault c.args.self.now c.args.index p c.args.was_done (numbered_then c.self.view_is c.make_room.ensures.numbered) at (c.requires.step p at)
    in
    let counter = ap (λ (x : Manager). x.counter) c.self.view_is in
    let all : c.self.inside.requests.counter + c.count_after-count.result ≡ c.args.self.now.counter + count_after c.args.self.now =
    ap (λ n. n + c.count_after-count.result) counter ∙ ap (λ n. c.args.self.now.counter + n) c.count_after-count.ensures in
    rw (q.1, q.2, same, ← all) judged

last_then : (c : goal.After-send_next-arg-then-has_no_step-1) → WasLast (the_view c.self.inside) c.args.index c.end-ended.result c.in-Some.writing
last_then c =
    was_last (the_view c.self.inside) c.args.index c.end-ended.result c.in-Some.writing
    c.make_room.new.requests.pending c.end-ended.new.self.pending c.has_no_step.result
    c.make_room.ensures.numbered
    c.make_room.ensures.pending c.end-ended.ensures.request (step_then c.end-ended.result c.args.index c.self.view_is c.make_room.ensures.pending
    c.end-ended.ensures.request c.requires.step) c.end-ended.ensures.pending c.in-Some.is c.has_no_step.ensures c.if-has_no_step.true

last_sent_then : (c : goal.After-send_next) → WasLast (the_view c.self.inside) c.args.index c.end-ended.result c.in-Some.writing
last_sent_then c =
    was_last (the_view c.self.inside) c.args.index c.end-ended.result c.in-Some.writing
    c.make_room.new.requests.pending c.end-ended.new.self.pending c.has_no_step.result
    c.make_room.ensures.numbered
    c.make_room.ensures.pending c.end-ended.ensures.request (step_then c.end-ended.result c.args.index c.self.view_is c.make_room.ensures.pending
    c.end-ended.ensures.request c.requires.step) c.end-ended.ensures.pending c.in-Some.is c.has_no_step.ensures c.if-has_no_step.true

whole : (c : goal.After-send_next-arg-then-has_no_step-1) → c.count_after-count.result ≡ length (next_phase c.note.new.self.later).steps
whole c =
    c.count_after-count.ensures
    ∙ ap count_after (sym c.self.view_is)
    ∙ last_count (the_view c.self.inside) c.args.index c.end-ended.result c.in-Some.writing (last_then c)
    ∙ ap (λ ps. length (next_phase ps).steps) (sym c.note.ensures.later)

pub send_next-requires-clause-numbers : goal.send_next-requires-clause-numbers
send_next-requires-clause-numbers c =
    let count = whole c in
    let bound = numbers_there _ c.in_ok-make_room.ensures.judged in
    let ended = c.end-ended.ensures.counter in
    let room = c.make_room.ensures.counter in
    omega (arith, count, bound, ended, room)

pub send_next-requires-clause-room : goal.send_next-requires-clause-room
send_next-requires-clause-room c =
    let count = whole c in
    let room = c.in_ok-make_room.ensures.room in
    let ended = c.end-ended.ensures.room in
    omega (arith, count, room, ended)

pub send_next-requires-clause-outgoing : goal.send_next-requires-clause-outgoing
send_next-requires-clause-outgoing c =
    let count = whole c in
    let more = c.in_ok-make_room.ensures.more in
    omega (arith, count, more)

pub returns-then-has_no_step-clause-judged : goal.returns-then-has_no_step-clause-judged
returns-then-has_no_step-clause-judged c p at =
    over_fault c.args.self.now c.args.index p c.args.was_done (numbered_then c.self.view_is c.make_room.ensures.numbered) at (c.requires.step p at)
    ∙ sym (ap number_fault (ap (λ (x : Manager). x.counter + c.count_after-count.result) c.self.view_is
    ∙ ap (λ n. c.args.self.now.counter + n) c.count_after-count.ensures))
    ∙ c.in_ok-make_room.ensures.judged

pub returns-then-has_no_step-clause-ok : goal.returns-then-has_no_step-clause-ok
returns-then-has_no_step-clause-ok c p at =
    let m = the_view c.self.inside in
    let w = c.in-Some.writing in
    let sent = c.send_next.new.self in
    let left = c.send_next.new.requests in
    let out = c.send_next.new.outgoing in
    subst
    (λ (x : Manager). record m { writing = Some sent; counter = left.counter; pending = left.pending; outgoing = out.items }
    ≡ (unless_spent x (after_step x p c.args.was_done)).manager)
    c.self.view_is
    (last_sent m c.args.index c.end-ended.result p c.args.was_done w sent left.counter left.pending out.items
    (last_sent_then c)
    (ap number_fault (ap (λ n. m.counter + n) (sym (c.count_after-count.ensures ∙ ap count_after (sym c.self.view_is))))
    ∙ c.in_ok-make_room.ensures.judged)
    (subst (λ (x : Manager). slice_get x.pending c.args.index ≡ Some p) (sym c.self.view_is) at)
    (c.send_next.ensures.later ∙ ap (λ ps. without_empty_phases (drop 1 ps)) c.note.ensures.later)
    (c.send_next.ensures.failed ∙ c.note.ensures.failed ∙ ap (λ (b : Bool). w.has_failed || (b && not c.args.was_done)) c.counts.ensures)
    (c.send_next.ensures.counter ∙ ap (λ n. n + length (next_phase c.note.new.self.later).steps) same_counter
    ∙ ap (λ ps. m.counter + length (next_phase ps).steps) c.note.ensures.later)
    (c.send_next.ensures.pending ∙ ap (λ ps. ps ++ next_pending c.end-ended.new.self.counter c.note.new.self.later)
    (c.end-ended.ensures.pending ∙ ap (without_number c.end-ended.result.number) c.make_room.ensures.pending)
    ∙ (λ i. without_number c.end-ended.result.number m.pending ++ next_pending (same_counter i) (c.note.ensures.later i)))
    (c.send_next.ensures.outgoing ∙ (λ i. c.make_room.ensures.outgoing i ++ steps_out (same_counter i) (next_phase (c.note.ensures.later i)).steps)))
  where
    same_counter : c.end-ended.new.self.counter ≡ c.self.inside.requests.counter
    same_counter = c.end-ended.ensures.counter ∙ c.make_room.ensures.counter
