use Rattle.std.proofs.Common.{◌≡◌, ◌∙◌, get_or, arith, ap}
use Rattle.std.proofs.lemmas.Option.{get_or_from_slice_get}
use Rattle.std.proofs.lemmas.List.Edits.{get_or-remove_below}
use Rattle.std.proofs.lemmas.Result.{on_ok_weaker}
use Rattle.std.specs.List.{insert, remove}
use Rattle.std.proofs.Math.ListN.{set}
use Rattle.sm_manager.specs.Manager.{after_merge}
use Rattle.schedule_run.proofs.Merging.{among_others, put_again}
use Rattle.schedule_run.proofs.Seats.{with_one}
use Rattle.schedule_run.proofs.merge.merge_at.Goals.{then-seat-other, else-seat-other}
use Rattle.schedule_run.proofs.merge.merge_at.Goals as goal

pub returns-clause-ok : goal.returns-clause-ok
returns-clause-ok c = λ s o there also.
    let items = c.args.managers.now.items in
    let seat = c.args.seat in
    let other = c.args.other in
    let mine : c.remove-seated.result ≡ s = c.remove-seated.ensures.value ∙ get_or_from_slice_get items seat s c.remove-seated.result there in
    let x = c.index.result.now in
    let moved : get_or (remove items seat) c.if-seat-other.index x ≡ get_or items other x = (elim c.if-seat-other.branch [
      | then-seat-other w ↦ ap (λ k. get_or (remove items seat) k x) w.index-is ∙ among_others items seat other x c.requires.seat w.if-seat-other.true
      | else-seat-other w ↦ ap (λ k. get_or (remove items seat) k x) w.index-is
          ∙ get_or-remove_below items seat x other (let ne = c.requires.apart in omega arith) c.requires.seat
    ]) in
    let theirs : x ≡ o = c.index.ensures ∙ ap (λ xs. get_or xs c.if-seat-other.index x) c.remove-seated.ensures.items ∙ moved
    ∙ get_or_from_slice_get items other o x also in
    on_ok_weaker c.merge_from-merged.result
    (λ e. c.in-Ok.ensures.items
    ∙ ap (λ xs. insert xs seat (with_one c.remove-seated.result c.merge_from-merged.new.self)) c.remove-seated.ensures.items
    ∙ put_again items seat _ c.requires.seat
    ∙ ap (λ m. set items seat (with_one c.remove-seated.result m)) (e
    ∙ ap (after_merge c.remove-seated.result.manager) (c.store.ensures ∙ ap (λ t. t.manager.store) theirs))
    ∙ ap (λ t. set items seat (with_one t (after_merge t.manager o.manager.store))) mine)
    c.merge_from-merged.ensures.ok
