use Rattle.std.proofs.Common.{◌≤◌, [], Err, refl, sym, ◌∙◌, subst, arith}
use Rattle.std.proofs.lemmas.Result.{err_from_is_err_and}
use Rattle.record_file.specs.Absorbs.{Absorbs}
use Rattle.record_file.specs.PieceFault.{file_fault_of}
use Rattle.byte_io.specs.Reading.{ReadingState, state_of}
use Rattle.record_file.proofs.AbsorbLemmas.{Progress, Progress-piece, absorbs-end, absorbs-refused, absorbs-stopped, nothing-read}
use Rattle.record_file.proofs.Beginnings.{answers-known}
use Rattle.byte_io.proofs.Readings.{IsWithin, fresh, none-taken, state_of-fresh}
use Rattle.record_file.proofs.absorb_all.absorb_by.Goals as goal

pub loop-count-init : goal.loop-count-init
loop-count-init g c =
    let start = state_of-fresh g.S.Source.state c.new-reading.result c.args.source.now
    c.new-reading.ensures.source c.new-reading.ensures.bytes c.new-reading.ensures.calls in
    let old : ReadingState = fresh g.S.Source.state c.args.source.now in
    let P : ReadingState → Type 0 = λ q. Progress old q c.new-absorber.result c.args.store.now c.args.store.now [] in
    record {
      same_source = refl;
      progress = (
        [],
        subst P (sym start)
            (nothing-read old c.new-absorber.result c.args.store.now (refl, refl) c.new-absorber.ensures (none-taken old (refl, refl))),
      );
    }

pub returns-in_err-count-clause-absorbs : goal.returns-in_err-count-clause-absorbs
returns-in_err-count-clause-absorbs g c =
    let p = err_from_is_err_and c.from_residual.result c.from_residual.ensures.1 in
    let old : ReadingState = fresh g.S.Source.state c.args.source.now in
    let mid : ReadingState = state_of g.S.Source.state c.loop-count.reading in
    let now : ReadingState = state_of g.S.Source.state c.piece.new.self in
    let so_far = c.loop-count.invariant.progress in
    let inside : IsWithin now = (c.piece.new.self.budget.bytes_in_range, c.piece.new.self.budget.calls_in_range) in
    let is : Absorbs g.S.Source.state
    (Err (file_fault_of c.in_err-count.field-0.0)) c.args.source.now c.piece.new.self.source.now c.args.store.now c.loop-count.store =
    absorbs-stopped old mid now c.loop-count.absorber _ _ so_far.0 c.piece.new.room _ so_far.1 (refl, refl) inside c.in_err-count.ensures.gives in
    rw (p.1, p.2) (grind (arith, is))

pub returns-then-count-eq0-clause-read : goal.returns-then-count-eq0-clause-read
returns-then-count-eq0-clause-read g c =
    let old : ReadingState = fresh g.S.Source.state c.args.source.now in
    let mid : ReadingState = state_of g.S.Source.state c.loop-count.reading in
    let now : ReadingState = state_of g.S.Source.state c.piece.new.self in
    let so_far = c.loop-count.invariant.progress in
    let inside : IsWithin now = (c.piece.new.self.budget.bytes_in_range, c.piece.new.self.budget.calls_in_range) in
    let gives = c.in_ok-count.ensures.gives in
    let other = (absorbs-end old mid now c.loop-count.absorber _ _ so_far.0 _ c.piece.new.room _ so_far.1 (refl, refl) inside gives c.if-count-eq0.true
    c.finish.ensures.finishes).1 in
    let works = gives.works in grind (arith, other, works)

pub returns-then-count-eq0-clause-absorbs : goal.returns-then-count-eq0-clause-absorbs
returns-then-count-eq0-clause-absorbs g c =
    let old : ReadingState = fresh g.S.Source.state c.args.source.now in
    let mid : ReadingState = state_of g.S.Source.state c.loop-count.reading in
    let now : ReadingState = state_of g.S.Source.state c.piece.new.self in
    let so_far = c.loop-count.invariant.progress in
    let inside : IsWithin now = (c.piece.new.self.budget.bytes_in_range, c.piece.new.self.budget.calls_in_range) in
    let is : Absorbs g.S.Source.state
    c.finish.result c.args.source.now c.piece.new.self.source.now c.args.store.now c.loop-count.store =
    (absorbs-end old mid now c.loop-count.absorber _ _ so_far.0 _ c.piece.new.room _ so_far.1 (refl, refl) inside c.in_ok-count.ensures.gives
    c.if-count-eq0.true
    c.finish.ensures.finishes).0 in
    grind (arith, is)

pub loop-count-preserved : goal.loop-count-preserved
loop-count-preserved g c =
    let old : ReadingState = fresh g.S.Source.state c.args.source.now in
    let mid : ReadingState = state_of g.S.Source.state c.loop-count.reading in
    let now : ReadingState = state_of g.S.Source.state c.piece.new.self in
    let so_far = c.loop-count.invariant.progress in
    let inside : IsWithin now = (c.piece.new.self.budget.bytes_in_range, c.piece.new.self.budget.calls_in_range) in
    let gives = c.in_ok-count.ensures.gives in
    record {
      same_source = c.piece.ensures.same_source ∙ c.loop-count.invariant.same_source;
      progress = (
        _,
        Progress-piece old mid now c.loop-count.absorber c.feed.new.self _ _ _ so_far.0 c.in_ok-count.count c.piece.new.room so_far.1 gives
            (omega (arith, c.if-count-eq0.false))
            c.in_ok-feed.ensures.feeds,
      );
    }

pub returns-in_err-feed-clause-read : goal.returns-in_err-feed-clause-read
returns-in_err-feed-clause-read g c =
    let least : c.in_ok-count.count ≤ 4096 = let fits = c.in_ok-count.ensures.gives.within in let most = c.requires.most in grind (arith, fits, most) in
    let p = err_from_is_err_and c.from_residual-in_err-feed.result c.from_residual-in_err-feed.ensures.1 in
    let old : ReadingState = fresh g.S.Source.state c.args.source.now in
    let mid : ReadingState = state_of g.S.Source.state c.loop-count.reading in
    let now : ReadingState = state_of g.S.Source.state c.piece.new.self in
    let so_far = c.loop-count.invariant.progress in
    let inside : IsWithin now = (c.piece.new.self.budget.bytes_in_range, c.piece.new.self.budget.calls_in_range) in
    let gives = c.in_ok-count.ensures.gives in
    let other = (absorbs-refused old mid now c.loop-count.absorber _ _ _ so_far.0 c.in_ok-count.count c.piece.new.room c.feed.new.self _ so_far.1 (refl, refl)
    inside
    gives (omega (arith, c.if-count-eq0.false)) least c.in_err-feed.ensures.feeds).1 in
    let works = gives.works in rw (p.1, p.2) (grind (arith, other, works))

pub returns-in_err-feed-clause-absorbs : goal.returns-in_err-feed-clause-absorbs
returns-in_err-feed-clause-absorbs g c =
    let least : c.in_ok-count.count ≤ 4096 = let fits = c.in_ok-count.ensures.gives.within in let most = c.requires.most in grind (arith, fits, most) in
    let p = err_from_is_err_and c.from_residual-in_err-feed.result c.from_residual-in_err-feed.ensures.1 in
    let old : ReadingState = fresh g.S.Source.state c.args.source.now in
    let mid : ReadingState = state_of g.S.Source.state c.loop-count.reading in
    let now : ReadingState = state_of g.S.Source.state c.piece.new.self in
    let so_far = c.loop-count.invariant.progress in
    let inside : IsWithin now = (c.piece.new.self.budget.bytes_in_range, c.piece.new.self.budget.calls_in_range) in
    let is : Absorbs g.S.Source.state
    (Err c.in_err-feed.field-0.0) c.args.source.now c.piece.new.self.source.now c.args.store.now c.feed.new.store =
    (absorbs-refused old mid now c.loop-count.absorber _ _ _ so_far.0 c.in_ok-count.count c.piece.new.room c.feed.new.self _ so_far.1 (refl, refl) inside
    c.in_ok-count.ensures.gives (omega (arith, c.if-count-eq0.false)) least c.in_err-feed.ensures.feeds).0 in
    rw (p.1, p.2) (grind (arith, is))

pub returns-in_err-feed-clause-known : goal.returns-in_err-feed-clause-known
returns-in_err-feed-clause-known g c = answers-known _ _ _ _ _ _ _ (returns-in_err-feed-clause-absorbs g c)
