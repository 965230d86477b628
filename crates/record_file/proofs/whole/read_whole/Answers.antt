use Rattle.std.proofs.Common.{ℕ, List, [], refl, sym, ◌∙◌, subst, arith, take}
use Rattle.std.proofs.lemmas.Result.{err_from_is_err_and}
use Rattle.byte_io.specs.Reading.{ReadingState, Takes, state_of}
use Rattle.record_file.specs.PieceFault.{file_fault_of}
use Rattle.record_file.specs.Whole.{FailsToRead, IsReadWhole}
use Rattle.record_file.specs.declared.file_fault.FileFault.TheVariants.{Memory, TooLong}
use Rattle.record_file.proofs.ReadWhole.{memory-below, stopped, too-long}
use Rattle.byte_io.proofs.Readings.{HasTaken, IsWithin, Takes-on, counted, fresh, none-taken, piece-taken, state_of-fresh}
use Rattle.record_file.proofs.whole.read_whole.Goals as goal

pub returns-then-is_spent-clause-fails : goal.returns-then-is_spent-clause-fails
returns-then-is_spent-clause-fails g c =
    let old : ReadingState = fresh g.S.Source.state c.args.source.now in
    let mid : ReadingState = state_of g.S.Source.state c.loop-bytes.reading in
    let now : ReadingState = state_of g.S.Source.state c.piece.new.self in
    let gives = c.in_ok-count.ensures.gives in
    let all = piece-taken old mid now c.loop-bytes.bytes.items c.in_ok-count.count c.piece.new.room c.loop-bytes.invariant.taken gives
    (omega (arith, c.if-count-eq0.false)) in
    let fails : FailsToRead g.S.Source.state c.args.source.now c.piece.new.self.source.now TooLong =
    record {
      taken = _;
      consumed = all.taken.consumed;
      why =
          (gives.works, too-long old now _ (refl, refl) all.taken all.each (c.is_spent.ensures.0 c.if-is_spent.true));
    } in
    grind (arith, fails)

pub returns-then-is_err-clause-fails : goal.returns-then-is_err-clause-fails
returns-then-is_err-clause-fails g c =
    let old : ReadingState = fresh g.S.Source.state c.args.source.now in
    let mid : ReadingState = state_of g.S.Source.state c.loop-bytes.reading in
    let now : ReadingState = state_of g.S.Source.state c.piece.new.self in
    let gives = c.in_ok-count.ensures.gives in
    let all = piece-taken old mid now c.loop-bytes.bytes.items c.in_ok-count.count c.piece.new.room c.loop-bytes.invariant.taken gives
    (omega (arith, c.if-count-eq0.false)) in
    let inside : IsWithin now = (c.piece.new.self.budget.bytes_in_range, c.piece.new.self.budget.calls_in_range) in
    let few = memory-below old mid now c.loop-bytes.bytes.items c.in_ok-count.count c.piece.new.room (refl, refl) inside c.loop-bytes.invariant.taken gives
    (omega (arith, c.if-count-eq0.false))
    (λ spent. let yes = c.is_spent.ensures.1 spent in let no = c.if-is_spent.false in absurd (cc)) in
    let fails : FailsToRead g.S.Source.state c.args.source.now c.piece.new.self.source.now Memory =
    record { taken = _; consumed = all.taken.consumed; why = (gives.works, few.0, few.1) } in
    grind (arith, fails)

pub loop-bytes-init : goal.loop-bytes-init
loop-bytes-init g c =
    let old : ReadingState = fresh g.S.Source.state c.args.source.now in
    let start = state_of-fresh g.S.Source.state c.new-reading.result c.args.source.now
    c.new-reading.ensures.source c.new-reading.ensures.bytes c.new-reading.ensures.calls in
    let P : ReadingState → Type 0 = λ q. HasTaken old q [] in
    let Q : List ℕ → Type 0 = HasTaken old (state_of g.S.Source.state c.new-reading.result) in
    record { same_source = refl; taken = subst Q (sym c.new-bytes.ensures.items) (subst P (sym start) (none-taken old (refl, refl))) }

pub loop-bytes-preserved : goal.loop-bytes-preserved
loop-bytes-preserved g c =
    let old : ReadingState = fresh g.S.Source.state c.args.source.now in
    let mid : ReadingState = state_of g.S.Source.state c.loop-bytes.reading in
    let now : ReadingState = state_of g.S.Source.state c.piece.new.self in
    let all = piece-taken old mid now c.loop-bytes.bytes.items c.in_ok-count.count c.piece.new.room c.loop-bytes.invariant.taken c.in_ok-count.ensures.gives
    (omega (arith, c.if-count-eq0.false)) in
    record { same_source = c.piece.ensures.same_source ∙ c.loop-bytes.invariant.same_source; taken = grind (arith, all) }

pub returns-in_err-count-clause-fails : goal.returns-in_err-count-clause-fails
returns-in_err-count-clause-fails g c =
    let p = err_from_is_err_and c.from_residual.result c.from_residual.ensures.1 in
    let old : ReadingState = fresh g.S.Source.state c.args.source.now in
    let mid : ReadingState = state_of g.S.Source.state c.loop-bytes.reading in
    let now : ReadingState = state_of g.S.Source.state c.piece.new.self in
    let s = stopped old mid now c.loop-bytes.bytes.items c.piece.new.room c.in_err-count.field-0.0 (refl, refl) c.loop-bytes.invariant.taken
    c.in_err-count.ensures.gives in
    let fails : FailsToRead g.S.Source.state c.args.source.now c.piece.new.self.source.now (file_fault_of c.in_err-count.field-0.0) =
    record { taken = s.bytes; consumed = s.consumed; why = s.why } in
    rw (p.1, p.2) (grind (arith, fails))

pub returns-then-count-eq0-clause-whole : goal.returns-then-count-eq0-clause-whole
returns-then-count-eq0-clause-whole g c =
    let old : ReadingState = fresh g.S.Source.state c.args.source.now in
    let mid : ReadingState = state_of g.S.Source.state c.loop-bytes.reading in
    let now : ReadingState = state_of g.S.Source.state c.piece.new.self in
    let gives = c.in_ok-count.ensures.gives in
    let none = c.if-count-eq0.true in
    let P : ℕ → Type 0 = λ n. Takes mid now (take n c.piece.new.room) in
    let all = Takes-on old mid now c.loop-bytes.bytes.items c.loop-bytes.invariant.taken.taken (subst P none gives.taken) in
    let size = counted old now c.loop-bytes.bytes.items (refl, refl) all in
    let least = gives.below none in
    let whole : IsReadWhole g.S.Source.state c.args.source.now c.piece.new.self.source.now c.loop-bytes.bytes.items =
    record { consumed = all.consumed; at_end = gives.end none; works = gives.works; short = omega (arith, size, least) } in
    grind (arith, whole)
