use Rattle.std.proofs.Common.{[], Err, length, refl, ap, arith}
use Rattle.std.proofs.lemmas.List.{length-take-le}
use Rattle.std.proofs.lemmas.Result.{err_from_is_err_and}
use Rattle.record_file.specs.Feeding.{TakesPiece}
use Rattle.record_file.proofs.PieceSteps.{empty_items, piece-late, piece-next, piece-offset, piece-stops, takes-none}
use Rattle.record_file.proofs.absorber.take_piece.Goals as goal

pub loop-rest-init : goal.loop-rest-init
loop-rest-init c = record {
  taken = ([], refl, λ fed h. takes-none c.args.awaited c.args.part.now.items fed c.args.store.now h);
  short = c.requires.in_reach.0;
  offset = omega (arith, length-take-le c.min-count.result c.args.piece.now (omega (arith, c.min-count.ensures)));
}

pub returns-in_err-behind-clause-takes : goal.returns-in_err-behind-clause-takes
returns-in_err-behind-clause-takes c =
    let p = err_from_is_err_and c.from_residual.result c.from_residual.ensures.1 in
    let so_far = c.loop-rest.invariant.taken in
    let is : TakesPiece c.args.awaited c.args.part.now.items c.args.piece.now (Err c.in_err-behind.field-0.0) c.take_front.new.part.items c.args.store.now
    c.take_front.new.store =
    piece-stops c.args.awaited c.args.part.now.items c.args.piece.now c.min-count.result so_far.0 c.loop-rest.rest.now c.loop-rest.next c.loop-rest.part.items
    c.in_err-behind.field-0.0 c.take_front.new.part.items c.args.store.now c.loop-rest.store c.take_front.new.store so_far.2 c.in_err-behind.ensures.takes
    so_far.1 in
    rw (p.1, p.2) is

pub loop-rest-preserved : goal.loop-rest-preserved
loop-rest-preserved c =
    let some = c.in_ok-behind.ensures.takes in record {
      taken = piece-next c.args.awaited c.args.part.now.items c.args.piece.now c.min-count.result c.loop-rest.rest.now c.loop-rest.next c.loop-rest.part.items
          c.in_ok-behind.behind c.in_ok-behind.taken c.take_front.new.part.items c.args.store.now c.loop-rest.store c.take_front.new.store
          c.loop-rest.invariant.taken some;
      short = some.short;
      offset = piece-offset c.loop-rest.next c.loop-rest.part.items c.loop-rest.rest.now c.in_ok-behind.behind c.in_ok-behind.taken c.take_front.new.part.items
          c.loop-rest.store c.take_front.new.store _ some c.loop-rest.invariant.offset;
    }

pub returns-then-count-reach-clause-takes : goal.returns-then-count-reach-clause-takes
returns-then-count-reach-clause-takes c =
    let so_far = c.loop-rest.invariant.taken in
    piece-late c.args.awaited c.args.part.now.items c.args.piece.now c.min-count.result so_far.0 c.loop-rest.rest.now c.loop-rest.next c.loop-rest.part.items
    c.loop-rest.part.items c.args.store.now c.loop-rest.store so_far.2 so_far.1
    (ap length (empty_items c.loop-rest.rest.now c.loop-rest-test.ensures)) (omega (arith, c.min-count.ensures))
    (omega (arith, c.if-count-reach.true, c.offset.ensures, c.len.ensures.value, c.requires.in_reach.1))
