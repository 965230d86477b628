use Rattle.std.proofs.Common.{◌≡◌, ◌+◌, List, [], ◌++◌, Ok, Err, ℕ, take, length, sym, ap, ◌∙◌, subst, arith}
use Rattle.std.proofs.lemmas.List.{length-take-le}
use Rattle.std.proofs.lemmas.Result.{err_from_is_err_and}
use Rattle.record_file.specs.Feeding.{TakesAwaited, awaited_size}
use Rattle.record_file.proofs.PieceSteps.{empty_items, front-part, front-stops, front-whole}
use Rattle.record_file.proofs.absorber.take_front.Goals as goal

pub returns-in_err-behind : goal.returns-in_err-behind
returns-in_err-behind c =
    let p = err_from_is_err_and c.from_residual.result c.from_residual.ensures.1 in
    let empty : c.args.part.now.items ≡ [] = empty_items c.args.part.now.items c.if-is_empty.ensures in
    let n = c.len-size.result in
    let P : List ℕ → Type 0 =
    λ l. TakesAwaited c.args.awaited (l ++ take n c.args.bytes.now) (Err c.in_err-behind.field-0.0) c.args.store.now c.absorb.new.store in
    let is = front-stops c.args.awaited c.args.part.now.items c.args.bytes.now n c.in_err-behind.field-0.0 c.args.part.now.items c.args.store.now
    c.absorb.new.store
    (omega (arith, ap length empty, c.len-size.ensures)) (omega (arith, c.if-bytes-size.true)) (omega (arith, c.requires.in_reach))
    (subst P (sym empty) c.in_err-behind.ensures.takes) in
    rw (p.1, p.2) (record { takes = is })

pub returns-then-bytes-size : goal.returns-then-bytes-size
returns-then-bytes-size c =
    let empty : c.args.part.now.items ≡ [] = empty_items c.args.part.now.items c.if-is_empty.ensures in
    let n = c.len-size.result in
    let P : List ℕ → Type 0 = λ l. TakesAwaited c.args.awaited (l ++ take n c.args.bytes.now) (Ok c.in_ok-behind.behind) c.args.store.now c.absorb.new.store in
    record {
      takes = front-whole c.args.awaited c.args.part.now.items c.args.bytes.now n c.in_ok-behind.behind c.args.part.now.items c.args.store.now
          c.absorb.new.store
          (omega (arith, ap length empty, c.len-size.ensures))
          (omega (arith, c.requires.short, ap length empty, c.len-size.ensures)) (omega (arith, c.if-bytes-size.true)) (omega (arith, c.requires.in_reach))
          empty
          (subst P (sym empty) c.in_ok-behind.ensures.takes);
    }

pub returns-then-len-size : goal.returns-then-len-size
returns-then-len-size c = record {
  takes = front-part c.args.awaited c.args.part.now.items c.args.bytes.now c.min-count.result c.try_extend_from_slice.new.self.items c.args.store.now
      (omega (arith, c.min-count.ensures, c.requires.some, c.requires.short, c.len-size.ensures))
      (omega (arith, c.min-count.ensures)) (omega (arith, c.requires.in_reach)) c.in-Ok.ensures.ok
      (omega (arith, c.if-len-size.true, c.len-size.ensures));
}

pub returns-in_err-behind-2 : goal.returns-in_err-behind-2
returns-in_err-behind-2 c =
    let p = err_from_is_err_and c.from_residual-in_err-behind-2.result c.from_residual-in_err-behind-2.ensures.1 in
    let cut : length (take c.min-count.result c.args.bytes.now) ≡ c.min-count.result =
    length-take-le c.min-count.result c.args.bytes.now (omega (arith, c.min-count.ensures)) in
    let full : length c.args.part.now.items + c.min-count.result ≡ awaited_size c.args.awaited =
    omega (arith, c.min-count.ensures, c.if-len-size.false, c.in-Ok.ensures.len, c.len-size.ensures, c.requires.short, cut) in
    let joined : c.as_slice.result.now ≡ c.args.part.now.items ++ take c.min-count.result c.args.bytes.now = c.as_slice.ensures.value ∙ c.in-Ok.ensures.ok in
    let P : List ℕ → Type 0 = λ l. TakesAwaited c.args.awaited l (Err c.in_err-behind-2.field-0.0) c.args.store.now c.absorb-2.new.store in
    let is = front-stops c.args.awaited c.args.part.now.items c.args.bytes.now c.min-count.result c.in_err-behind-2.field-0.0
    c.try_extend_from_slice.new.self.items
    c.args.store.now c.absorb-2.new.store
    full (omega (arith, c.min-count.ensures)) (omega (arith, c.requires.in_reach))
    (subst P joined c.in_err-behind-2.ensures.takes) in
    rw (p.1, p.2) (record { takes = is })

pub returns : goal.returns
returns c =
    let cut : length (take c.min-count.result c.args.bytes.now) ≡ c.min-count.result =
    length-take-le c.min-count.result c.args.bytes.now (omega (arith, c.min-count.ensures)) in
    let full : length c.args.part.now.items + c.min-count.result ≡ awaited_size c.args.awaited =
    omega (arith, c.min-count.ensures, c.if-len-size.false, c.in-Ok.ensures.len, c.len-size.ensures, c.requires.short, cut) in
    let joined : c.as_slice.result.now ≡ c.args.part.now.items ++ take c.min-count.result c.args.bytes.now = c.as_slice.ensures.value ∙ c.in-Ok.ensures.ok in
    let P : List ℕ → Type 0 = λ l. TakesAwaited c.args.awaited l (Ok c.in_ok-behind-2.behind) c.args.store.now c.absorb-2.new.store in
    record {
      takes = front-whole c.args.awaited c.args.part.now.items c.args.bytes.now c.min-count.result c.in_ok-behind-2.behind c.clear.new.self.items
          c.args.store.now c.absorb-2.new.store full
          (omega (arith, full, c.requires.short)) (omega (arith, c.min-count.ensures)) (omega (arith, c.requires.in_reach)) c.clear.ensures
          (subst P joined c.in_ok-behind-2.ensures.takes);
    }
