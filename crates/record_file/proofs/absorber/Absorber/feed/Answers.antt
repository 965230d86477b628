use Rattle.std.proofs.Common.{◌≡◌, refl, sym, ap, ◌∙◌}
use Rattle.record_file.specs.Feeding.{Absorbing}
use Rattle.record_file.proofs.Absorbers.{answer_of, feeds}
use Rattle.record_file.proofs.absorber.Absorber.feed.Goals.{in-Ok-awaited, in-Err-awaited}
use Rattle.record_file.proofs.absorber.Absorber.feed.Goals as goal

pub returns : goal.returns
returns c =
    let a : Absorbing = record { awaited = c.self.inside.awaited; part = c.self.inside.part.items } in
    let b : Absorbing = record { awaited = c.take_piece-self-inside.result; part = c.take_piece-self-inside.new.part.items } in
    let is : c.match-self-2.result ≡ answer_of c.take_piece-self-inside.result = elim c.match-self-2.branch [
      | in-Ok-awaited w ↦ w.result-is ∙ ap answer_of (sym w.in-Ok-awaited.is)
      | in-Err-awaited w ↦ w.result-is ∙ ap answer_of (sym w.in-Err-awaited.is)
    ] in
    let fed = feeds a b c.in-Ok.awaited c.args.piece.now c.take_piece-self-inside.result c.args.store.now c.take_piece-self-inside.new.store c.in-Ok.is refl
    c.take_piece-self-inside.ensures.in_reach c.take_piece-self-inside.ensures.takes in
    rw (← c.self.view_is, is) (record { feeds = fed })
