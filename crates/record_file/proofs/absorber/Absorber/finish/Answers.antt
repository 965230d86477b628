use Rattle.std.proofs.Common.{◌≡◌, length, ap, ◌∙◌}
use Rattle.record_file.specs.Feeding.{Absorbing, ending_at}
use Rattle.record_file.proofs.Absorbers.{finishes}
use Rattle.record_file.proofs.absorber.Absorber.finish.Goals as goal

pub returns-in-Ok : goal.returns-in-Ok
returns-in-Ok c =
    let a : Absorbing = record { awaited = c.self.inside.awaited; part = c.self.inside.part.items } in
    let is : c.end.result ≡ ending_at c.in-Ok.awaited (length a.part) = c.end.ensures ∙ ap (ending_at c.in-Ok.awaited) c.len.ensures.value in
    rw (← c.self.view_is, is) (record { finishes = finishes a c.in-Ok.awaited c.in-Ok.is })
