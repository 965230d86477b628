-- There are numbers for the first phase.
use Rattle.std.proofs.Common.{length, ap, ◌∙◌, arith}
use Rattle.sm_manager.specs.Manager.{Manager, Writing}
use Rattle.sm_manager.specs.Writing.{next_phase}
use Rattle.sm_manager.proofs.Begun.{first_phase_fits}
use Rattle.sm_manager.proofs.manager.Manager.write_steps.Goals as goal

pub send_next-requires-clause-numbers : goal.send_next-requires-clause-numbers
send_next-requires-clause-numbers c =
    let counter = c.reserve.ensures.counter ∙ ap (λ (x : Manager). x.counter) c.self.view_is in
    let steps = ap (λ (w : Writing). length (next_phase w.later).steps) c.in_ok-writing.ensures.writing in
    let fits = first_phase_fits c.args.self.now c.in_ok-writing.ensures.judged in
    omega (arith, counter, steps, fits)
