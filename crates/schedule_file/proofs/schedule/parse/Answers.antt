use Rattle.std.proofs.Common.{◌≡◌, ◌∙◌, Some, sym, ap}
use Rattle.text_words.specs.Text.{lines}
use Rattle.schedule_file.specs.declared.schedule_fault.ScheduleFault.TheVariants.{Memory}
use Rattle.schedule_file.specs.FirstFault.{fault_of}
use Rattle.schedule_file.specs.Schedule.{schedule_of_lines}
use Rattle.schedule_file.proofs.FirstFault.{first_plain}
use Rattle.schedule_file.proofs.schedule.parse.Goals as goal

pub returns-in-Some-clause-memory : goal.returns-in-Some-clause-memory
returns-in-Some-clause-memory c = λ e.
    let same : c.in-Some.fault ≡ Memory = cc in
    absurd (first_plain c.args.topology.now.nodes c.args.text.now
    (ap (λ t. fault_of (schedule_of_lines c.args.topology.now.nodes (lines t))) (sym c.as_bytes-in-Err-2.ensures.value) ∙ c.in-Some.ensures.found
    ∙ ap Some same))
