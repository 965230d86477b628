-- What the lines tell, and what they are read as.
use Rattle.std.proofs.Common.{◌≡◌, ◌∙◌, Some, sym, ap}
use Rattle.text_words.specs.Text.{lines}
use Rattle.topo_file.specs.FirstFault.{first_line_fault}
use Rattle.topo_file.specs.declared.topo_fault.TopoFault.TheVariants.{Memory}
use Rattle.topo_file.specs.Reading.{topology_of, topology_in, nodes_of_lines}
use Rattle.topo_file.proofs.FirstFault.{first_plain, first_refuses, told_soundly}
use Rattle.topo_file.proofs.Folds.{refused_then}
use Rattle.topo_file.proofs.WellFormed.{told_fits}
use Rattle.topo_file.proofs.topology.parse.Goals as goal

pub finish-requires : goal.finish-requires
finish-requires c = told_fits _ _ c.in-Ok.ensures

pub returns-in-Ok-clause-reads : goal.returns-in-Ok-clause-reads
unfolding topology_of
returns-in-Ok-clause-reads c = rw (← c.as_bytes.ensures.value, c.in-Ok.ensures) c.finish.ensures

pub returns-in-Ok-clause-memory : goal.returns-in-Ok-clause-memory
returns-in-Ok-clause-memory c = λ e. rw (← c.as_bytes.ensures.value) (told_soundly c.as_bytes.result.now _ c.in-Ok.ensures)

pub returns-in-Some-clause-reads : goal.returns-in-Some-clause-reads
returns-in-Some-clause-reads c =
    first_refuses c.args.text.now c.in-Some.fault (ap first_line_fault (sym c.as_bytes-in-Err-2.ensures.value) ∙ sym c.first_line_fault.ensures ∙ c.in-Some.is)

pub returns-in-Some-clause-memory : goal.returns-in-Some-clause-memory
returns-in-Some-clause-memory c = λ e.
    let same : c.in-Some.fault ≡ Memory = cc in
    absurd (first_plain c.args.text.now (ap first_line_fault (sym c.as_bytes-in-Err-2.ensures.value) ∙ sym c.first_line_fault.ensures ∙ c.in-Some.is
    ∙ ap Some same))

pub returns-in-Err-clause-reads : goal.returns-in-Err-clause-reads
unfolding topology_of
returns-in-Err-clause-reads c = rw (← c.as_bytes.ensures.value) (refused_then _ (nodes_of_lines (lines c.as_bytes.result.now)) topology_in c.in-Err.ensures)
