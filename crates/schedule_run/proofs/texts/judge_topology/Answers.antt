use Rattle.std.proofs.Common.{◌∙◌, Err, sym, ap, subst, List, ℕ}
use Rattle.topo_file.specs.FirstFault.{first_line_fault}
use Rattle.topo_file.specs.Reading.{topology_of}
use Rattle.topo_file.specs.TopoFault.{IsRefused}
use Rattle.schedule_run.proofs.Judging.{spelled_badly, told_topology, topology_refused}
use Rattle.schedule_run.proofs.texts.judge_topology.Goals as goal

pub returns-in_default-clause-refused : goal.returns-in_default-clause-refused
returns-in_default-clause-refused c = λ script. rw c.refused.ensures (spelled_badly c.args.first c.args.bytes.now script c.in_default.ensures.cases.0)

pub returns-in-Ok-parse-clause-sound : goal.returns-in-Ok-parse-clause-sound
returns-in-Ok-parse-clause-sound c =
    told_topology c.args.bytes.now _ c.in-Ok.ensures.cases.1 (ap topology_of (sym c.in-Ok.ensures.cases.0) ∙ c.in-Ok-parse.ensures.reads)

pub returns-in-Err-clause-refused : goal.returns-in-Err-clause-refused
returns-in-Err-clause-refused c = λ script.
    rw c.refused-in-Err.ensures (topology_refused c.args.first c.args.bytes.now script c.in-Err.fault c.in-Ok.ensures.cases.1
    (subst (λ (t : List ℕ). IsRefused c.in-Err.fault (topology_of t)) c.in-Ok.ensures.cases.0 c.in-Err.ensures.reads)
    (λ e. ap first_line_fault (sym c.in-Ok.ensures.cases.0) ∙ c.in-Err.ensures.memory (ap Err e)))
